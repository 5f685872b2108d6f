-- What holds over the first nodes and flows of longer lists holds over the lists.
use Rattle.std.proofs.Common.{◌≡◌, ℕ, suc, ◌+◌, ◌-◌, ◌*◌, ◌/◌, ◌%◌, ◌^◌, ◌<◌, ◌≤◌, false, ◌≢◌, List, [], ◌++◌, length, get_or, take, drop, sym, refl, ap, ◌∙◌, subst, arith}
use native.Mathlib.Decide.{dec_lt}
use Rattle.std.proofs.lemmas.List.{get_or-take, get_or-drop, get_or_append_left, get_or-append_right, length-append, length-drop, length-take-le}
use Rattle.flows.specs.declared.records.NodeRecord.{NodeRecord}
use Rattle.flows.specs.declared.records.FlowRecord.{FlowRecord}
use Rattle.flows.specs.Graph.{graph, whole, holds, no_node, no_flow, relabeled}
use Rattle.flows.specs.Certificate.{distance, arrival, Certified}
use Rattle.flows.specs.Fitting.{Fitting, SmallMarks}
use Rattle.flows.specs.Settled.{Relabeled, Settled}
use Rattle.flows.proofs.Trails.{shortest_paths}

module _ (ns : List NodeRecord) (fl : List FlowRecord) (rows : List (List ℕ)) (N F : ℕ) (W : List ℕ) (node_room : N ≤ length ns) (flow_room : F ≤ length fl) where
  node_count : length (take N ns) ≡ N
  node_count = length-take-le N ns node_room

  flow_count : length (take F fl) ≡ F
  flow_count = length-take-le F fl flow_room

  pub fits_first : Fitting (graph ns fl rows N F) W → Fitting (whole (take N ns) (take F fl) rows) W
  fits_first fit = record {
    few_nodes = omega (arith, node_count, fit.few_nodes);
    few_flows = omega (arith, flow_count, fit.few_flows);
    nodes_room = omega arith;
    flows_room = omega arith;
    words_room = omega (arith, node_count, fit.words_room);
    joined = λ f l.
        let lf : f < F = omega (arith, flow_count) in
        subst (λ (x : FlowRecord). (x.«from» < length (take N ns)) × (x.to < length (take N ns))) (sym (get_or-take F fl f no_flow lf))
        (omega (arith, node_count, (fit.joined f lf).0), omega (arith, node_count, (fit.joined f lf).1));
    stepped = λ f l.
        let lf : f < F = omega (arith, flow_count) in
        subst (λ (x : FlowRecord). x.step < length rows) (sym (get_or-take F fl f no_flow lf)) (fit.stepped f lf);
    bounded = fit.bounded;
  }

  -- what was settled over the first nodes and flows
  module _ (new : List NodeRecord) (W' : List ℕ) (done : Settled (take F fl) rows (length (take N ns)) (length (take F fl)) (take N ns) new W W') where
    abbrev pub after : List NodeRecord
    after = new ++ drop N ns

    new_long : length new ≡ N
    new_long = done.nodes_long ∙ node_count

    first : (n : ℕ) → n < N → get_or after n no_node ≡ get_or new n no_node
    first n l = get_or_append_left new (drop N ns) no_node n (omega (arith, new_long))

    later : (n : ℕ) → N ≤ n → get_or after n no_node ≡ get_or ns n no_node
    later n l =
        let back : N + (n - N) ≡ n = omega arith in
        get_or-append_right new (drop N ns) N n no_node new_long l ∙ get_or-drop N ns (n - N) no_node ∙ ap (λ k. get_or ns k no_node) back

    flow_same : (f : ℕ) → f < F → get_or (take F fl) f no_flow ≡ get_or fl f no_flow
    flow_same f l = get_or-take F fl f no_flow l

    joined : (f : ℕ) → f < F → ((get_or (take F fl) f no_flow).«from» < N) × ((get_or (take F fl) f no_flow).to < N)
    joined f l = let j = done.fits.joined f (omega (arith, flow_count)) in (omega (arith, node_count, j.0), omega (arith, node_count, j.1))

    pub after_long : length after ≡ length ns
    after_long = omega (arith, length-append new (drop N ns), length-drop N ns, new_long)

    pub after_past : (i : ℕ) → 128 * N ≤ i → get_or W' i 0 ≡ get_or W i 0
    after_past i l = done.past i (omega (arith, node_count))

    pub after_small : (n : ℕ) → n < N → (get_or after n no_node).label < 2 ^ 64
    after_small n l = subst (λ (r : NodeRecord). r.label < 2 ^ 64) (sym (first n l)) (done.small n (omega (arith, node_count)))

    pub after_same : Relabeled N ns after
    after_same n = go (dec_lt n N)
      where
        go : Dec (n < N) → (get_or after n no_node ≡ relabeled (get_or ns n no_node) (get_or after n no_node).label) × (N ≤ n → get_or after n no_node ≡ get_or ns n no_node)
        go (yes l) = (
          subst (λ (r : NodeRecord). r ≡ relabeled (get_or ns n no_node) r.label) (sym (first n l))
              ((done.same n).0 ∙ ap (λ (r : NodeRecord). relabeled r (get_or new n no_node).label) (get_or-take N ns n no_node l)),
          λ past. absurd (omega arith),
        )
        go (no l) =
            let same = later n (omega arith) in
            (subst (λ (r : NodeRecord). r ≡ relabeled (get_or ns n no_node) r.label) (sym same) refl, λ _. same)

    pub after_certified : Certified (graph after fl rows N F) W'
    after_certified =
        let all = done.certified in (
          λ n v ln lv h at. subst (λ (r : NodeRecord). holds r.marks v) (sym (first n ln))
              (all.0 n v (omega (arith, node_count)) lv (subst (λ (r : NodeRecord). holds r.label v) (first n ln) h) at),
          λ n v ln lv h far.
              let came = all.1 n v (omega (arith, node_count)) lv (subst (λ (r : NodeRecord). holds r.label v) (first n ln) h) far in
              let f : ℕ = arrival W' n v / 64 in
              let w : ℕ = arrival W' n v % 64 in
              let lf : f < F = omega (arith, flow_count, came.0) in
              subst (λ (x : FlowRecord). (f < F) × (x.to ≡ n) × ((get_or after n no_node).verified ≡ false) × holds (get_or after x.«from» no_node).label w
              × (distance W' n v ≡ suc (distance W' x.«from» w)) × (get_or (get_or rows x.step []) w 0 ≡ v) × (v ≢ 0)) (flow_same f lf) (
                lf,
                came.1,
                subst (λ (r : NodeRecord). r.verified ≡ false) (sym (first n ln)) came.2,
                subst (λ (r : NodeRecord). holds r.label w) (sym (first _ (joined f lf).0)) came.3,
                came.4,
                came.5,
                came.6,
              ),
          λ n v ln lv h.
              let near = all.2 n v (omega (arith, node_count)) lv (subst (λ (r : NodeRecord). holds r.marks v) (first n ln) h) in
              (subst (λ (r : NodeRecord). holds r.label v) (sym (first n ln)) near.0, near.1),
          λ f w lf lw.
              subst (λ (x : FlowRecord). holds (get_or after x.«from» no_node).label w → get_or (get_or rows x.step []) w 0 ≢ 0 → (get_or after x.to no_node).verified ≡ false
              → holds (get_or after x.to no_node).label (get_or (get_or rows x.step []) w 0)
              × (distance W' x.to (get_or (get_or rows x.step []) w 0) ≤ suc (distance W' x.«from» w))) (flow_same f lf)
              (λ h some open_end.
              let near = all.3 f w (omega (arith, flow_count)) lw (subst (λ (r : NodeRecord). holds r.label w) (first _ (joined f lf).0) h) some
              (subst (λ (r : NodeRecord). r.verified ≡ false) (first _ (joined f lf).1) open_end) in
              (subst (λ (r : NodeRecord). holds r.label (get_or (get_or rows (get_or (take F fl) f no_flow).step []) w 0)) (sym (first _ (joined f lf).1)) near.0, near.1)),
        )

    after_fits : Fitting (graph after fl rows N F) W'
    after_fits = record {
      few_nodes = omega (arith, node_count, done.fits.few_nodes);
      few_flows = omega (arith, flow_count, done.fits.few_flows);
      nodes_room = omega (arith, after_long);
      flows_room = flow_room;
      words_room = omega (arith, node_count, done.fits.words_room);
      joined = λ f l. subst (λ (x : FlowRecord). (x.«from» < N) × (x.to < N)) (flow_same f l) (joined f l);
      stepped = λ f l. subst (λ (x : FlowRecord). x.step < length rows) (flow_same f l) (done.fits.stepped f (omega (arith, flow_count)));
      bounded = done.fits.bounded;
    }

    after_small_marks : SmallMarks (graph after fl rows N F)
    after_small_marks n l = subst (λ (r : NodeRecord). r.marks < 2 ^ 64) (sym (first n l)) (done.small_marks n (omega (arith, node_count)))

    -- the same over the whole lists
    pub after_settled : Settled fl rows N F ns after W W'
    after_settled =
        let paths = shortest_paths (graph after fl rows N F) W' after_fits.joined after_fits.bounded after_small_marks after_certified in
        record {
          same = after_same;
          nodes_long = after_long;
          past = after_past;
          words_long = done.words_long;
          small = after_small;
          small_marks = after_small_marks;
          fits = after_fits;
          certified = after_certified;
          reached = paths.0;
          complete = paths.1;
        }

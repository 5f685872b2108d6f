-- How a round goes on, and how one round follows another.
use Rattle.std.proofs.Common.{◌≡◌, ℕ, zero, suc, ◌+◌, ◌*◌, ◌/◌, ◌%◌, ◌^◌, ◌<◌, ◌≤◌, min, sum, false, ◌≢◌, List, [], length, get_or, sym, refl, ap, ◌∙◌, subst, ⊎_elim, add-one, arith}
use native.Mathlib.Decide.{dec_lt, ℕ_discrete}
use Rattle.flows.specs.declared.records.NodeRecord.{NodeRecord}
use Rattle.flows.specs.declared.records.FlowRecord.{FlowRecord}
use Rattle.flows.specs.Graph.{Graph, graph, holds, no_node, node_at, flow_at, through}
use Rattle.flows.specs.Certificate.{distance, arrival, Arrived, Near, Certified}
use Rattle.flows.specs.Fitting.{Bounded, SmallMarks, Fitting}
use Rattle.flows.specs.Settled.{Relabeled, Beyond}
use Rattle.flows.specs.Fronts.{Empty}
use Rattle.flows.specs.Rounds.{Spread, Led, Grown, Starts, held_count, sum_below}
use lib.Pow.{pow-lt}
use lib.Bits.{or_lt}
use Rattle.flows.proofs.Relabels.{same_verified, relabeled_none, relabeled_more}
use Rattle.flows.proofs.Sets.{none_in, put_other}
use Rattle.flows.proofs.Sums.{sum_more, sum_bound}
use Rattle.flows.proofs.Listings.{sum_none, none_of_sum}
use Rattle.flows.proofs.Puts.{Put, put_verified, put_marks, label_other, label_kept, label_cases, label_new, next_kept, next_cases, next_new}

-- what is led on stays so
pub led_kept : (ns ns' : List NodeRecord) (fl : List FlowRecord) (rw' : List (List ℕ)) (N F : ℕ) (W W' fresh next next' : List ℕ) (d f k : ℕ)
    → Bounded (graph ns fl rw' N F) 64 → Grown N ns ns' W W' next next'
    → Led (graph ns fl rw' N F) W fresh d f k → Led (graph ns' fl rw' N F) W' fresh d f k
led_kept ns ns' fl rw' N F W W' fresh next next' d f k bounded grown led w lw h some open_end =
    let was = led w lw h some (sym (same_verified ns ns' grown.same _) ∙ open_end) in
    grown.near _ _ _ (bounded _ _) was.0 was.1

module _ (ns ns' : List NodeRecord) (fl : List FlowRecord) (rw' : List (List ℕ)) (N F : ℕ) (W W' fresh next next' : List ℕ) (b y d a : ℕ)
    (p : Put ns ns' W W' next next' b y d a) (new : holds (get_or ns b no_node).label y → ⊥) where
  -- what was in a label keeps its words
  words_kept : (n v : ℕ) → v < 64 → holds (get_or ns n no_node).label v
      → (distance W' n v ≡ distance W n v) × (arrival W' n v ≡ arrival W n v)
  words_kept n v lv h = p.words_other n v lv (λ e i. new (subst (λ k. holds (get_or ns b no_node).label k) i (subst (λ k. holds (get_or ns k no_node).label v) e h)))

  near_kept : (n v k : ℕ) → v < 64 → Near (graph ns fl rw' N F) W n v k → Near (graph ns' fl rw' N F) W' n v k
  near_kept n v k lv near = (label_kept p n v near.0, omega (arith, (words_kept n v lv near.0).0, near.1))

  arrived_kept : (n v f w : ℕ) → v < 64 → w < 64 → holds (get_or ns n no_node).label v
      → Arrived (graph ns fl rw' N F) W n v f w → Arrived (graph ns' fl rw' N F) W' n v f w
  arrived_kept n v f w lv lw held came = (
    came.0,
    came.1,
    put_verified p n ∙ came.2,
    label_kept p _ w came.3,
    (words_kept n v lv held).0 ∙ came.4 ∙ ap suc (sym (words_kept _ w lw came.3).0),
    came.5,
    came.6,
  )

  pub put_spread : (f w : ℕ) → Fitting (graph ns' fl rw' N F) W' → length next' ≡ 4096
      → b < N → y < 64 → y ≢ 0 → (get_or ns b no_node).verified ≡ false
      → f < F → (flow_at (graph ns fl rw' N F) f).to ≡ b → w < 64 → holds (get_or ns (flow_at (graph ns fl rw' N F) f).«from» no_node).label w
      → distance W (flow_at (graph ns fl rw' N F) f).«from» w ≡ d → through (graph ns fl rw' N F) f w ≡ y → a ≡ 64 * f + w
      → Spread (graph ns fl rw' N F) W fresh next d → Spread (graph ns' fl rw' N F) W' fresh next' d
  put_spread f w fit room lb ly some open_end lf ends lw held far makes is s = record {
    fit = fit;
    fresh_long = s.fresh_long;
    next_long = room;
    fresh_within = s.fresh_within;
    next_within = λ n ne. inside n ne (ℕ_discrete n b);
    small = λ n ln. small_still n ln (ℕ_discrete n b);
    grounded = λ n v ln lv h none. ⊎_elim
        (λ old. subst (λ q. holds q v) (sym (put_marks p n)) (s.grounded n v ln lv old (omega (arith, (words_kept n v lv old).0))))
        (λ here. absurd (omega (arith, none, far_here n v here))) (label_cases p n v h);
    linked = λ n v ln lv h far'. ⊎_elim
        (λ old. subst (λ q. Arrived (graph ns' fl rw' N F) W' n v (q / 64) (q % 64)) (sym (words_kept n v lv old).1)
        (arrived_kept n v _ _ lv (omega arith) old (s.linked n v ln lv old (λ z. far' ((words_kept n v lv old).0 ∙ z)))))
        (λ here. arrived_here n v here) (label_cases p n v h);
    marked = λ n v ln lv h. near_kept n v 0 lv (s.marked n v ln lv (subst (λ q. holds q v) (put_marks p n) h));
    fresh_is = λ n v ln lv h. let was = s.fresh_is n v ln lv h in (label_kept p n v was.0, (words_kept n v lv was.0).0 ∙ was.1);
    fresh_has = λ n v ln lv h at. ⊎_elim
        (λ old. s.fresh_has n v ln lv old (sym (words_kept n v lv old).0 ∙ at))
        (λ here. absurd (omega (arith, at, far_here n v here))) (label_cases p n v h);
    next_is = λ n v ln lv h. ⊎_elim
        (λ old. let was = s.next_is n v ln lv old in (label_kept p n v was.0, (words_kept n v lv was.0).0 ∙ was.1))
        (λ here. (label_here' n v here, far_here n v here)) (next_cases p n v h);
    next_has = λ n v ln lv h beyond. ⊎_elim
        (λ old. next_kept p n v (s.next_has n v ln lv old (omega (arith, (words_kept n v lv old).0))))
        (λ here. next_here' n v here) (label_cases p n v h);
    led_on = λ f' w' lf' lw' h within some' open'. ⊎_elim
        (λ old. let same = (words_kept _ w' lw' old).0 in
        let found = s.led_on f' w' lf' lw' old (omega (arith, same)) some' (sym (put_verified p _) ∙ open') in
        let near = near_kept _ _ _ (fit.bounded _ _) found in
        (near.0, omega (arith, near.1, same)))
        (λ here. absurd (omega (arith, within, far_here _ w' here))) (label_cases p _ w' h);
  }
    where
      inside : (n : ℕ) → get_or next' n 0 ≢ 0 → Dec (n ≡ b) → n < N
      inside n ne (yes e) = subst (λ k. k < N) (sym e) lb
      inside n ne (no o) = s.next_within n (λ z. ne (p.next_other n o ∙ z))

      small_still : (n : ℕ) → n < N → Dec (n ≡ b) → (get_or ns' n no_node).label < 2 ^ 64
      small_still n ln (yes e) = subst (λ k. (get_or ns' k no_node).label < 2 ^ 64) (sym e)
          (subst (λ k. k < 2 ^ 64) (sym p.label_here) (or_lt 64 (get_or ns b no_node).label (2 ^ y) (s.small b lb) (pow-lt ly)))
      small_still n ln (no ne) = subst (λ k. k < 2 ^ 64) (sym (label_other p n ne)) (s.small n ln)

      far_here : (n v : ℕ) → (n ≡ b) × (v ≡ y) → distance W' n v ≡ suc d
      far_here n v here = subst (λ k. distance W' k v ≡ suc d) (sym here.0) (subst (λ u. distance W' b u ≡ suc d) (sym here.1) p.distance_here)

      label_here' : (n v : ℕ) → (n ≡ b) × (v ≡ y) → holds (get_or ns' n no_node).label v
      label_here' n v here = subst (λ k. holds (get_or ns' k no_node).label v) (sym here.0) (subst (λ u. holds (get_or ns' b no_node).label u) (sym here.1) (label_new p))

      next_here' : (n v : ℕ) → (n ≡ b) × (v ≡ y) → holds (get_or next' n 0) v
      next_here' n v here = subst (λ k. holds (get_or next' k 0) v) (sym here.0) (subst (λ u. holds (get_or next' b 0) u) (sym here.1) (next_new p))

      arrived_new : Arrived (graph ns' fl rw' N F) W' b y f w
      arrived_new = (
        lf,
        ends,
        put_verified p b ∙ open_end,
        label_kept p _ w held,
        p.distance_here ∙ ap suc (sym ((words_kept _ w lw held).0 ∙ far)),
        makes,
        some,
      )

      arrived_at : Arrived (graph ns' fl rw' N F) W' b y (arrival W' b y / 64) (arrival W' b y % 64)
      arrived_at =
          let at : arrival W' b y ≡ 64 * f + w = p.arrival_here ∙ is in
          let by : f ≡ arrival W' b y / 64 = omega arith in
          let from' : w ≡ arrival W' b y % 64 = omega arith in
          subst (λ g. Arrived (graph ns' fl rw' N F) W' b y g (arrival W' b y % 64)) by
          (subst (λ u. Arrived (graph ns' fl rw' N F) W' b y f u) from' arrived_new)

      arrived_here : (n v : ℕ) → (n ≡ b) × (v ≡ y) → Arrived (graph ns' fl rw' N F) W' n v (arrival W' n v / 64) (arrival W' n v % 64)
      arrived_here n v here =
          subst (λ k. Arrived (graph ns' fl rw' N F) W' k v (arrival W' k v / 64) (arrival W' k v % 64)) (sym here.0)
          (subst (λ u. Arrived (graph ns' fl rw' N F) W' b u (arrival W' b u / 64) (arrival W' b u % 64)) (sym here.1) arrived_at)

-- what is led on, in a round that led the fresh values on along every flow
led_all : (G : Graph) (W fresh next : List ℕ) (d : ℕ) → Spread G W fresh next d → ((f : ℕ) → f < G.flow_count → Led G W fresh d f 64)
    → (f w : ℕ) → f < G.flow_count → w < 64 → holds (node_at G (flow_at G f).«from»).label w → distance W (flow_at G f).«from» w ≤ d
    → through G f w ≢ 0 → (node_at G (flow_at G f).to).verified ≡ false
    → Near G W (flow_at G f).to (through G f w) (suc (distance W (flow_at G f).«from» w))
led_all G W fresh next d s led f w lf lw h within some open_end = go (dec_lt (distance W (flow_at G f).«from» w) d)
  where
    go : Dec (distance W (flow_at G f).«from» w < d) → Near G W (flow_at G f).to (through G f w) (suc (distance W (flow_at G f).«from» w))
    go (yes l) = s.led_on f w lf lw h l some open_end
    go (no l) =
        let is : distance W (flow_at G f).«from» w ≡ d = omega arith in
        let found = led f lf w lw (s.fresh_has _ w (s.fit.joined f lf).0 lw h is) some open_end in
        (found.0, omega (arith, found.1))

-- the next round
next_round : (G : Graph) (W fresh next fresh' next' : List ℕ) (d : ℕ) → Spread G W fresh next d → ((f : ℕ) → f < G.flow_count → Led G W fresh d f 64)
    → length fresh' ≡ 4096 → ((n : ℕ) → get_or fresh' n 0 ≡ get_or next n 0) → Empty next'
    → Spread G W fresh' next' (suc d)
next_round G W fresh next fresh' next' d s led long moved empty = record {
  fit = s.fit;
  fresh_long = long;
  next_long = empty.long;
  fresh_within = λ n ne. s.next_within n (λ z. ne (moved n ∙ z));
  next_within = λ n ne. absurd (ne (empty.none n));
  small = s.small;
  grounded = s.grounded;
  linked = s.linked;
  marked = s.marked;
  fresh_is = λ n v ln lv h. s.next_is n v ln lv (subst (λ q. holds q v) (moved n) h);
  fresh_has = λ n v ln lv h at. subst (λ q. holds q v) (sym (moved n)) (s.next_has n v ln lv h (omega arith));
  next_is = λ n v ln lv h. absurd (none_in _ v (empty.none n) h);
  next_has = λ n v ln lv h beyond. absurd (omega (arith, (s.next_is n v ln lv (s.next_has n v ln lv h (omega arith))).1));
  led_on = λ f w lf lw h within some open_end. led_all G W fresh next d s led f w lf lw h (omega arith) some open_end;
}

-- after a round that adds nothing, the labels are complete
finished : (G : Graph) (W fresh next : List ℕ) (d : ℕ) → Spread G W fresh next d → ((f : ℕ) → f < G.flow_count → Led G W fresh d f 64)
    → ((n : ℕ) → n < G.node_count → get_or next n 0 ≡ 0) → Certified G W
finished G W fresh next d s led none = (
  s.grounded,
  s.linked,
  s.marked,
  λ f w lf lw h some open_end. led_all G W fresh next d s led f w lf lw h (near (s.fit.joined f lf).0 lw h) some open_end,
)
  where
    near : {n w : ℕ} → n < G.node_count → w < 64 → holds (node_at G n).label w → distance W n w ≤ d
    near {n} {w} ln lw h = go (dec_lt d (distance W n w))
      where
        go : Dec (d < distance W n w) → distance W n w ≤ d
        go (yes l) = absurd (none_in _ w (none n ln) (s.next_has n w ln lw h l))
        go (no l) = omega arith

-- before the first round the labels are the marks
pub begun : (G : Graph) (W fresh : List ℕ) → Fitting G W → SmallMarks G → length fresh ≡ 4096
    → ((n : ℕ) → get_or fresh n 0 ≢ 0 → n < G.node_count)
    → ((n : ℕ) → n < G.node_count → (node_at G n).label ≡ (node_at G n).marks)
    → ((n v : ℕ) → n < G.node_count → v < 64 → distance W n v ≡ 0)
    → ((n : ℕ) → n < G.node_count → get_or fresh n 0 ≡ (node_at G n).marks)
    → Starts G W fresh
begun G W fresh fit marks long within labels zeros starts next empty = record {
  fit = fit;
  fresh_long = long;
  next_long = empty.long;
  fresh_within = within;
  next_within = λ n ne. absurd (ne (empty.none n));
  small = λ n ln. subst (λ k. k < 2 ^ 64) (sym (labels n ln)) (marks n ln);
  grounded = λ n v ln lv h at. subst (λ q. holds q v) (labels n ln) h;
  linked = λ n v ln lv h far. absurd (far (zeros n v ln lv));
  marked = λ n v ln lv h. (subst (λ q. holds q v) (sym (labels n ln)) h, omega (arith, zeros n v ln lv));
  fresh_is = λ n v ln lv h. (subst (λ q. holds q v) (starts n ln ∙ sym (labels n ln)) h, zeros n v ln lv);
  fresh_has = λ n v ln lv h at. subst (λ q. holds q v) (labels n ln ∙ sym (starts n ln)) h;
  next_is = λ n v ln lv h. absurd (none_in _ v (empty.none n) h);
  next_has = λ n v ln lv h beyond. absurd (omega (arith, zeros n v ln lv));
  led_on = λ f w lf lw h within some open_end. absurd (omega arith);
}

pub grown_none : (k : ℕ) (ns : List NodeRecord) (W next : List ℕ) → Grown k ns ns W W next next
grown_none k ns W next = record { same = relabeled_none k ns; past = λ i l. refl; more = omega arith; idle = λ _. refl; near = λ n v j lv h l. (h, l) }

pub grown_more : {k : ℕ} {a b c : List NodeRecord} {U V W x y z : List ℕ}
    → Grown k a b U V x y → Grown k b c V W y z → Grown k a c U W x z
grown_more {k} {a} {b} {c} g h = record {
  same = relabeled_more k a b c g.same h.same;
  past = λ i l. h.past i l ∙ g.past i l;
  more = omega (arith, g.more, h.more);
  idle = λ e. h.idle (omega (arith, g.more, h.more)) ∙ g.idle (omega (arith, g.more, h.more));
  near = λ n v j lv held l. let mid = g.near n v j lv held l in h.near n v j lv mid.0 mid.1;
}

pub grown_put : {ns ns' : List NodeRecord} {W W' next next' : List ℕ} {b y d a : ℕ} → Put ns ns' W W' next next' b y d a
    → (holds (get_or ns b no_node).label y → ⊥) → (k : ℕ) → b < k → y < 64 → Grown k ns ns' W W' next next'
grown_put {ns} {ns'} {W} {W'} {next} {next'} {b} {y} {d} {a} p new k lb ly = record {
  same = λ n. (p.node n, λ l. p.node_other n (omega arith));
  past = λ i l. p.words_past i (omega arith);
  more = omega (arith, one_more);
  idle = λ e. absurd (omega (arith, one_more));
  near = λ n v j lv h l. (label_kept p n v h, omega (arith, l, (words_kept ns ns' [] [] 0 0 W W' [] next next' b y d a p new n v lv h).0));
}
  where
    clear : (x : ℕ) → x < 2 → (x ≡ 1 → ⊥) → x ≡ 0
    clear zero l ne = refl
    clear (suc zero) l ne = absurd (ne refl)
    clear (suc (suc x)) l ne = absurd (omega arith)

    here : (get_or ns' b no_node).label / 2 ^ y % 2 ≡ suc ((get_or ns b no_node).label / 2 ^ y % 2)
    here = label_new p ∙ ap suc (sym (clear _ (omega arith) new))

    other : (v : ℕ) → v ≢ y → (get_or ns' b no_node).label / 2 ^ v % 2 ≡ (get_or ns b no_node).label / 2 ^ v % 2
    other v ne = ap (λ s. s / 2 ^ v % 2) p.label_here ∙ put_other _ y v ne

    one_more : held_count k ns' ≡ suc (held_count k ns)
    one_more = sum_more (λ n. sum_below 64 (λ v. (get_or ns n no_node).label / 2 ^ v % 2)) (λ n. sum_below 64 (λ v. (get_or ns' n no_node).label / 2 ^ v % 2))
        k b lb (sum_more (λ v. (get_or ns b no_node).label / 2 ^ v % 2) (λ v. (get_or ns' b no_node).label / 2 ^ v % 2) 64 y ly here other)
        (λ n ne. ap (λ s. sum_below 64 (λ v. s / 2 ^ v % 2)) (label_other p n ne))

-- labels have at most 64 values
pub held_most : (k : ℕ) (ns : List NodeRecord) → held_count k ns ≤ 64 * k
held_most k ns = sum_bound (λ n. sum_below 64 (λ v. (get_or ns n no_node).label / 2 ^ v % 2)) k 64
    (λ n l. sum_bound (λ v. (get_or ns n no_node).label / 2 ^ v % 2) 64 1 (λ v l'. omega arith))

-- 1 where a node has values, and 0 where none has
abbrev pub lit : List ℕ → ℕ
lit sets = min 1 (sum sets)

pub lit_some : (sets : List ℕ) → length sets ≡ 4096 → (Empty sets → ⊥) → 0 < lit sets
lit_some sets long some = go (ℕ_discrete (sum sets) 0)
  where
    go : Dec (sum sets ≡ 0) → 0 < lit sets
    go (yes e) = absurd (some record { long = long; none = none_of_sum sets e })
    go (no ne) = omega arith

-- what holds before each round: there are no more rounds than values in the labels, but for the last
pub record Running (start ns : List NodeRecord) (fl : List FlowRecord) (rw' : List (List ℕ)) (N F : ℕ) (W₀ W fresh next : List ℕ) (d : ℕ) : Type 0 where
  pub spread : Spread (graph ns fl rw' N F) W fresh next d
  pub same : Relabeled N start ns
  pub past : Beyond N W₀ W
  pub empty : Empty next
  pub steps : d + lit fresh ≤ held_count N ns + 1

-- a round keeps what fits, since it keeps the lengths
pub fitting_kept : (ns ns' : List NodeRecord) (fl : List FlowRecord) (rw' : List (List ℕ)) (N F : ℕ) (W W' : List ℕ)
    → length ns' ≡ length ns → length W' ≡ length W → Fitting (graph ns fl rw' N F) W → Fitting (graph ns' fl rw' N F) W'
fitting_kept ns ns' fl rw' N F W W' long_ns long_W fit = record {
  few_nodes = fit.few_nodes;
  few_flows = fit.few_flows;
  nodes_room = omega (arith, fit.nodes_room);
  flows_room = fit.flows_room;
  words_room = omega (arith, fit.words_room);
  joined = fit.joined;
  stepped = fit.stepped;
  bounded = fit.bounded;
}

pub running_begun : (ns : List NodeRecord) (fl : List FlowRecord) (rw' : List (List ℕ)) (N F : ℕ) (W fresh next : List ℕ)
    → Starts (graph ns fl rw' N F) W fresh → Empty next → Running ns ns fl rw' N F W W fresh next 0
running_begun ns fl rw' N F W fresh next starts empty = record { spread = starts next empty; same = relabeled_none N ns; past = λ i l. refl; empty = empty; steps = omega arith }

-- a round that leaves fresh values has put values into labels
pub round_grows : (N : ℕ) (ns ns' : List NodeRecord) (W W' next next' fresh' : List ℕ)
    → Grown N ns ns' W W' next next' → Empty next → ((n : ℕ) → get_or fresh' n 0 ≡ get_or next' n 0)
    → held_count N ns + lit fresh' ≤ held_count N ns'
round_grows N ns ns' W W' next next' fresh' grown empty moved = go (ℕ_discrete (held_count N ns') (held_count N ns))
  where
    go : Dec (held_count N ns' ≡ held_count N ns) → held_count N ns + lit fresh' ≤ held_count N ns'
    go (yes e) = omega (arith, sum_none fresh' (λ n. moved n ∙ ap (λ xs. get_or xs n 0) (grown.idle e) ∙ empty.none n))
    go (no ne) = omega (arith, grown.more)

pub running_more : (start ns ns' : List NodeRecord) (fl : List FlowRecord) (rw' : List (List ℕ)) (N F : ℕ) (W₀ W W' fresh fresh' next next' next'' : List ℕ) (d : ℕ)
    → 0 < lit fresh → Running start ns fl rw' N F W₀ W fresh next d
    → Spread (graph ns' fl rw' N F) W' fresh next' d → ((f : ℕ) → f < F → Led (graph ns' fl rw' N F) W' fresh d f 64)
    → Grown N ns ns' W W' next next'
    → length fresh' ≡ 4096 → ((n : ℕ) → get_or fresh' n 0 ≡ get_or next' n 0) → Empty next''
    → Running start ns' fl rw' N F W₀ W' fresh' next'' (d + 1)
running_more start ns ns' fl rw' N F W₀ W W' fresh fresh' next next' next'' d some run s led grown long moved empty = record {
  spread = subst (λ k. Spread (graph ns' fl rw' N F) W' fresh' next'' k) (sym (add-one d))
      (next_round (graph ns' fl rw' N F) W' fresh next' fresh' next'' d s led long moved empty);
  same = relabeled_more N start ns ns' run.same grown.same;
  past = λ i l. grown.past i l ∙ run.past i l;
  empty = empty;
  steps = omega (arith, run.steps, round_grows N ns ns' W W' next next' fresh' grown run.empty moved);
}

-- where nothing is fresh, the labels are complete
pub running_end : (start ns : List NodeRecord) (fl : List FlowRecord) (rw' : List (List ℕ)) (N F : ℕ) (W₀ W fresh next : List ℕ) (d : ℕ)
    → Running start ns fl rw' N F W₀ W fresh next d → Empty fresh
    → Certified (graph ns fl rw' N F) W
running_end start ns fl rw' N F W₀ W fresh next d run none =
    finished (graph ns fl rw' N F) W fresh next d run.spread
    (λ f lf w lw h. absurd (none_in _ w (none.none _) h)) (λ n ln. run.empty.none n)

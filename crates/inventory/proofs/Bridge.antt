-- The graph of a view and its ledger have the same flow paths, so a certificate says what the labels are.
use Rattle.std.proofs.Common.{◌≡◌, ℕ, zero, suc, ◌/◌, ◌%◌, ◌^◌, ◌<◌, ◌≤◌, true, T, eqb, ltb, ◌≢◌, List, [], ◌∷◌, map, length, get_or, take, sym, refl, ap, ◌∙◌, subst, ⊎_elim, arith, pow_mono}
use mathlib.Core.Logic.{∥∥₁_elim}
use lib.Dec.{T_prop}
use Rattle.std.proofs.lemmas.List.{get_or-take}
use Rattle.std.proofs.lemmas.Bool.{cases_lt, eq-eqb, and_parts, ltb-true}
use Rattle.lattice.specs.Sets.{has}
use Rattle.ledger.specs.Ledger.{node_at as ledger_node_at, flow_at as ledger_flow_at, carried as ledger_carried, Trail as LedgerTrail, IsFlowPath, Brought}
use Rattle.ledger.specs.Run.{LabelOf}
use Rattle.lattice.proofs.Members.{bit_of}
use Rattle.lattice.specs.Tests.{is_true, from_true}
use Rattle.ledger.proofs.Ranges.{has_below}
use Rattle.inventory.specs.View.{View, ledger_of, node_of, flow_of, graph_of}
use Rattle.flows.specs.Graph.{no_node, no_flow, holds, node_at, flow_at, carried, through, Trail, FlowPath}
use Rattle.flows.specs.Certificate.{Certified, Near}
use Rattle.flows.specs.Fitting.{Joined, Bounded, SmallMarks}
use Rattle.inventory.specs.Sound.{Sound}
use Rattle.inventory.proofs.Lists.{read_at, get_or_of_map}
use Rattle.inventory.proofs.Declines.{nodes_counted, flows_counted}
use Rattle.flows.proofs.Certificates.{certificate}
use Rattle.flows.proofs.Trails.{reached, complete}

-- bits in the ledger's words
pub holds_has : (s v : ℕ) → holds s v → T (has s v)
unfolding has
holds_has s v h = from_true (has s v) (eq-eqb (s / 2 ^ v % 2) 1 h)

pub has_holds : (s v : ℕ) → T (has s v) → holds s v
has_holds s v h = bit_of s v (is_true (has s v) h)

pub take_none : (n : ℕ) → take {A = ℕ} n [] ≡ []
take_none zero = refl
take_none (suc n) = refl

take_past : (n : ℕ) (l : List ℕ) (x : ℕ) → n ≤ x → get_or (take n l) x 0 ≡ 0
take_past zero l x past = refl
take_past (suc n) [] x past = refl
take_past (suc n) (y ∷ l) zero past = absurd (omega arith)
take_past (suc n) (y ∷ l) (suc x) past = take_past n l x (omega arith)

some_positive : (n : ℕ) → n ≢ 0 → 0 < n
some_positive n h = omega arith

positive_some : (n : ℕ) → 0 < n → n ≢ 0
positive_some n h e = omega arith

module _ (v : View) (s : Sound v) where
  pub joined : Joined (graph_of v)
  joined f l = let g = s.flows_good f l in (g.0, g.1)

  pub bounded : Bounded (graph_of v) 64
  bounded t x = omega (arith, s.rows_bounded t x, s.sized.3)

  pub node_same : (n : ℕ) → n < v.node_count → ledger_node_at (ledger_of v) n ≡ node_of (node_at (graph_of v) n)
  unfolding ledger_of
  node_same n l = read_at node_of v.nodes v.node_count n no_node l

  pub flow_same : (f : ℕ) → f < v.flow_count → ledger_flow_at (ledger_of v) f ≡ flow_of (flow_at (graph_of v) f)
  unfolding ledger_of
  flow_same f l = read_at flow_of v.flows v.flow_count f no_flow l

  pub carried_same : (t x : ℕ) → t < length v.steps → ledger_carried (ledger_of v) t x ≡ carried (graph_of v) t x
  unfolding ledger_of
  carried_same t x l =
      let row = get_or v.steps t [] in
      let read : get_or (map (take v.sizes.types) v.steps) t [] ≡ take v.sizes.types row =
      ap (λ d. get_or (map (take v.sizes.types) v.steps) t d) (sym (take_none v.sizes.types))
      ∙ get_or_of_map (take v.sizes.types) v.steps t [] in
      ap (λ r. get_or r x 0) read
      ∙ ⊎_elim (λ low. get_or-take v.sizes.types row x 0 low) (λ past. take_past v.sizes.types row x past ∙ sym (s.rows_silent t x past))
      (cases_lt x v.sizes.types)

  nodes_long : length (ledger_of v).nodes ≡ v.node_count
  unfolding ledger_of
  nodes_long = nodes_counted v s

  flows_long : length (ledger_of v).flows ≡ v.flow_count
  unfolding ledger_of
  flows_long = flows_counted v s

  through_same : (f x : ℕ) → f < v.flow_count → ledger_carried (ledger_of v) (ledger_flow_at (ledger_of v) f).step x ≡ through (graph_of v) f x
  through_same f x l =
      ap (λ q. ledger_carried (ledger_of v) q.step x) (flow_same f l) ∙ carried_same (flow_at (graph_of v) f).step x (s.flows_good f l).2

  end_same : (f : ℕ) → f < v.flow_count → (ledger_flow_at (ledger_of v) f).to ≡ (flow_at (graph_of v) f).to
  end_same f l = ap (λ q. q.to) (flow_same f l)

  open_same : (f : ℕ) → f < v.flow_count → (ledger_node_at (ledger_of v) (ledger_flow_at (ledger_of v) f).to).verified ≡ (node_at (graph_of v) (flow_at (graph_of v) f).to).verified
  open_same f l =
      ap (λ k. (ledger_node_at (ledger_of v) k).verified) (end_same f l) ∙ ap (λ q. q.verified) (node_same (flow_at (graph_of v) f).to (s.flows_good f l).1)

  pub trail_to : (fs : List ℕ) (a x b y : ℕ) → Trail (graph_of v) a x fs b y → LedgerTrail (ledger_of v) a x fs b y
  trail_to [] a x b y trail = trail
  trail_to (f ∷ fs) a x b y trail =
      let l = trail.0 in
      let rest = trail_to fs (flow_at (graph_of v) f).to (through (graph_of v) f x) b y trail.4 in (
        omega (arith, l, flows_long),
        ap (λ q. q.from) (flow_same f l) ∙ trail.1,
        subst (λ (k : ℕ). 0 < k) (sym (through_same f x l)) (some_positive (through (graph_of v) f x) trail.2),
        open_same f l ∙ trail.3,
        subst (λ (k : ℕ). LedgerTrail (ledger_of v) k (ledger_carried (ledger_of v) (ledger_flow_at (ledger_of v) f).step x) fs b y) (sym (end_same f l))
            (subst (λ (u : ℕ). LedgerTrail (ledger_of v) (flow_at (graph_of v) f).to u fs b y) (sym (through_same f x l)) rest),
      )

  pub trail_from : (fs : List ℕ) (a x b y : ℕ) → LedgerTrail (ledger_of v) a x fs b y → Trail (graph_of v) a x fs b y
  trail_from [] a x b y trail = trail
  trail_from (f ∷ fs) a x b y trail =
      let l : f < v.flow_count = omega (arith, trail.0, flows_long) in
      let rest = subst (λ (u : ℕ). LedgerTrail (ledger_of v) (flow_at (graph_of v) f).to u fs b y) (through_same f x l)
      (subst (λ (k : ℕ). LedgerTrail (ledger_of v) k (ledger_carried (ledger_of v) (ledger_flow_at (ledger_of v) f).step x) fs b y) (end_same f l) trail.4) in (
        l,
        sym (ap (λ q. q.from) (flow_same f l)) ∙ trail.1,
        positive_some (through (graph_of v) f x) (subst (λ (k : ℕ). 0 < k) (through_same f x l) trail.2),
        sym (open_same f l) ∙ trail.3,
        trail_from fs (flow_at (graph_of v) f).to (through (graph_of v) f x) b y rest,
      )

  marks_same : (n : ℕ) → n < v.node_count → (ledger_node_at (ledger_of v) n).marks ≡ (node_at (graph_of v) n).marks
  marks_same n l = ap (λ q. q.marks) (node_same n l)

  pub path_to : (fs : List ℕ) (b y : ℕ) → FlowPath (graph_of v) fs b y → IsFlowPath (ledger_of v) fs b y
  path_to fs b y (a, x, l, marked, trail) =
      (a, x, omega (arith, l, nodes_long), subst (λ (m : ℕ). T (has m x)) (sym (marks_same a l)) (holds_has (node_at (graph_of v) a).marks x marked), trail_to fs a x b y trail)

  pub path_from : (fs : List ℕ) (b y : ℕ) → IsFlowPath (ledger_of v) fs b y → FlowPath (graph_of v) fs b y
  path_from fs b y (a, x, inside, marked, trail) =
      let l : a < v.node_count = omega (arith, inside, nodes_long) in
      (a, x, l, has_holds (node_at (graph_of v) a).marks x (subst (λ (m : ℕ). T (has m x)) (marks_same a l) marked), trail_from fs a x b y trail)

  pub small_marks : SmallMarks (graph_of v)
  small_marks n l =
      let m = (node_at (graph_of v) n).marks in
      let range = (s.nodes_good n l).3 in
      let small = ltb-true m (2 ^ v.sizes.types) (and_parts (ltb m (2 ^ v.sizes.types)) (eqb (m % 2) 0) range).0 in
      let most : 2 ^ v.sizes.types ≤ 2 ^ 64 = pow_mono s.sized.3.1 in
      omega arith

  module _ (all : Certified (graph_of v) v.workspace) where
    -- a value that a flow path brings is in the label, no nearer than its distance
    pub brought_near : (fs : List ℕ) (n x : ℕ) → IsFlowPath (ledger_of v) fs n x → Near (graph_of v) v.workspace n x (length fs)
    brought_near fs n x way = complete (graph_of v) v.workspace joined bounded small_marks all.2 all.3 fs n x (path_from fs n x way)

    pub not_brought : (n x : ℕ) → (T (has (node_at (graph_of v) n).label x) → ⊥) → Brought (ledger_of v) n x → ⊥
    not_brought n x out comes =
        out (∥∥₁_elim comes (T_prop (has (node_at (graph_of v) n).label x)) (λ found. holds_has _ x (brought_near found.0 n x found.1).0))

    pub label_right : (n : ℕ) → n < v.node_count → (node_at (graph_of v) n).label < 2 ^ 64 → LabelOf (ledger_of v) n (node_at (graph_of v) n).label
    label_right n l small =
        let d = (node_at (graph_of v) n).label in (
          small,
          λ x. (
            (λ h. ∣ (_, path_to _ n x (reached (graph_of v) v.workspace joined all.0 all.1 n x l (has_below d 64 x small h) (has_holds d x h)).0) ∣₁),
            (λ comes. ∥∥₁_elim comes (T_prop (has d x)) (λ found. holds_has d x (brought_near found.0 n x found.1).0)),
          ),
        )

  -- the certificate of a settled view
  pub certified : v.settled ≡ true → Certified (graph_of v) v.workspace
  certified is = certificate (graph_of v) v.workspace v.settled s.labels_settled is

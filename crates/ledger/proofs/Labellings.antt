-- Every flow path ends in a value of a closed labelling, no nearer than its distance. Assumes nothing.
use Rattle.std.proofs.Common.{◌≡◌, ℕ, ◌+◌, ◌≤◌, T, List, [], ◌∷◌, length, sym, ap, ◌∙◌, subst, arith}
use mathlib.Core.Logic.{∥∥₁_elim}
use lib.Dec.{T_prop}
use Rattle.lattice.specs.Sets.{has}
use Rattle.ledger.specs.Ledger.{Ledger, flow_at, carried, Trail, IsFlowPath}
use Rattle.ledger.specs.Labelling.{Carries, Closed, Apart, ClosedLabellingsAreLabels, NearPathsAreShortest}

module _ (L : Ledger) (label : ℕ → ℕ) (closed : Closed L label) where
  pub trail_held : (fs : List ℕ) (a x b y : ℕ) → T (has (label a) x) → Trail L a x fs b y → T (has (label b) y)
  trail_held [] a x b y held trail = subst (λ (k : ℕ). T (has (label b) k)) trail.1 (subst (λ (k : ℕ). T (has (label k) x)) trail.0 held)
  trail_held (f ∷ fs) a x b y held trail =
      trail_held fs (flow_at L f).to (carried L (flow_at L f).step x) b y
      (closed.flows f x (trail.0, trail.2, trail.3) (subst (λ (k : ℕ). T (has (label k) x)) (sym trail.1) held)) trail.4

  pub path_held : (fs : List ℕ) (b y : ℕ) → IsFlowPath L fs b y → T (has (label b) y)
  path_held fs b y (a, x, inside, marked, trail) = trail_held fs a x b y (closed.marks a x inside marked) trail

  module _ (far : ℕ → ℕ → ℕ) (apart : Apart L label far) where
    pub trail_far : (fs : List ℕ) (a x b y : ℕ) → T (has (label a) x) → Trail L a x fs b y → far b y ≤ far a x + length fs
    trail_far [] a x b y held trail =
        let moved : far a x ≡ far b y = ap (λ k. far k x) trail.0 ∙ ap (λ k. far b k) trail.1 in
        omega arith
    trail_far (f ∷ fs) a x b y held trail =
        let here = subst (λ (k : ℕ). T (has (label k) x)) (sym trail.1) held in
        let ways : Carries L f x = (trail.0, trail.2, trail.3) in
        let later = trail_far fs (flow_at L f).to (carried L (flow_at L f).step x) b y (closed.flows f x ways here) trail.4 in
        omega (arith, apart.flows f x ways here, ap (λ k. far k x) trail.1)

    pub path_far : (fs : List ℕ) (b y : ℕ) → IsFlowPath L fs b y → far b y ≤ length fs
    path_far fs b y (a, x, inside, marked, trail) =
        omega (arith, trail_far fs a x b y (closed.marks a x inside marked) trail, apart.marks a x inside marked)

pub closed_labellings_are_labels : ClosedLabellingsAreLabels
closed_labellings_are_labels L label closed small brought n =
    (small n, λ v. (brought n v, λ comes. ∥∥₁_elim comes (T_prop (has (label n) v)) (λ found. path_held L label closed found.0 n v found.1)))

pub near_paths_are_shortest : NearPathsAreShortest
near_paths_are_shortest L label far closed apart fs n v way near =
    (way, λ gs other. omega (arith, path_far L label closed far apart gs n v other))

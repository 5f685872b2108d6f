-- A certificate is a proposition, so it can be taken out of the ghost field that has it truncated.
use Rattle.std.proofs.Common.{◌≡◌, ℕ, ◌/◌, ◌%◌, Bool, true, List}
use mathlib.Core.Logic.{∥∥₁_elim}
use mathlib.Core.Bool.{Bool-set}
use mathlib.Core.HLevel.{Π_prop, →_prop, ×_prop, ¬_prop}
use native.Mathlib.Nat.{ℕ_set}
use native.Mathlib.Bridge.{le_prop}
use Rattle.flows.specs.Graph.{Graph}
use Rattle.flows.specs.Certificate.{arrival, Arrived, Near, Grounded, Linked, Marked, Closed, Certified}

near_prop : (G : Graph) (W : List ℕ) (n v k : ℕ) → IsProp (Near G W n v k)
near_prop G W n v k = ×_prop (ℕ_set _ _) le_prop

arrived_prop : (G : Graph) (W : List ℕ) (n v f w : ℕ) → IsProp (Arrived G W n v f w)
arrived_prop G W n v f w p q = λ i. (
  le_prop p.0 q.0 i,
  ℕ_set _ _ p.1 q.1 i,
  Bool-set _ _ p.2 q.2 i,
  ℕ_set _ _ p.3 q.3 i,
  ℕ_set _ _ p.4 q.4 i,
  ℕ_set _ _ p.5 q.5 i,
  ¬_prop p.6 q.6 i,
)

grounded_prop : (G : Graph) (W : List ℕ) → IsProp (Grounded G W)
grounded_prop G W = Π_prop λ n. Π_prop λ v. →_prop (→_prop (→_prop (→_prop (ℕ_set _ _))))

linked_prop : (G : Graph) (W : List ℕ) → IsProp (Linked G W)
linked_prop G W = Π_prop λ n. Π_prop λ v. →_prop (→_prop (→_prop (→_prop (arrived_prop G W n v (arrival W n v / 64) (arrival W n v % 64)))))

marked_prop : (G : Graph) (W : List ℕ) → IsProp (Marked G W)
marked_prop G W = Π_prop λ n. Π_prop λ v. →_prop (→_prop (→_prop (near_prop G W n v 0)))

closed_prop : (G : Graph) (W : List ℕ) → IsProp (Closed G W)
closed_prop G W = Π_prop λ f. Π_prop λ w. →_prop (→_prop (→_prop (→_prop (→_prop (near_prop G W _ _ _)))))

pub certified_prop : (G : Graph) (W : List ℕ) → IsProp (Certified G W)
certified_prop G W = hlevel (grounded_prop G W, linked_prop G W, marked_prop G W, closed_prop G W)

pub certificate : (G : Graph) (W : List ℕ) (b : Bool) → ∥ (b ≡ true → Certified G W) ∥₁ → b ≡ true → Certified G W
certificate G W b held e = ∥∥₁_elim held (certified_prop G W) (λ h. h e)

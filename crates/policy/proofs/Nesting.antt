-- Nesting is a proposition, so it can be taken out of the ghost field that has it truncated.
use mathlib.Core.Logic.{∥∥₁_elim}
use mathlib.Core.HLevel.{Π_prop, →_prop}
use Rattle.std.proofs.Common.{ℕ, List}
use native.Mathlib.Bridge.{le_prop}
use Rattle.policy.specs.declared.clause.ClauseRecord.{ClauseRecord}
use Rattle.policy.specs.Records.{NestedAt, Nested}

nested_at_prop : (rs : List ClauseRecord) (i : ℕ) → IsProp (NestedAt rs i)
nested_at_prop rs i p q = λ t. record {
  behind = le_prop p.behind q.behind t;
  within = le_prop p.within q.within t;
  inner = (λ j l m. le_prop (p.inner j l m) (q.inner j l m) t);
}

nested_prop : (rs : List ClauseRecord) → IsProp (Nested rs)
nested_prop rs = Π_prop λ i. →_prop (nested_at_prop rs i)

pub nested_held : (rs : List ClauseRecord) → ∥ Nested rs ∥₁ → Nested rs
nested_held rs held = ∥∥₁_elim held (nested_prop rs) (λ h. h)

-- What a verdict on a label says. Assumes nothing.
use Rattle.std.specs.Prelude.{◌≡◌, ℕ, ◌<◌, Bool, true, false, cond, not, Decides}
use Rattle.lattice.specs.Sets.{has, without}
use Rattle.lattice.specs.Schemes.{Scheme}
use Rattle.policy.specs.Clauses.{Label, Clause, covered, allows, decider, with_types}
use Rattle.policy.specs.Laws.{Subset}
use Rattle.policy.specs.Rules.{Allows, Denies}

-- the data types `left` are denied, and allowed once any one of them is left out
pub record Minimal (s : Scheme) (c : Clause) (t : Label) (left : ℕ) : Type 0 where
  pub within : Subset left t.types
  pub denied : allows s c (with_types t left) ≡ false
  pub needed : (v : ℕ) → v < 64 → has left v ≡ true → allows s c (with_types t (without left v)) ≡ true

pub record Just (s : Scheme) (c : Clause) (t : Label) (passed : Bool) (by left : ℕ) : Type 0 where
  -- the rules derive the answer and not its opposite: every label is allowed or denied, and never both
  pub allowed : Decides passed (Allows s c t)
  pub denied : Decides (not passed) (Denies s c t)
  -- what is covered by a label that passed passes, and so does that label with fewer data types
  pub covers : passed ≡ true → (u : Label) → covered s u t ≡ true → allows s c u ≡ true
  pub fewer : passed ≡ true → (d : ℕ) → Subset d t.types → allows s c (with_types t d) ≡ true
  -- the clause that decides
  pub decided : by ≡ decider s 0 c t
  -- what a refusal rests on; nothing where the label passed
  pub none_left : passed ≡ true → left ≡ 0
  pub minimal : passed ≡ false → Minimal s c t left

-- `left`, or `left` without v where that is still denied
abbrev pub left_after : Scheme → Clause → Label → ℕ → ℕ → ℕ
left_after s c t left v = cond (allows s c (with_types t (without left v))) left (without left v)

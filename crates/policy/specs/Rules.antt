-- The rules by which a clause allows or denies a label, as a relation. Assumes nothing.
use Rattle.std.specs.Prelude.{◌≡◌, true, false}
use Rattle.lattice.specs.Schemes.{Scheme}
use Rattle.policy.specs.Clauses.{Label, Clause, Clauses, allow, deny, more, covered, narrowed, has_bottom}

-- e is one of the exceptions es
pub data Among (e : Clause) : Clauses → Type 0 where
  first : {es : Clauses} → Among e (more e es)
  later : {d : Clause} {es : Clauses} → Among e es → Among e (more d es)

pub data Allows (s : Scheme) : Clause → Label → Type 0 where
  -- an ALLOW that covers the label and whose exceptions all allow it, allows
  allow_allows : {l : Label} {es : Clauses} {t : Label} → covered s t l ≡ true →
      ((e : Clause) → Among e es → Allows s e t) → Allows s (allow l es) t
  -- a DENY that has nothing in common with the label allows
  deny_misses : {l : Label} {es : Clauses} {t : Label} → has_bottom (narrowed s t l) ≡ true → Allows s (deny l es) t
  -- a DENY with an exception that allows what it has in common with the label allows
  deny_excepts : {l : Label} {es : Clauses} {t : Label} → has_bottom (narrowed s t l) ≡ false →
      (e : Clause) → Among e es → Allows s e (narrowed s t l) → Allows s (deny l es) t

pub data Denies (s : Scheme) : Clause → Label → Type 0 where
  -- an ALLOW that does not cover the label denies
  allow_misses : {l : Label} {es : Clauses} {t : Label} → covered s t l ≡ false → Denies s (allow l es) t
  -- an ALLOW that covers the label and has an exception that denies it, denies
  allow_excepts : {l : Label} {es : Clauses} {t : Label} → covered s t l ≡ true →
      (e : Clause) → Among e es → Denies s e t → Denies s (allow l es) t
  -- a DENY whose exceptions all deny what it has in common with the label denies
  deny_denies : {l : Label} {es : Clauses} {t : Label} → has_bottom (narrowed s t l) ≡ false →
      ((e : Clause) → Among e es → Denies s e (narrowed s t l)) → Denies s (deny l es) t

-- One value put into a set.
use Rattle.std.proofs.Common.{◌≡◌, ℕ, ◌/◌, ◌^◌, true, eqb, ◌⊎◌, ap, inl, inr, arith}
use native.Mathlib.Decide.{ℕ_discrete}
use lib.Bits.{bit_and, and_mask}
use Rattle.std.proofs.lemmas.Bool.{eqb-true, eq-eqb}
use Rattle.std.proofs.lemmas.Nat.Bits.{bit_at-lt, bit_at-zero, bit_at_or, bit_at-pow_same, bit_at-pow_other}
use Rattle.lexer.specs.Sets.{has_value, with_value}

pub put_here : (s v : ℕ) → has_value (with_value s v) v ≡ true
put_here s v = eq-eqb _ 1 (omega (arith, bit_at_or s (2 ^ v) v, bit_at-pow_same v, bit_at-lt s v))

pub put_kept : (s v u : ℕ) → has_value s u ≡ true → has_value (with_value s v) u ≡ true
put_kept s v u h = eq-eqb _ 1 (omega (arith, bit_at_or s (2 ^ v) u, bit_at-lt (2 ^ v) u, eqb-true _ 1 h))

pub put_cases : (s v u : ℕ) → has_value (with_value s v) u ≡ true → (has_value s u ≡ true) ⊎ (u ≡ v)
put_cases s v u h = go (ℕ_discrete u v)
  where
    go : Dec (u ≡ v) → (has_value s u ≡ true) ⊎ (u ≡ v)
    go (yes e) = inr e
    go (no ne) = inl (eq-eqb _ 1 (omega (arith, bit_at_or s (2 ^ v) u, bit_at-pow_other v u ne, bit_at-lt s u, eqb-true _ 1 h)))

-- the empty set has no values
pub none_in : (v : ℕ) → has_value 0 v ≡ true → ⊥
none_in v h = omega (arith, bit_at-zero v, eqb-true _ 1 h)

-- what a test of the lowest bit after a shift says
pub has_by_and : (s v : ℕ) → eqb (bit_and (s / 2 ^ v) 1) 1 ≡ has_value s v
has_by_and s v = ap (λ x. eqb x 1) (and_mask (s / 2 ^ v) 1)

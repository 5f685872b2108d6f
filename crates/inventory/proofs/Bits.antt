-- Sets whose values go from 1 to a size less 1.
use Rattle.std.proofs.Common.{◌≡◌, ℕ, ◌/◌, ◌%◌, ◌^◌, true, false, eqb, ltb, refl, ⊎_elim, pow_pos}
use native.Mathlib.Nat.{div-eq_of_lt}
use Rattle.std.proofs.lemmas.Bool.{lt-ltb, and_from, cases_lt, le-ltb, and_left}
use Rattle.ledger.specs.Ledger.{good_value}
use Rattle.lattice.specs.Sets.{with, without}
use Rattle.policy.specs.Words.{in_range}
use Rattle.lattice.specs.Tests.{is_true, from_true}
use Rattle.ledger.proofs.Ranges.{range_with, range_without}
use Rattle.ledger.proofs.Ledgers.{value_parts}

module _ (n s x : ℕ) (range : in_range n s ≡ true) (good : good_value n x ≡ true) where
  pub in_with : in_range n (with s x) ≡ true
  in_with =
      let parts = value_parts n x (from_true (good_value n x) good) in
      is_true (in_range n (with s x)) (range_with n s x parts.0 parts.1 (from_true (in_range n s) range))

  pub in_without : in_range n (without s x) ≡ true
  in_without =
      let parts = value_parts n x (from_true (good_value n x) good) in
      is_true (in_range n (without s x)) (range_without n s x parts.0 (from_true (in_range n s) range))

-- the empty set is in every range
pub in_empty : (n : ℕ) → in_range n 0 ≡ true
in_empty n = and_from _ _ (lt-ltb 0 (2 ^ n) (pow_pos n)) refl

-- a set with a value at or above n
pub out_of_range : (n s : ℕ) → (s / 2 ^ n ≡ 0 → ⊥) → in_range n s ≡ false
out_of_range n s high =
    ⊎_elim
    (λ l. absurd (high (div-eq_of_lt l)))
    (λ g. and_left (ltb s (2 ^ n)) (eqb (s % 2) 0) (le-ltb s (2 ^ n) g))
    (cases_lt s (2 ^ n))

-- Sets whose values go from 1 to a size less 1. Assumes nothing.
use Rattle.std.proofs.Common.{◌≡◌, ℕ, zero, suc, ◌+◌, ◌-◌, ◌/◌, ◌%◌, ◌^◌, ◌<◌, Bool, true, false, cond, T, eqb, ltb, sym, refl, ap, ◌∙◌, inl, inr, arith, eqb→eq, ltb→lt, lt→ltb, pow_pos, pow_mono}
use native.Mathlib.Nat.{div-eq_of_lt}
use Rattle.std.proofs.lemmas.Bool.{cases_lt, eq-eqb}
use Rattle.lattice.specs.Sets.{has, with, without}
use Rattle.policy.specs.Words.{in_range}
use Rattle.lattice.proofs.Members.{bit_suc, two_pow, bit_le, bit_of, no_bit_of}
use Rattle.lattice.specs.Tests.{T_and, and_T, is_true, from_true}

-- a set below 2 ^ k has values below k alone
pub has_below : (s k v : ℕ) → s < 2 ^ k → T (has s v) → v < k
has_below s k v small h =
    elim (cases_lt v k) [
      | inl low ↦ low
      | inr high ↦
          let none : s / 2 ^ v ≡ 0 = div-eq_of_lt (omega (arith, pow_mono high)) in
          absurd (omega (arith, bit_of s v (is_true (has s v) h), ap (λ q. q % 2) none))
    ]

pub range_parts : (n s : ℕ) → T (in_range n s) → (s < 2 ^ n) × (s % 2 ≡ 0)
range_parts n s h =
    let parts = T_and (ltb s (2 ^ n)) (eqb (s % 2) 0) h in
    (ltb→lt s (2 ^ n) parts.0, eqb→eq (s % 2) 0 parts.1)

pub range_from : (n s : ℕ) → s < 2 ^ n → s % 2 ≡ 0 → T (in_range n s)
range_from n s small even =
    and_T (ltb s (2 ^ n)) (eqb (s % 2) 0) (lt→ltb s (2 ^ n) small) (from_true (eqb (s % 2) 0) (eq-eqb (s % 2) 0 even))

-- a value of a set in range is no bottom
pub range_value : (n s v : ℕ) → T (in_range n s) → T (has s v) → (0 < v) × (v < n)
range_value n s v h holds = (some v holds, has_below s n v (range_parts n s h).0 holds)
  where
    some : (v : ℕ) → T (has s v) → 0 < v
    some zero low = absurd (omega (arith, bit_of s 0 (is_true (has s 0) low), (range_parts n s h).1))
    some (suc v) low = omega arith

pub range_empty : (n : ℕ) → T (in_range n 0)
range_empty n = range_from n 0 (pow_pos n) refl

-- an absent bit below n, put in, stays below 2 ^ n
put_below : (v n s : ℕ) → v < n → s < 2 ^ n → (s / 2 ^ v) % 2 ≡ 0 → s + 2 ^ v < 2 ^ n
put_below v zero s low small absent = absurd (omega arith)
put_below zero (suc n) s low small absent = omega (arith, two_pow n)
put_below (suc v) (suc n) s low small absent =
    let half = put_below v n (s / 2) (omega arith) (omega (arith, two_pow n)) (sym (bit_suc s v) ∙ absent) in
    omega (arith, two_pow n, two_pow v)

-- a power past the first is even
even_power : (v : ℕ) → 0 < v → 2 ^ v % 2 ≡ 0
even_power zero h = absurd (omega arith)
even_power (suc v) h = omega (arith, two_pow v)

pub range_with : (n s v : ℕ) → 0 < v → v < n → T (in_range n s) → T (in_range n (with s v))
unfolding with
range_with n s v some low h = go (has s v) refl
  where
    go : (b : Bool) → has s v ≡ b → T (in_range n (cond b s (s + 2 ^ v)))
    go true e = h
    go false e =
        let parts = range_parts n s h in
        range_from n (s + 2 ^ v) (put_below v n s low parts.0 (no_bit_of s v e)) (omega (arith, even_power v some))

pub range_without : (n s v : ℕ) → 0 < v → T (in_range n s) → T (in_range n (without s v))
unfolding without
range_without n s v some h = go (has s v) refl
  where
    go : (b : Bool) → has s v ≡ b → T (in_range n (cond b (s - 2 ^ v) s))
    go true e =
        let parts = range_parts n s h in
        range_from n (s - 2 ^ v) (omega arith) (omega (arith, even_power v some, bit_le v s (bit_of s v e)))
    go false e = h

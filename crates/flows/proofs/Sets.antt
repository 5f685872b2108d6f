-- Sets of values as numbers.
use Rattle.std.proofs.Common.{◌≡◌, ℕ, zero, suc, ◌/◌, ◌%◌, ◌^◌, ◌<◌, ◌≤◌, ◌≢◌, ◌⊎◌, sym, refl, ap, ◌∙◌, inl, inr, mul_comm, pow-suc, div-one, arith, pow_mono}
use native.Mathlib.Nat.{div-eq_of_lt, div-div-eq-div-mul}
use native.Mathlib.Decide.{dec_lt, ℕ_discrete}
use lib.Count.{count_trailing_zeros, under}
use lib.Bits.{bit_and, bit_or, and_mask}
use Rattle.std.proofs.lemmas.Nat.Bits.{bit_at-zero, bit_at_or, bit_at-pow_same, bit_at-pow_other}
use Rattle.flows.specs.Graph.{holds}

-- a set below 2 ^ k has values below k alone
pub has_below : (s v k : ℕ) → s < 2 ^ k → holds s v → v < k
has_below s v k small h = go (dec_lt v k)
  where
    go : Dec (v < k) → v < k
    go (yes l) = l
    go (no n) =
        let over : k ≤ v = omega arith in
        let none : s / 2 ^ v ≡ 0 = div-eq_of_lt (omega (arith, pow_mono over)) in
        absurd (omega (arith, ap (λ q. q % 2) none))

-- the empty set has no values
pub none_in : (s v : ℕ) → s ≡ 0 → holds s v → ⊥
none_in s v z h = omega (arith, h, ap (λ q. q / 2 ^ v % 2) z, bit_at-zero v)

-- the set s with value v put in
abbrev pub with_value : ℕ → ℕ → ℕ
with_value s v = bit_or s (2 ^ v)

pub put_here : (s v : ℕ) → holds (with_value s v) v
put_here s v = bit_at_or s (2 ^ v) v ∙ omega (arith, bit_at-pow_same v)

pub put_other : (s v u : ℕ) → u ≢ v → with_value s v / 2 ^ u % 2 ≡ s / 2 ^ u % 2
put_other s v u ne = bit_at_or s (2 ^ v) u ∙ omega (arith, bit_at-pow_other v u ne)

pub put_kept : (s v u : ℕ) → holds s u → holds (with_value s v) u
put_kept s v u h = bit_at_or s (2 ^ v) u ∙ omega (arith, h)

pub put_cases : (s v u : ℕ) → holds (with_value s v) u → holds s u ⊎ (u ≡ v)
put_cases s v u h = go (ℕ_discrete u v)
  where
    go : Dec (u ≡ v) → holds s u ⊎ (u ≡ v)
    go (yes e) = inr e
    go (no ne) = inl (sym (put_other s v u ne) ∙ h)

-- `trailing_zeros`: the values below it are not in the set, and the value there is
halved : (n j : ℕ) → n / 2 ^ suc j ≡ n / 2 / 2 ^ j
halved n j = ap (λ q. n / q) (pow-suc 2 j ∙ mul_comm (2 ^ j) 2) ∙ sym (div-div-eq-div-mul n 2 (2 ^ j))

pub trailing_none : (k n j : ℕ) → j < count_trailing_zeros k n → n / 2 ^ j % 2 ≡ 0
unfolding count_trailing_zeros
trailing_none zero n j h = absurd (omega arith)
trailing_none (suc k) n j h = go (trailing_none k (n / 2)) (n % 2) refl j h
  where
    go : ((j : ℕ) → j < count_trailing_zeros k (n / 2) → n / 2 / 2 ^ j % 2 ≡ 0)
        → (d : ℕ) → n % 2 ≡ d → (j : ℕ) → j < under d (count_trailing_zeros k (n / 2)) → n / 2 ^ j % 2 ≡ 0
    go rest zero e zero l = ap (λ q. q % 2) (div-one n) ∙ e
    go rest zero e (suc j) l = ap (λ q. q % 2) (halved n j) ∙ rest j (omega arith)
    go rest (suc d) e j l = absurd (omega arith)

pub trailing_some : (k n : ℕ) → 0 < n → n < 2 ^ k → holds n (count_trailing_zeros k n)
unfolding count_trailing_zeros
trailing_some zero n some small = absurd (omega arith)
trailing_some (suc k) n some small = go (trailing_some k (n / 2)) (n % 2) refl
  where
    go : (0 < n / 2 → n / 2 < 2 ^ k → holds (n / 2) (count_trailing_zeros k (n / 2)))
        → (d : ℕ) → n % 2 ≡ d → holds n (under d (count_trailing_zeros k (n / 2)))
    go rest zero e = ap (λ q. q % 2) (halved n (count_trailing_zeros k (n / 2))) ∙ rest (omega arith) (omega (arith, pow-suc 2 k))
    go rest (suc d) e = ap (λ q. q % 2) (div-one n) ∙ omega arith

-- what a test of the lowest bit says
pub bit_clear : (x : ℕ) → bit_and x 1 ≡ 0 → x % 2 ≡ 1 → ⊥
bit_clear x clear set = omega (arith, and_mask x 1)

pub bit_set : (x : ℕ) → (bit_and x 1 ≡ 0 → ⊥) → x % 2 ≡ 1
bit_set x some = omega (arith, and_mask x 1)

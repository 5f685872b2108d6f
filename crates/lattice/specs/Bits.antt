-- The bits of a number as a set. Assumes nothing.
use Rattle.std.specs.Prelude.{◌≡◌, ℕ, zero, suc, ◌+◌, ◌/◌, ◌%◌, ◌^◌, ◌<◌, ◌&&◌, T, ◌⊎◌, ◌==◌, bit_and, nat_eq, refl}
use Rattle.std.proofs.Common.{inl, inr, sym, ap, subst, ◌∙◌, arith, div-one, pow-suc, eqb→eq}
use Rattle.std.proofs.Math.Nat.{div-eq_of_lt}
use Rattle.std.specs.Int.Bits.{and_lt}
use Rattle.std.proofs.lemmas.Nat.{and_shr, and_mod, shr-shr}
use Rattle.std.proofs.lemmas.Bool.{eqb-true, eqb-false, cases_Bool}
use Rattle.lattice.specs.Sets.{has}
use Rattle.lattice.specs.Tests.{T_and, and_T, same_tests}

bit_cases : (x : ℕ) → x < 2 → (x ≡ 0) ⊎ (x ≡ 1)
bit_cases zero h = inl refl
bit_cases (suc x) h = inr (omega arith)

and_bits : (x y : ℕ) → x < 2 → y < 2 → (bit_and x y == 1) ≡ (x == 1 && y == 1)
and_bits x y p q =
    elim (bit_cases x p) [
      | inl a ↦ rw a refl
      | inr a ↦ elim (bit_cases y q) [ inl b ↦ rw (a, b) refl | inr b ↦ rw (a, b) refl ]
    ]

pub has_and : (a b v : ℕ) → has (bit_and a b) v ≡ (has a v && has b v)
unfolding has
has_and a b v =
    rw (and_shr a b v, and_mod (a / 2 ^ v) (b / 2 ^ v) 1)
    (and_bits ((a / 2 ^ v) % 2) ((b / 2 ^ v) % 2) (omega arith) (omega arith))

-- the bits of a half are the bits above the lowest
has_half : (a v : ℕ) → has (a / 2) v ≡ has a (1 + v)
unfolding has
has_half a v = ap (λ x. nat_eq (x % 2) 1) (shr-shr a 1 v)

has_low : (a : ℕ) → has a 0 ≡ (a % 2 == 1)
unfolding has
has_low a = ap (λ x. nat_eq (x % 2) 1) (div-one a)

odd_same : (a b : ℕ) → (a % 2 == 1) ≡ (b % 2 == 1) → a % 2 ≡ b % 2
odd_same a b e =
    elim (cases_Bool (a % 2 == 1)) [
      | inl t ↦ omega (arith, eqb-true (a % 2) 1 t, eqb-true (b % 2) 1 (sym e ∙ t))
      | inr f ↦
          let p : a % 2 ≡ 1 → ⊥ = eqb-false (a % 2) 1 f in
          let q : b % 2 ≡ 1 → ⊥ = eqb-false (b % 2) 1 (sym e ∙ f) in
          omega arith
    ]

-- sets of values below n that have the same values are one
pub has_ext : (n a b : ℕ) → a < 2 ^ n → b < 2 ^ n → ((v : ℕ) → v < n → has a v ≡ has b v) → a ≡ b
has_ext zero a b p q h = omega arith
has_ext (suc n) a b p q h =
    let s = pow-suc 2 n in
    let halves : a / 2 ≡ b / 2 = has_ext n (a / 2) (b / 2) (omega (arith, s)) (omega (arith, s))
    (λ v lt. has_half a v ∙ h (1 + v) (omega arith) ∙ sym (has_half b v)) in
    let low : a % 2 ≡ b % 2 = odd_same a b (sym (has_low a) ∙ h 0 (omega arith) ∙ has_low b) in
    omega arith

-- a set of values below v has not v
pub has_high : (s v : ℕ) → s < 2 ^ v → T (has s v) → ⊥
unfolding has
has_high s v lt h = let e = eqb→eq ((s / 2 ^ v) % 2) 1 h in omega (arith, ap (λ x. x % 2) (div-eq_of_lt lt))

-- a set that has the values of b gives b back when the two are cut
pub subset_and : (n a b : ℕ) → a < 2 ^ n → b < 2 ^ n → ((v : ℕ) → v < n → T (has b v) → T (has a v)) → bit_and a b ≡ b
subset_and n a b p q h =
    has_ext n (bit_and a b) b (and_lt n a b p q) q
    (λ v lt. has_and a b v ∙ same_tests (has a v && has b v) (has b v)
    (λ t. (T_and (has a v) (has b v) t).1)
    (λ t. and_T (has a v) (has b v) (h v lt t) t))

pub and_subset : (a b v : ℕ) → bit_and a b ≡ b → T (has b v) → T (has a v)
and_subset a b v e h =
    (T_and (has a v) (has b v) (subst T (sym (ap (λ x. has x v) e) ∙ has_and a b v) h)).0

-- c has exactly the values that a and b share
pub shared_and : (n a b c : ℕ) → a < 2 ^ n → b < 2 ^ n → c < 2 ^ n
    → ((v : ℕ) → v < n → T (has c v) → T (has a v) × T (has b v))
    → ((v : ℕ) → v < n → T (has a v) → T (has b v) → T (has c v))
    → c ≡ bit_and a b
shared_and n a b c p q r f g =
    has_ext n c (bit_and a b) r (and_lt n a b p q)
    (λ v lt. same_tests (has c v) (has a v && has b v)
    (λ t. and_T (has a v) (has b v) (f v lt t).0 (f v lt t).1)
    (λ t. g v lt (T_and (has a v) (has b v) t).0 (T_and (has a v) (has b v) t).1) ∙ sym (has_and a b v))

pub and_shared : (a b c v : ℕ) → c ≡ bit_and a b → T (has c v) → T (has a v) × T (has b v)
and_shared a b c v e h = T_and (has a v) (has b v) (subst T (ap (λ x. has x v) e ∙ has_and a b v) h)

pub shared_has : (a b c v : ℕ) → c ≡ bit_and a b → T (has a v) → T (has b v) → T (has c v)
shared_has a b c v e h k = subst T (sym (ap (λ x. has x v) e ∙ has_and a b v)) (and_T (has a v) (has b v) h k)

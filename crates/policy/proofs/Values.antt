-- The words of a set of values.
use Rattle.std.proofs.Common.{◌≡◌, ℕ, zero, suc, ◌+◌, ◌-◌, ◌*◌, ◌/◌, ◌%◌, ◌^◌, ◌<◌, ◌≤◌, true, false, cond, eqb, [], ◌∷◌, ◌++◌, sym, refl, ap, ◌∙◌, append-nil, mod-eq_of_lt, one-mul, zero-mul, arith, lit<, pow-add}
use native.Mathlib.Nat.{div-eq_of_lt, pow-le-pow_right}
use lib.Bits.{bit_or, or_shifted_r}
use lib.Pow.{field, mod-mod-pow, mod-pow-add, high, low}
use Rattle.std.proofs.lemmas.Bool.{eqb-true, eqb-false, cond_below}
use Rattle.std.proofs.lemmas.Nat.{pow_pos, mod_below, one_shl}
use Rattle.lattice.specs.Sets.{has, with, inserted}
use Rattle.lattice.proofs.Masks.{with_by_or}
use Rattle.policy.specs.Words.{values_below, value_word}

-- a value is added to a set by its bit
pub inserted_by_or : (s v : ℕ) → v < 64 → inserted s v ≡ bit_or s (2 ^ v)
inserted_by_or s v inside = sym (cond_below v 64 (with s v) s inside) ∙ sym (with_by_or s v inside) ∙ ap (bit_or s) (one_shl v 64 inside)

pub bit_lt : (s v : ℕ) → (s / 2 ^ v) % 2 < 2
bit_lt s v = mod_below (s / 2 ^ v) 2 (omega arith)

pub bit_on : (s v : ℕ) → has s v ≡ true → (s / 2 ^ v) % 2 ≡ 1
unfolding has
bit_on s v e = eqb-true _ _ e

pub bit_off : (s v : ℕ) → has s v ≡ false → (s / 2 ^ v) % 2 ≡ 0
unfolding has
bit_off s v e = let ne = eqb-false _ _ e in omega (arith, bit_lt s v, ne)

-- a bit is seen in the low part that holds it
pub mod_low : (s c n : ℕ) → n ≤ c → s % 2 ^ c % 2 ^ n ≡ s % 2 ^ n
mod_low s c n h =
    let e : c ≡ (c - n) + n = omega arith in
    ap (λ k. s % 2 ^ k % 2 ^ n) e ∙ mod-mod-pow s (c - n) n

pub has_low : (s t c v : ℕ) → v < c → s % 2 ^ c ≡ t % 2 ^ c → has s v ≡ has t v
unfolding has
has_low s t c v h e =
    let m : s % 2 ^ (1 + v) ≡ t % 2 ^ (1 + v) = sym (mod_low s c (1 + v) (omega arith)) ∙ ap (λ k. k % 2 ^ (1 + v)) e ∙ mod_low t c (1 + v) (omega arith) in
    let f : (s / 2 ^ v) % 2 ^ 1 ≡ (t / 2 ^ v) % 2 ^ 1 = sym (field s 1 v) ∙ ap (λ k. k / 2 ^ v) m ∙ field t 1 v in
    ap (λ k. eqb k 1) f

pub values_low : (a s t c n : ℕ) → n ≤ c → s % 2 ^ c ≡ t % 2 ^ c → values_below a s n ≡ values_below a t n
unfolding values_below
values_low a s t c zero h e = refl
values_low a s t c (suc n) h e =
    let p = values_low a s t c n (omega arith) e in
    let q = has_low s t c n h e in
    ap (λ b. values_below a s n ++ cond b (value_word a n ∷ []) []) q ∙ ap (λ xs. xs ++ cond (has t n) (value_word a n ∷ []) []) p

pub has_high : (s v : ℕ) → s < 2 ^ v → has s v ≡ false
unfolding has
has_high s v h = ap (λ k. eqb (k % 2) 1) (div-eq_of_lt h)

values_more : (a s n : ℕ) → s < 2 ^ n → values_below a s (suc n) ≡ values_below a s n
unfolding values_below
values_more a s n h = ap (λ b. values_below a s n ++ cond b (value_word a n ∷ []) []) (has_high s n h) ∙ append-nil (values_below a s n)

pow_up : (c m : ℕ) → 2 ^ c ≤ 2 ^ (m + c)
pow_up c m = let le : c ≤ m + c = omega arith in pow-le-pow_right (lit< tt) le

values_high : (a s c m : ℕ) → s < 2 ^ c → values_below a s (m + c) ≡ values_below a s c
values_high a s c zero h = let e : 0 + c ≡ c = omega arith in ap (values_below a s) e
values_high a s c (suc m) h =
    let e : suc m + c ≡ suc (m + c) = omega arith in
    let b : s < 2 ^ (m + c) = omega (arith, pow_up c m) in
    ap (values_below a s) e ∙ values_more a s (m + c) b ∙ values_high a s c m h

pub values_to : (a s c n : ℕ) → c ≤ n → s < 2 ^ c → values_below a s n ≡ values_below a s c
values_to a s c n h b = let e : n ≡ (n - c) + c = omega arith in ap (values_below a s) e ∙ values_high a s c (n - c) b

pub or_pow : (s c : ℕ) → s < 2 ^ c → bit_or s (2 ^ c) ≡ 2 ^ c + s
or_pow s c h = let e = or_shifted_r 1 c s h in ap (bit_or s) (sym (one-mul (2 ^ c))) ∙ e ∙ ap (λ k. k + s) (one-mul (2 ^ c))

pub pow_suc_two : (c : ℕ) → 2 ^ (suc c) ≡ 2 ^ c + 2 ^ c
pow_suc_two c = let f : 1 + c ≡ suc c = omega arith in let e : 2 ^ (1 + c) ≡ 2 ^ 1 * 2 ^ c = pow-add 2 1 c in ap (λ k. 2 ^ k) (sym f) ∙ e ∙ omega arith

-- one more value, above all others, is one more word
pub values_push : (a s c : ℕ) → s < 2 ^ c → c < 64 → values_below a (bit_or s (2 ^ c)) 64 ≡ values_below a s 64 ++ (value_word a c ∷ [])
unfolding values_below has
values_push a s c h hc =
    let t = 2 ^ c + s in
    let top : t < 2 ^ suc c = omega (arith, pow_suc_two c) in
    let one : 2 ^ c + s ≡ 1 * 2 ^ c + s = ap (λ k. k + s) (sym (one-mul (2 ^ c))) in
    let lows : t % 2 ^ c ≡ s % 2 ^ c = ap (λ k. k % 2 ^ c) one ∙ low 1 c h ∙ sym (mod-eq_of_lt h) in
    let q : t / 2 ^ c ≡ 1 = ap (λ k. k / 2 ^ c) one ∙ high 1 c h in
    let on : has t c ≡ true = ap (λ k. eqb (k % 2) 1) q in
    let e₁ : values_below a t 64 ≡ values_below a t (suc c) = values_to a t (suc c) 64 hc top in
    let e₂ : values_below a t c ≡ values_below a s c = values_low a t s c c (omega arith) lows in
    let e₃ : values_below a s c ≡ values_below a s 64 = sym (values_to a s c 64 (omega arith) h) in
    ap (λ k. values_below a k 64) (or_pow s c h) ∙ e₁
    ∙ ap (λ b. values_below a t c ++ cond b (value_word a c ∷ []) []) on
    ∙ ap (λ xs. xs ++ (value_word a c ∷ [])) (e₂ ∙ e₃)

pub values_none : (a n : ℕ) → values_below a 0 n ≡ []
unfolding values_below
values_none a zero = refl
values_none a (suc n) = values_more a 0 n (pow_pos n) ∙ values_none a n

-- the low part of a set, one value on
pub low_on : (s n : ℕ) → has s n ≡ true → bit_or (s % 2 ^ n) (2 ^ n) ≡ s % 2 ^ (suc n)
low_on s n e =
    let f : 1 + n ≡ suc n = omega arith in
    let b = bit_on s n e in
    let m : s % 2 ^ (1 + n) ≡ (s / 2 ^ n % 2 ^ 1) * 2 ^ n + s % 2 ^ n = mod-pow-add s 1 n in
    or_pow (s % 2 ^ n) n (mod_below s (2 ^ n) (pow_pos n))
    ∙ ap (λ k. k + s % 2 ^ n) (sym (one-mul (2 ^ n)))
    ∙ ap (λ k. k * 2 ^ n + s % 2 ^ n) (sym b)
    ∙ sym m ∙ ap (λ k. s % 2 ^ k) f

pub low_off : (s n : ℕ) → has s n ≡ false → s % 2 ^ (suc n) ≡ s % 2 ^ n
low_off s n e =
    let f : 1 + n ≡ suc n = omega arith in
    let b = bit_off s n e in
    let m : s % 2 ^ (1 + n) ≡ (s / 2 ^ n % 2 ^ 1) * 2 ^ n + s % 2 ^ n = mod-pow-add s 1 n in
    ap (λ k. s % 2 ^ k) (sym f) ∙ m ∙ ap (λ k. k * 2 ^ n + s % 2 ^ n) b ∙ omega (arith, zero-mul (2 ^ n))

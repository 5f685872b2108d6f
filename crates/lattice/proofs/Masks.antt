-- Sets as machine words: what the shifts and masks of the code compute. Assumes nothing.
use Rattle.std.proofs.Common.{◌≡◌, ℕ, zero, suc, ◌+◌, ◌-◌, ◌*◌, ◌/◌, ◌%◌, ◌^◌, ◌<◌, ◌≤◌, min, Bool, true, false, cond, eqb, sym, refl, ap, ◌∙◌, ap₂, lt_of_lt_of_le, mod-eq_of_lt, mul_assoc, arith, pow_pos, pow_mono}
use lib.Pow.{pow-lt}
use lib.Bits.{bit_and, bit_or, and_mask, and_step, or_add_and}
use Rattle.std.proofs.lemmas.Nat.{one_shl}
use Rattle.lattice.specs.Sets.{has, with, without}
use Rattle.lattice.specs.Tests.{is_false}
use Rattle.lattice.specs.Bits.{has_high}
use Rattle.lattice.proofs.Members.{bit_suc, two_pow, bit_of, no_bit_of}

pub has_by_and : (s v : ℕ) → eqb (bit_and (s / 2 ^ v) 1) 1 ≡ has s v
unfolding has
has_by_and s v = ap (λ (x : ℕ). eqb x 1) (and_mask (s / 2 ^ v) 1)

and_bit : (v s : ℕ) → bit_and s (2 ^ v) ≡ ((s / 2 ^ v) % 2) * 2 ^ v
and_bit zero s = and_mask s 1 ∙ omega arith
and_bit (suc v) s =
    let half : 2 ^ suc v / 2 ≡ 2 ^ v = omega (arith, two_pow v) in
    let even : 2 ^ suc v % 2 ≡ 0 = omega (arith, two_pow v) in
    and_step s (2 ^ suc v)
    ∙ ap₂ (λ (x y : ℕ). bit_and (s / 2) x * 2 + min (s % 2) y) half even
    ∙ ap (λ (x : ℕ). x * 2 + min (s % 2) 0) (and_bit v (s / 2))
    ∙ least (((s / 2) / 2 ^ v) % 2 * 2 ^ v * 2) (s % 2)
    ∙ mul_assoc (((s / 2) / 2 ^ v) % 2) (2 ^ v) 2
    ∙ ap₂ (λ (x y : ℕ). x * y) (sym (bit_suc s v)) (sym (two_pow v))
  where
    least : (x y : ℕ) → x + min y 0 ≡ x
    least x y = omega arith

or_bit : (s v : ℕ) → bit_or s (2 ^ v) ≡ with s v
unfolding with
or_bit s v = go (has s v) refl
  where
    go : (b : Bool) → has s v ≡ b → bit_or s (2 ^ v) ≡ cond b s (s + 2 ^ v)
    go true e =
        let masked : bit_and s (2 ^ v) ≡ 1 * 2 ^ v = and_bit v s ∙ ap (λ (x : ℕ). x * 2 ^ v) (bit_of s v e) in
        omega (arith, or_add_and s (2 ^ v))
    go false e =
        let masked : bit_and s (2 ^ v) ≡ 0 * 2 ^ v = and_bit v s ∙ ap (λ (x : ℕ). x * 2 ^ v) (no_bit_of s v e) in
        omega (arith, or_add_and s (2 ^ v))

pub with_by_or : (s v : ℕ) → v < 64 → bit_or s ((1 * 2 ^ v) % 2 ^ 64) ≡ with s v
with_by_or s v inside = ap (bit_or s) (one_shl v 64 inside) ∙ or_bit s v

-- all but one bit: with what bit v was worth added again, the number is back
and_all_but : (v k s : ℕ) → v < k → s < 2 ^ k → bit_and s ((2 ^ k - 1) - 2 ^ v) + ((s / 2 ^ v) % 2) * 2 ^ v ≡ s
and_all_but v zero s low fits = absurd (omega arith)
and_all_but zero (suc k) s low fits =
    let half : ((2 ^ suc k - 1) - 1) / 2 ≡ 2 ^ k - 1 = omega (arith, two_pow k, pow_pos k) in
    let even : ((2 ^ suc k - 1) - 1) % 2 ≡ 0 = omega (arith, two_pow k, pow_pos k) in
    let fits_half : s / 2 < 2 ^ k = omega (arith, two_pow k) in
    let step : bit_and s ((2 ^ suc k - 1) - 1) ≡ (s / 2) * 2 + min (s % 2) 0 =
    and_step s ((2 ^ suc k - 1) - 1)
    ∙ ap₂ (λ (x y : ℕ). bit_and (s / 2) x * 2 + min (s % 2) y) half even
    ∙ ap (λ (x : ℕ). x * 2 + min (s % 2) 0) (and_mask (s / 2) k ∙ mod-eq_of_lt fits_half) in
    omega arith
and_all_but (suc v) (suc k) s low fits =
    let lower : 2 ^ v < 2 ^ k = pow-lt (omega arith) in
    let half : ((2 ^ suc k - 1) - 2 ^ suc v) / 2 ≡ (2 ^ k - 1) - 2 ^ v = omega (arith, two_pow k, two_pow v) in
    let odd : ((2 ^ suc k - 1) - 2 ^ suc v) % 2 ≡ 1 = omega (arith, two_pow k, two_pow v) in
    let fits_half : s / 2 < 2 ^ k = omega (arith, two_pow k) in
    let before : bit_and (s / 2) ((2 ^ k - 1) - 2 ^ v) + (((s / 2) / 2 ^ v) % 2) * 2 ^ v ≡ s / 2 = and_all_but v k (s / 2) (omega arith) fits_half in
    let step : bit_and s ((2 ^ suc k - 1) - 2 ^ suc v) ≡ bit_and (s / 2) ((2 ^ k - 1) - 2 ^ v) * 2 + min (s % 2) 1 =
    and_step s ((2 ^ suc k - 1) - 2 ^ suc v) ∙ ap₂ (λ (x y : ℕ). bit_and (s / 2) x * 2 + min (s % 2) y) half odd in
    let worth : ((s / 2 ^ suc v) % 2) * 2 ^ suc v ≡ ((((s / 2) / 2 ^ v) % 2) * 2 ^ v) * 2 =
    ap₂ (λ (x y : ℕ). x * y) (bit_suc s v) (two_pow v) ∙ sym (mul_assoc (((s / 2) / 2 ^ v) % 2) (2 ^ v) 2) in
    omega arith

and_not_bit : (s v : ℕ) → v < 64 → s < 2 ^ 64 → bit_and s ((2 ^ 64 - 1) - 2 ^ v) ≡ without s v
unfolding without
and_not_bit s v inside fits = go (has s v) refl
  where
    go : (b : Bool) → has s v ≡ b → bit_and s ((2 ^ 64 - 1) - 2 ^ v) ≡ cond b (s - 2 ^ v) s
    go true e =
        let worth : ((s / 2 ^ v) % 2) * 2 ^ v ≡ 1 * 2 ^ v = ap (λ (x : ℕ). x * 2 ^ v) (bit_of s v e) in
        omega (arith, and_all_but v 64 s inside fits)
    go false e =
        let worth : ((s / 2 ^ v) % 2) * 2 ^ v ≡ 0 * 2 ^ v = ap (λ (x : ℕ). x * 2 ^ v) (no_bit_of s v e) in
        omega (arith, and_all_but v 64 s inside fits)

pub without_by_and : (s v : ℕ) → v < 64 → s < 2 ^ 64 → bit_and s ((2 ^ 64 - 1) - (1 * 2 ^ v) % 2 ^ 64) ≡ without s v
without_by_and s v inside fits = ap (λ (x : ℕ). bit_and s ((2 ^ 64 - 1) - x)) (one_shl v 64 inside) ∙ and_not_bit s v inside fits

-- a word of 64 bits has no value at or above 64
pub has_past : (s v : ℕ) → s < 2 ^ 64 → 64 ≤ v → has s v ≡ false
has_past s v fits past = is_false (has s v) (has_high s v (lt_of_lt_of_le fits (pow_mono past)))

pub without_past : (s v : ℕ) → s < 2 ^ 64 → 64 ≤ v → without s v ≡ s
unfolding without
without_past s v fits past = ap (λ (b : Bool). cond b (s - 2 ^ v) s) (has_past s v fits past)

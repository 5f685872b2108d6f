-- A value put into a set, and taken out of it. Assumes nothing.
use Rattle.std.proofs.Common.{◌≡◌, ℕ, zero, suc, ◌+◌, ◌-◌, ◌*◌, ◌/◌, ◌%◌, ◌^◌, ◌≤◌, Bool, true, false, cond, not, ◌&&◌, ◌||◌, eqb, sym, refl, ap, ◌∙◌, subst, inl, inr, pow-suc, arith, shr-shr}
use Rattle.std.proofs.lemmas.Bool.{eqb-true, eqb-false, eq-eqb, ne_eqb, cases_eq, or_left, both_ways}
use Rattle.lattice.specs.Sets.{has, with, without}

-- ---- tests over the numbers below a bound

pub bit_suc : (s v : ℕ) → (s / 2 ^ suc v) % 2 ≡ ((s / 2) / 2 ^ v) % 2
bit_suc s v = ap (λ (x : ℕ). x % 2) (ap (λ (x : ℕ). s / x) (ap (λ (k : ℕ). 2 ^ k) (one_more v)) ∙ sym (shr-shr s 1 v))
  where
    one_more : (v : ℕ) → suc v ≡ 1 + v
    one_more v = omega arith

pub two_pow : (v : ℕ) → 2 ^ suc v ≡ 2 ^ v * 2
two_pow v = pow-suc 2 v

bit_added : (v s : ℕ) → (s / 2 ^ v) % 2 ≡ 0 → ((s + 2 ^ v) / 2 ^ v) % 2 ≡ 1
bit_added zero s h = omega arith
bit_added (suc v) s h =
    let half : (s + 2 ^ suc v) / 2 ≡ s / 2 + 2 ^ v = omega (arith, two_pow v) in
    bit_suc (s + 2 ^ suc v) v ∙ ap (λ (x : ℕ). (x / 2 ^ v) % 2) half ∙ bit_added v (s / 2) (sym (bit_suc s v) ∙ h)

bit_kept : (v w s : ℕ) → (s / 2 ^ v) % 2 ≡ 0 → (v ≡ w → ⊥) → ((s + 2 ^ v) / 2 ^ w) % 2 ≡ (s / 2 ^ w) % 2
bit_kept zero zero s h other = absurd (other refl)
bit_kept zero (suc w) s h other =
    let half : (s + 1) / 2 ≡ s / 2 = omega arith in
    bit_suc (s + 1) w ∙ ap (λ (x : ℕ). (x / 2 ^ w) % 2) half ∙ sym (bit_suc s w)
bit_kept (suc v) zero s h other = omega (arith, two_pow v)
bit_kept (suc v) (suc w) s h other =
    let half : (s + 2 ^ suc v) / 2 ≡ s / 2 + 2 ^ v = omega (arith, two_pow v) in
    bit_suc (s + 2 ^ suc v) w ∙ ap (λ (x : ℕ). (x / 2 ^ w) % 2) half ∙ bit_kept v w (s / 2) (sym (bit_suc s v) ∙ h) (λ e. other (ap suc e)) ∙ sym (bit_suc s w)

-- a number with bit v set is at least 2 ^ v
pub bit_le : (v s : ℕ) → (s / 2 ^ v) % 2 ≡ 1 → 2 ^ v ≤ s
bit_le zero s h = omega arith
bit_le (suc v) s h = let below : 2 ^ v ≤ s / 2 = bit_le v (s / 2) (sym (bit_suc s v) ∙ h) in omega (arith, two_pow v)

bit_cleared : (v s : ℕ) → (s / 2 ^ v) % 2 ≡ 1 → ((s - 2 ^ v) / 2 ^ v) % 2 ≡ 0
bit_cleared zero s h = omega arith
bit_cleared (suc v) s h =
    let half : (s - 2 ^ suc v) / 2 ≡ s / 2 - 2 ^ v = omega (arith, two_pow v) in
    bit_suc (s - 2 ^ suc v) v ∙ ap (λ (x : ℕ). (x / 2 ^ v) % 2) half ∙ bit_cleared v (s / 2) (sym (bit_suc s v) ∙ h)

bit_left : (v w s : ℕ) → (s / 2 ^ v) % 2 ≡ 1 → (v ≡ w → ⊥) → ((s - 2 ^ v) / 2 ^ w) % 2 ≡ (s / 2 ^ w) % 2
bit_left zero zero s h other = absurd (other refl)
bit_left zero (suc w) s h other =
    let half : (s - 1) / 2 ≡ s / 2 = omega arith in
    bit_suc (s - 1) w ∙ ap (λ (x : ℕ). (x / 2 ^ w) % 2) half ∙ sym (bit_suc s w)
bit_left (suc v) zero s h other = omega (arith, two_pow v, bit_le (suc v) s h)
bit_left (suc v) (suc w) s h other =
    let half : (s - 2 ^ suc v) / 2 ≡ s / 2 - 2 ^ v = omega (arith, two_pow v) in
    bit_suc (s - 2 ^ suc v) w ∙ ap (λ (x : ℕ). (x / 2 ^ w) % 2) half ∙ bit_left v w (s / 2) (sym (bit_suc s v) ∙ h) (λ e. other (ap suc e)) ∙ sym (bit_suc s w)

pub bit_of : (s v : ℕ) → has s v ≡ true → (s / 2 ^ v) % 2 ≡ 1
unfolding has
bit_of s v h = eqb-true ((s / 2 ^ v) % 2) 1 h

pub no_bit_of : (s v : ℕ) → has s v ≡ false → (s / 2 ^ v) % 2 ≡ 0
unfolding has
no_bit_of s v h = let other = eqb-false ((s / 2 ^ v) % 2) 1 h in omega arith

has_of : (s v : ℕ) → (s / 2 ^ v) % 2 ≡ 1 → has s v ≡ true
unfolding has
has_of s v h = eq-eqb ((s / 2 ^ v) % 2) 1 h

has_not_of : (s v : ℕ) → (s / 2 ^ v) % 2 ≡ 0 → has s v ≡ false
unfolding has
has_not_of s v h = ne_eqb ((s / 2 ^ v) % 2) 1 (λ e. omega arith)

has_like : (s t v : ℕ) → (s / 2 ^ v) % 2 ≡ (t / 2 ^ v) % 2 → has s v ≡ has t v
unfolding has
has_like s t v h = ap (λ (x : ℕ). eqb x 1) h

pub has_empty : (v : ℕ) → has 0 v ≡ false
has_empty v = has_not_of 0 v (go v)
  where
    go : (v : ℕ) → (0 / 2 ^ v) % 2 ≡ 0
    go zero = refl
    go (suc v) = bit_suc 0 v ∙ go v

pub has_with_same : (s v : ℕ) → has (with s v) v ≡ true
unfolding with
has_with_same s v = go (has s v) refl
  where
    go : (b : Bool) → has s v ≡ b → has (cond b s (s + 2 ^ v)) v ≡ true
    go true e = e
    go false e = has_of (s + 2 ^ v) v (bit_added v s (no_bit_of s v e))

pub has_with_other : (s v w : ℕ) → (v ≡ w → ⊥) → has (with s v) w ≡ has s w
unfolding with
has_with_other s v w other = go (has s v) refl
  where
    go : (b : Bool) → has s v ≡ b → has (cond b s (s + 2 ^ v)) w ≡ has s w
    go true e = refl
    go false e = has_like (s + 2 ^ v) s w (bit_kept v w s (no_bit_of s v e) other)

pub has_with : (s v w : ℕ) → has (with s v) w ≡ (eqb v w || has s w)
has_with s v w =
    elim (cases_eq v w) [
      | inl same ↦ subst (λ (x : ℕ). has (with s v) x ≡ true) same (has_with_same s v) ∙ sym (or_left (eqb v w) (has s w) (eq-eqb v w same))
      | inr other ↦ has_with_other s v w other ∙ ap (λ (b : Bool). b || has s w) (sym (ne_eqb v w other))
    ]

pub has_without_same : (s v : ℕ) → has (without s v) v ≡ false
unfolding without
has_without_same s v = go (has s v) refl
  where
    go : (b : Bool) → has s v ≡ b → has (cond b (s - 2 ^ v) s) v ≡ false
    go true e = has_not_of (s - 2 ^ v) v (bit_cleared v s (bit_of s v e))
    go false e = e

pub has_without_other : (s v w : ℕ) → (v ≡ w → ⊥) → has (without s v) w ≡ has s w
unfolding without
has_without_other s v w other = go (has s v) refl
  where
    go : (b : Bool) → has s v ≡ b → has (cond b (s - 2 ^ v) s) w ≡ has s w
    go true e = has_like (s - 2 ^ v) s w (bit_left v w s (bit_of s v e) other)
    go false e = refl

pub has_without : (s v w : ℕ) → has (without s v) w ≡ (not (eqb v w) && has s w)
has_without s v w =
    elim (cases_eq v w) [
      | inl same ↦ subst (λ (x : ℕ). has (without s v) x ≡ false) same (has_without_same s v) ∙ ap (λ (b : Bool). not b && has s w) (sym (eq-eqb v w same))
      | inr other ↦ has_without_other s v w other ∙ ap (λ (b : Bool). not b && has s w) (sym (ne_eqb v w other))
    ]

-- what is left once v is left out was there before
pub has_before_without : (s v w : ℕ) → has (without s v) w ≡ true → has s w ≡ true
has_before_without s v w h =
    elim (cases_eq v w) [
      | inl same ↦ absurd (both_ways (has (without s v) w) (subst (λ (x : ℕ). has (without s v) x ≡ false) same (has_without_same s v)) h)
      | inr other ↦ sym (has_without_other s v w other) ∙ h
    ]

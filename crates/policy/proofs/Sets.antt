-- What the sets of lattices hold, and what is gathered over their values. Assumes nothing.
use Rattle.std.proofs.Common.{◌≡◌, ℕ, zero, suc, ◌+◌, ◌<◌, Bool, true, false, cond, not, ◌&&◌, ◌||◌, Some, None, Decides, Option, sym, refl, ap, ◌∙◌, subst, inl, inr, add-one, arith}
use Rattle.std.proofs.lemmas.Bool.{cases_Bool, cases_eq, and_parts, and_from, or_cases, or_from, or_left, or_right, both_ways, cond-true, cond-false}
use Rattle.lattice.specs.Sets.{has, with, every, some_below, least, all_of, some_of, gather, image}
use Rattle.lattice.proofs.Members.{has_empty, has_with_same, has_with_other}

-- ---- tests over the numbers below a bound

pub every_below : (p : ℕ → Bool) (n : ℕ) → every p n ≡ true → (v : ℕ) → v < n → p v ≡ true
unfolding every
every_below p zero h v inside = absurd (omega arith)
every_below p (suc n) h v inside =
    let parts = and_parts (every p n) (p n) h in
    elim (cases_eq v n) [
      | inl same ↦ subst (λ (x : ℕ). p x ≡ true) (sym same) parts.1
      | inr other ↦ every_below p n parts.0 v (omega arith)
    ]

pub every_from : (p : ℕ → Bool) (n : ℕ) → ((v : ℕ) → v < n → p v ≡ true) → every p n ≡ true
unfolding every
every_from p zero h = refl
every_from p (suc n) h = and_from (every p n) (p n) (every_from p n (λ v inside. h v (omega arith))) (h n (omega arith))

pub decides_every : (p : ℕ → Bool) (n : ℕ) → Decides (every p n) ((v : ℕ) → v < n → p v ≡ true)
decides_every p n = (every_below p n, every_from p n)

pub some_below_at : (p : ℕ → Bool) (n : ℕ) → some_below p n ≡ true → (v : ℕ) × (v < n) × (p v ≡ true)
unfolding some_below
some_below_at p zero h = absurd (both_ways false refl h)
some_below_at p (suc n) h =
    elim (or_cases (some_below p n) (p n) h) [
      | inl before ↦ let found = some_below_at p n before in (found.0, omega (arith, found.1), found.2)
      | inr here ↦ (n, omega arith, here)
    ]

pub some_below_from : (p : ℕ → Bool) (n v : ℕ) → v < n → p v ≡ true → some_below p n ≡ true
unfolding some_below
some_below_from p zero v inside h = absurd (omega arith)
some_below_from p (suc n) v inside h =
    elim (cases_eq v n) [
      | inl same ↦ or_right (some_below p n) (p n) (subst (λ (x : ℕ). p x ≡ true) same h)
      | inr other ↦ or_left (some_below p n) (p n) (some_below_from p n v (omega arith) h)
    ]

pub decides_some_below : (p : ℕ → Bool) (n : ℕ) → Decides (some_below p n) ((v : ℕ) × (v < n) × (p v ≡ true))
decides_some_below p n = (some_below_at p n, λ found. some_below_from p n found.0 found.1 found.2)

-- the least number that passes is below the bound and passes
pub least_passes : (p : ℕ → Bool) (n k : ℕ) → least p n ≡ Some k → (k < n) × (p k ≡ true)
unfolding least
least_passes p zero k h = let z : ◌≡◌ {A = ℕ} 0 1 = cc in absurd (omega arith)
least_passes p (suc n) k h = go (least_passes p n k) (least p n) refl h
  where
    here : (b : Bool) → p n ≡ b → cond b (Some n) None ≡ Some k → (k < suc n) × (p k ≡ true)
    here true e f = let same : n ≡ k = cc in (omega arith, subst (λ (x : ℕ). p x ≡ true) same e)
    here false e f = let z : ◌≡◌ {A = ℕ} 0 1 = cc in absurd (omega arith)

    go : (least p n ≡ Some k → (k < n) × (p k ≡ true)) → (o : Option ℕ) → least p n ≡ o →
        ◌≡◌ {A = Option ℕ} (elim o [ Some j ↦ Some j | None ↦ cond (p n) (Some n) None ]) (Some k) → (k < suc n) × (p k ≡ true)
    go before (Some j) found e = let b : (k < n) × (p k ≡ true) = before (found ∙ e) in (omega arith, b.1)
    go before None found e = here (p n) refl e

-- ---- tests over the values of a set

pub all_of_each : (s : ℕ) (p : ℕ → Bool) → all_of s p ≡ true → (v : ℕ) → v < 64 → has s v ≡ true → p v ≡ true
unfolding all_of
all_of_each s p h v inside holds = go (has s v) holds (every_below (λ v. not (has s v) || p v) 64 h v inside)
  where
    go : (b : Bool) → b ≡ true → (not b || p v) ≡ true → p v ≡ true
    go true e f = f
    go false e f = absurd (both_ways false refl e)

pub all_of_from : (s : ℕ) (p : ℕ → Bool) → ((v : ℕ) → v < 64 → has s v ≡ true → p v ≡ true) → all_of s p ≡ true
unfolding all_of
all_of_from s p h = every_from (λ v. not (has s v) || p v) 64 (λ v inside. go v (has s v) (h v inside))
  where
    go : (v : ℕ) (b : Bool) → (b ≡ true → p v ≡ true) → (not b || p v) ≡ true
    go v true f = f refl
    go v false f = refl

-- all_of is true exactly when p holds of each value of s
pub decides_all_of : (s : ℕ) (p : ℕ → Bool) → Decides (all_of s p) ((v : ℕ) → v < 64 → has s v ≡ true → p v ≡ true)
decides_all_of s p = (all_of_each s p, all_of_from s p)

pub all_of_missed : (s : ℕ) (p : ℕ → Bool) (v : ℕ) → v < 64 → has s v ≡ true → p v ≡ false → all_of s p ≡ false
all_of_missed s p v inside holds fails =
    elim (cases_Bool (all_of s p)) [
      | inl all ↦ absurd (both_ways (p v) fails (all_of_each s p all v inside holds))
      | inr missed ↦ missed
    ]

pub some_of_at : (s : ℕ) (p : ℕ → Bool) → some_of s p ≡ true → (v : ℕ) × (v < 64) × (has s v ≡ true) × (p v ≡ true)
unfolding some_of
some_of_at s p h =
    let found = some_below_at (λ v. has s v && p v) 64 h in
    let parts = and_parts (has s found.0) (p found.0) found.2 in
    (found.0, found.1, parts.0, parts.1)

pub some_of_from : (s : ℕ) (p : ℕ → Bool) (v : ℕ) → v < 64 → has s v ≡ true → p v ≡ true → some_of s p ≡ true
unfolding some_of
some_of_from s p v inside holds passes = some_below_from (λ v. has s v && p v) 64 v inside (and_from (has s v) (p v) holds passes)

-- some_of is true exactly when p holds of some value of s
pub decides_some_of : (s : ℕ) (p : ℕ → Bool) → Decides (some_of s p) ((v : ℕ) × (v < 64) × (has s v ≡ true) × (p v ≡ true))
decides_some_of s p = (some_of_at s p, λ found. some_of_from s p found.0 found.1 found.2 found.3)

-- ---- what is gathered over the values of a set

-- what holds of the start and is kept by each value taken in, and by each passed over, holds of the result
pub gather_keeps : {A : Type 0} (f : A → ℕ → A) (start : A) (s : ℕ) (P : ℕ → A → Type 0) (n : ℕ) → P 0 start →
    ((k : ℕ) (a : A) → k < n → has s k ≡ true → P k a → P (suc k) (f a k)) →
    ((k : ℕ) (a : A) → k < n → has s k ≡ false → P k a → P (suc k) a) → P n (gather f start s n)
unfolding gather
gather_keeps f start s P zero first taken passed = first
gather_keeps {A} f start s P (suc n) first taken passed =
    go (gather f start s n) (gather_keeps f start s P n first (λ k a inside. taken k a (omega arith)) (λ k a inside. passed k a (omega arith))) (has s n) refl
  where
    go : (a : A) → P n a → (b : Bool) → has s n ≡ b → P (suc n) (cond b (f a n) a)
    go a holds true e = taken n a (omega arith) e holds
    go a holds false e = passed n a (omega arith) e holds

-- ---- one number more

pub every_more : (p : ℕ → Bool) (n : ℕ) → every p n ≡ true → p n ≡ true → every p (n + 1) ≡ true
every_more p n before here = subst (λ (k : ℕ). every p k ≡ true) (sym (add-one n)) (every_from p (suc n) go)
  where
    go : (v : ℕ) → v < suc n → p v ≡ true
    go v inside = elim (cases_eq v n) [ inl same ↦ subst (λ (x : ℕ). p x ≡ true) (sym same) here | inr other ↦ every_below p n before v (omega arith) ]

pub some_below_more : (p : ℕ → Bool) (n : ℕ) → some_below p n ≡ false → p n ≡ false → some_below p (n + 1) ≡ false
unfolding some_below
some_below_more p n before here = subst (λ (k : ℕ). some_below p k ≡ false) (sym (add-one n)) (or_from (some_below p n) (p n) before here)

pub gather_taken : {A : Type 0} (f : A → ℕ → A) (start : A) (s n : ℕ) → has s n ≡ true → gather f start s (n + 1) ≡ f (gather f start s n) n
unfolding gather
gather_taken f start s n holds =
    ap (gather f start s) (add-one n) ∙ cond-true (has s n) (f (gather f start s n) n) (gather f start s n) holds

pub gather_passed : {A : Type 0} (f : A → ℕ → A) (start : A) (s n : ℕ) → has s n ≡ false → gather f start s (n + 1) ≡ gather f start s n
unfolding gather
gather_passed f start s n absent =
    ap (gather f start s) (add-one n) ∙ cond-false (has s n) (f (gather f start s n) n) (gather f start s n) absent

-- the values that `image` has made of those below n
abbrev MadeBelow : (ℕ → ℕ) → ℕ → ℕ → ℕ → Type 0
MadeBelow f s w n = (v : ℕ) × (v < n) × (has s v ≡ true) × (f v ≡ w)

pub image_at : (f : ℕ → ℕ) (s w : ℕ) → has (image f s) w ≡ true → (v : ℕ) × (v < 64) × (has s v ≡ true) × (f v ≡ w)
unfolding image
image_at f s w =
    gather_keeps (λ made v. with made (f v)) 0 s (λ n made. has made w ≡ true → MadeBelow f s w n) 64
    (λ h. absurd (both_ways (has 0 w) (has_empty w) h)) taken (λ k made inside holds before h. later k (before h))
  where
    later : (k : ℕ) → MadeBelow f s w k → MadeBelow f s w (suc k)
    later k found = (found.0, omega (arith, found.1), found.2, found.3)

    taken : (k made : ℕ) → k < 64 → has s k ≡ true → (has made w ≡ true → MadeBelow f s w k) → has (with made (f k)) w ≡ true → MadeBelow f s w (suc k)
    taken k made inside holds before h =
        elim (cases_eq (f k) w) [
          | inl same ↦ (k, omega arith, holds, same)
          | inr other ↦ later k (before (sym (has_with_other made (f k) w other) ∙ h))
        ]

pub image_from : (f : ℕ → ℕ) (s v : ℕ) → v < 64 → has s v ≡ true → has (image f s) (f v) ≡ true
unfolding image
image_from f s v inside holds =
    gather_keeps (λ made v. with made (f v)) 0 s (λ n made. v < n → has made (f v) ≡ true) 64
    (λ h. absurd (omega arith)) taken passed inside
  where
    taken : (k made : ℕ) → k < 64 → has s k ≡ true → (v < k → has made (f v) ≡ true) → v < suc k → has (with made (f k)) (f v) ≡ true
    taken k made inside holds before below =
        elim (cases_eq (f k) (f v)) [
          | inl same ↦ subst (λ (x : ℕ). has (with made (f k)) x ≡ true) same (has_with_same made (f k))
          | inr other ↦ has_with_other made (f k) (f v) other ∙ before (not_here other)
        ]
      where
        not_here : (f k ≡ f v → ⊥) → v < k
        not_here other = elim (cases_eq k v) [ inl same ↦ absurd (other (ap f same)) | inr apart ↦ omega arith ]

    passed : (k made : ℕ) → k < 64 → has s k ≡ false → (v < k → has made (f v) ≡ true) → v < suc k → has made (f v) ≡ true
    passed k made inside absent before below =
        elim (cases_eq k v) [
          | inl same ↦ absurd (both_ways (has s k) absent (subst (λ (x : ℕ). has s x ≡ true) (sym same) holds))
          | inr apart ↦ before (omega arith)
        ]

-- w is in the image exactly when f makes it of some value of s
pub decides_image : (f : ℕ → ℕ) (s w : ℕ) → Decides (has (image f s) w) ((v : ℕ) × (v < 64) × (has s v ≡ true) × (f v ≡ w))
decides_image f s w =
    (image_at f s w, λ found. subst (λ (x : ℕ). has (image f s) x ≡ true) found.3 (image_from f s found.0 found.1 found.2))

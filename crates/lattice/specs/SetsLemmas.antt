-- What `every`, `some_below`, `least` and `has` say. Assumes nothing.
use Rattle.std.specs.Prelude.{◌≡◌, ℕ, zero, suc, ◌+◌, ◌<◌, Bool, true, false, T, Some, None, Option, ◌≢◌, refl}
use Rattle.std.proofs.Common.{inl, inr, sym, ap, subst, ◌∙◌, arith}
use Rattle.std.proofs.lemmas.Bool.{cases_lt}
use Rattle.lattice.specs.Sets.{every, some_below, least}
use Rattle.lattice.specs.Tests.{T_and, and_T, T_or, or_T_left, or_T_right, is_true, from_true, is_false, from_false}

-- a test that passes at n passes at an equal number
pub at_equal : (p : ℕ → Bool) (m n : ℕ) → m ≡ n → T (p n) → T (p m)
at_equal p m n e h = subst (λ (x : ℕ). T (p x)) (sym e) h

pub every_all : (p : ℕ → Bool) (n : ℕ) → T (every p n) → (k : ℕ) → k < n → T (p k)
unfolding every
every_all p zero h k lt = let z : ⊥ = omega arith in absurd z
every_all p (suc n) h k lt =
    elim (cases_lt k n) [
      | inl l ↦ every_all p n (T_and (every p n) (p n) h).0 k l
      | inr g ↦ at_equal p k n (omega arith) (T_and (every p n) (p n) h).1
    ]

pub all_every : (p : ℕ → Bool) (n : ℕ) → ((k : ℕ) → k < n → T (p k)) → T (every p n)
unfolding every
all_every p zero h = tt
all_every p (suc n) h = and_T (every p n) (p n) (all_every p n (λ k lt. h k (omega arith))) (h n (omega arith))

pub some_found : (p : ℕ → Bool) (n : ℕ) → T (some_below p n) → (k : ℕ) × (k < n) × T (p k)
unfolding some_below
some_found p zero h = absurd h
some_found p (suc n) h =
    elim (T_or (some_below p n) (p n) h) [
      | inl l ↦ let w = some_found p n l in (w.0, omega (arith, w.1), w.2)
      | inr r ↦ (n, omega arith, r)
    ]

pub found_some : (p : ℕ → Bool) (n k : ℕ) → k < n → T (p k) → T (some_below p n)
unfolding some_below
found_some p zero k lt h = let z : ⊥ = omega arith in absurd z
found_some p (suc n) k lt h =
    elim (cases_lt k n) [
      | inl l ↦ or_T_left (some_below p n) (p n) (found_some p n k l h)
      | inr g ↦ or_T_right (some_below p n) (p n) (at_equal p n k (omega arith) h)
    ]

-- none below n passes; or m is the first that does
pub data First (p : ℕ → Bool) (n : ℕ) : Type 0 where
  absent : least p n ≡ None → ((k : ℕ) → k < n → T (p k) → ⊥) → First p n
  present : (m : ℕ) → least p n ≡ Some m → m < n → T (p m) → ((k : ℕ) → k < m → T (p k) → ⊥) → First p n

first_more : (p : ℕ → Bool) (n : ℕ) (b : Bool) → p n ≡ b → least p n ≡ None → ((k : ℕ) → k < n → T (p k) → ⊥) → First p (suc n)
unfolding least
first_more p n true q e low = present n (rw (e, q)) (omega arith) (from_true (p n) q) low
first_more p n false q e low =
    absent (rw (e, q))
    (λ k lt h. elim (cases_lt k n) [ inl l ↦ low k l h | inr g ↦ from_false (p n) q (at_equal p n k (omega arith) h) ])

first_next : (p : ℕ → Bool) (n : ℕ) → First p n → First p (suc n)
unfolding least
first_next p n (absent e low) = first_more p n (p n) refl e low
first_next p n (present m e lt h low) = present m (rw e) (omega arith) h low

pub first : (p : ℕ → Bool) (n : ℕ) → First p n
unfolding least
first p zero = absent refl (λ k lt h. let z : ⊥ = omega arith in z)
first p (suc n) = first_next p n (first p n)

pub none_some : {A : Type 0} (o : Option A) (m : A) → o ≡ None → o ≢ Some m
none_some o m p q = let z : ◌≡◌ {A = ℕ} 0 1 = cc in omega arith

pub some_same : {A : Type 0} (o : Option A) (m n : A) → o ≡ Some m → o ≡ Some n → m ≡ n
some_same o m n p q = cc

pub least_none : (p : ℕ → Bool) (n : ℕ) → least p n ≡ None → (k : ℕ) → k < n → T (p k) → ⊥
least_none p n e k lt h =
    elim (first p n) [ absent _ low ↦ low k lt h | present m q _ _ _ ↦ none_some (least p n) m e q ]

pub least_some : (p : ℕ → Bool) (n m : ℕ) → least p n ≡ Some m → (m < n) × T (p m) × ((k : ℕ) → k < m → T (p k) → ⊥)
least_some p n m e =
    elim (first p n) [
      | absent q _ ↦ absurd (none_some (least p n) m q e)
      | present w q lt h low ↦
          let same : m ≡ w = some_same (least p n) m w e q in
          (omega arith, at_equal p m w same h, λ k l t. low k (omega arith) t)
    ]

pub least_is_none : (p : ℕ → Bool) (n : ℕ) → ((k : ℕ) → k < n → T (p k) → ⊥) → least p n ≡ None
least_is_none p n low = elim (first p n) [ absent q _ ↦ q | present w q lt h _ ↦ absurd (low w lt h) ]

pub least_is : (p : ℕ → Bool) (n m : ℕ) → m < n → T (p m) → ((k : ℕ) → k < m → T (p k) → ⊥) → least p n ≡ Some m
least_is p n m lt h low =
    elim (first p n) [
      | absent _ none ↦ absurd (none m lt h)
      | present w q l t first_w ↦
          elim (cases_lt w m) [
            | inl less ↦ absurd (low w less t)
            | inr g ↦ elim (cases_lt m w) [ inl less ↦ absurd (first_w m less h) | inr f ↦ q ∙ ap Some (omega arith) ]
          ]
    ]

pub least_exists : (p : ℕ → Bool) (n k : ℕ) → k < n → T (p k) → (m : ℕ) × (least p n ≡ Some m)
least_exists p n k lt h = elim (first p n) [ absent _ none ↦ absurd (none k lt h) | present w q _ _ _ ↦ (w, q) ]

-- the only number that passes is the least
pub least_only : (p : ℕ → Bool) (n m : ℕ) → m < n → T (p m) → ((k : ℕ) → T (p k) → k ≡ m) → least p n ≡ Some m
least_only p n m lt h only = least_is p n m lt h (λ k l t. let e : k ≡ m = only k t in let z : ⊥ = omega arith in z)

-- one turn of a loop that looks for the first number that passes, and its end
pub least_next : (p : ℕ → Bool) (i : ℕ) → least p i ≡ None → p i ≡ false → least p (i + 1) ≡ None
least_next p i e f =
    least_is_none p (i + 1)
    (λ k lt t. elim (cases_lt k i) [ inl l ↦ least_none p i e k l t | inr g ↦ from_false (p i) f (at_equal p i k (omega arith) t) ])

pub least_here : (p : ℕ → Bool) (i n : ℕ) → i < n → least p i ≡ None → p i ≡ true → least p n ≡ Some i
least_here p i n lt e t = least_is p n i lt (from_true (p i) t) (least_none p i e)

-- the same for a loop that asks whether some number passes
pub some_next : (p : ℕ → Bool) (i : ℕ) → some_below p i ≡ false → p i ≡ false → some_below p (i + 1) ≡ false
some_next p i e f =
    is_false (some_below p (i + 1))
    (λ t. let w = some_found p (i + 1) t in
    elim (cases_lt w.0 i) [
      | inl l ↦ from_false (some_below p i) e (found_some p i w.0 l w.2)
      | inr g ↦ from_false (p i) f (at_equal p i w.0 (let lt : w.0 < i + 1 = w.1 in omega arith) w.2)
    ])

pub some_here : (p : ℕ → Bool) (i n : ℕ) → i < n → p i ≡ true → some_below p n ≡ true
some_here p i n lt t = is_true (some_below p n) (found_some p n i lt (from_true (p i) t))

pub least_start : (p : ℕ → Bool) → least p 0 ≡ None
unfolding least
least_start p = refl

pub some_start : (p : ℕ → Bool) → some_below p 0 ≡ false
unfolding some_below
some_start p = refl

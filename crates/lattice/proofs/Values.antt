-- The values of a set as a list, and the words of sets as those of lists. Assumes nothing.
use Rattle.std.proofs.Common.{◌≡◌, ℕ, zero, suc, ◌+◌, ◌<◌, ◌≤◌, ◌^◌, Bool, true, false, cond, not, ◌&&◌, ◌||◌, List, length, [], ◌∷◌, ◌++◌, sym, refl, ap, ◌∙◌, subst, inl, inr, arith}
use Rattle.std.specs.List.{filter, range_with_len, list_any, list_all, fold}
use Rattle.std.specs.Int.{w64, trailing_zeros}
use Rattle.std.proofs.lemmas.Bool.{cases_eq, eq-eqb}
use Rattle.std.proofs.lemmas.Nat.Bits.{bit_at-trailing_zeros}
use Rattle.std.proofs.lemmas.List.Elements.{filter-append}
use Rattle.std.proofs.lemmas.List.Folds.{list_all-append, list_any-append}
use Rattle.std.proofs.lemmas.List.Sums.{fold-append}
use Rattle.std.specs.Iterator.{YieldsFirst}
use Rattle.std.specs.Iterator.Runs.{YieldsInOrder}
use Rattle.std.proofs.iter.runs.Sources.{from_front, as_is}
use Rattle.std.specs.Iterator.{ChecksAll, ChecksAny}
use Rattle.std.proofs.lemmas.Iterator.Search.{all_from_yields_List, any_from_yields_List}
use Rattle.std.proofs.lemmas.Iterator.Consumers.{YieldsList-from_first}
use Rattle.std.specs.Fn.{Called}
use denote.Param.Members.{Mut}
use Rattle.lattice.specs.Sets.{has, with, without, values_of, every, some_below, all_of, some_of, gather, image}
use Rattle.lattice.proofs.Members.{has_empty, has_without_same, has_without_other}

-- ---- the first value and the others

filter_same : (p q : ℕ → Bool) (a n : ℕ) → ((k : ℕ) → a ≤ k → p k ≡ q k) → filter p (range_with_len a n) ≡ filter q (range_with_len a n)
filter_same p q a zero same = refl
filter_same p q a (suc n) same =
    let here = same a (omega arith) in
    let more = filter_same p q (a + 1) n (λ k h. same k (omega arith)) in
    rw (here, more) refl

filter_none : (p : ℕ → Bool) (a n : ℕ) → ((k : ℕ) → p k ≡ false) → filter p (range_with_len a n) ≡ []
filter_none p a zero none = refl
filter_none p a (suc n) none = rw (none a) (filter_none p (a + 1) n none)

first_value : (s v a n : ℕ) → a ≤ v → v < a + n → has s v ≡ true → ((k : ℕ) → k < v → has s k ≡ false)
    → filter (has s) (range_with_len a n) ≡ v ∷ filter (has (without s v)) (range_with_len a n)
first_value s v a zero from below here lower = absurd (omega arith)
first_value s v a (suc n) from below here lower =
    elim (cases_eq a v) [
      | inl same ↦
          let found : has s a ≡ true = subst (λ x. has s x ≡ true) (sym same) here in
          let gone : has (without s v) a ≡ false = subst (λ x. has (without s v) x ≡ false) (sym same) (has_without_same s v) in
          rw (found, gone) (rw same (ap (λ xs. v ∷ xs) (filter_same (has s) (has (without s v)) (v + 1) n (λ k h. sym (has_without_other s v k (λ e. omega arith))))))
      | inr other ↦
          let lost : has s a ≡ false = lower a (omega arith) in
          let gone : has (without s v) a ≡ false = has_without_other s v a (λ e. other (sym e)) ∙ lost in
          rw (lost, gone) (first_value s v (a + 1) n (omega arith) (omega arith) here lower)
    ]

pub values_of_none : values_of 0 ≡ []
unfolding values_of
values_of_none = filter_none (has 0) 0 64 has_empty

pub values_of_first : (s : ℕ) → 0 < s → s < 2 ^ 64 → values_of s ≡ trailing_zeros w64 s ∷ values_of (without s (trailing_zeros w64 s))
unfolding values_of has
values_of_first s some fits =
    let low = bit_at-trailing_zeros w64 s some fits in
    first_value s (trailing_zeros w64 s) 0 64 (omega arith) low.0 (eq-eqb _ _ low.1) (λ k h. rw (low.2 k h) refl)

-- an iterator that is seen as the list of what is left gives that list
pub values_run : YieldsInOrder (YieldsFirst {A = ℕ} (λ rest. rest)) (λ rest. rest)
values_run p s = as_is p p.from (from_front (YieldsFirst {A = ℕ} (λ rest. rest)) (λ x. x) (λ rest. rest) (λ s t h. ap length h.0) (λ s x t h. h) p s)

-- ---- the words of sets as those of lists

pub range_end : (a n j : ℕ) → a + n ≡ j → range_with_len a (suc n) ≡ range_with_len a n ++ j ∷ []
range_end a zero j e = ap (λ x. x ∷ []) (omega arith)
range_end a (suc n) j e = ap (λ xs. a ∷ xs) (range_end (a + 1) n j (omega arith))

values_end : (s n : ℕ) → filter (has s) (range_with_len 0 (suc n)) ≡ filter (has s) (range_with_len 0 n) ++ cond (has s n) (n ∷ []) []
values_end s n = ap (filter (has s)) (range_end 0 n n (omega arith)) ∙ filter-append (has s) (range_with_len 0 n) (n ∷ [])

all_below : (s : ℕ) (p : ℕ → Bool) (n : ℕ) → every (λ v. not (has s v) || p v) n ≡ list_all p (filter (has s) (range_with_len 0 n))
unfolding every
all_below s p zero = refl
all_below s p (suc n) =
    ap (λ x. x && (not (has s n) || p n)) (all_below s p n)
    ∙ ap (λ x. list_all p (filter (has s) (range_with_len 0 n)) && x) (last (has s n))
    ∙ sym (list_all-append p (filter (has s) (range_with_len 0 n)) (cond (has s n) (n ∷ []) []))
    ∙ sym (ap (list_all p) (values_end s n))
  where
    last : (b : Bool) → (not b || p n) ≡ list_all p (cond b (n ∷ []) [])
    last true = one (p n)
      where
        one : (b : Bool) → b ≡ (b && true)
        one true = refl
        one false = refl
    last false = refl

any_below : (s : ℕ) (p : ℕ → Bool) (n : ℕ) → some_below (λ v. has s v && p v) n ≡ list_any p (filter (has s) (range_with_len 0 n))
unfolding some_below
any_below s p zero = refl
any_below s p (suc n) =
    ap (λ x. x || (has s n && p n)) (any_below s p n)
    ∙ ap (λ x. list_any p (filter (has s) (range_with_len 0 n)) || x) (last (has s n))
    ∙ sym (list_any-append p (filter (has s) (range_with_len 0 n)) (cond (has s n) (n ∷ []) []))
    ∙ sym (ap (list_any p) (values_end s n))
  where
    one : (b : Bool) → b ≡ (b || false)
    one true = refl
    one false = refl

    last : (b : Bool) → (b && p n) ≡ list_any p (cond b (n ∷ []) [])
    last true = one (p n)
    last false = refl

fold_below : {A : Type 0} (f : A → ℕ → A) (start : A) (s n : ℕ) → gather f start s n ≡ fold f start (filter (has s) (range_with_len 0 n))
unfolding gather
fold_below f start s zero = refl
fold_below f start s (suc n) =
    ap (λ before. cond (has s n) (f before n) before) (fold_below f start s n)
    ∙ last (has s n) (fold f start (filter (has s) (range_with_len 0 n)))
    ∙ sym (fold-append f start (filter (has s) (range_with_len 0 n)) (cond (has s n) (n ∷ []) []))
    ∙ sym (ap (fold f start) (values_end s n))
  where
    last : (b : Bool) (a : _) → cond b (f a n) a ≡ fold f a (cond b (n ∷ []) [])
    last true a = refl
    last false a = refl

-- every value of s passes the test p; some value does
pub all_of_list : (s : ℕ) (p : ℕ → Bool) → all_of s p ≡ list_all p (values_of s)
unfolding all_of values_of
all_of_list s p = all_below s p 64

pub some_of_list : (s : ℕ) (p : ℕ → Bool) → some_of s p ≡ list_any p (values_of s)
unfolding some_of values_of
some_of_list s p = any_below s p 64

-- the values of s, taken in rising order into the result by f
pub gather_list : {A : Type 0} (f : A → ℕ → A) (start : A) (s : ℕ) → gather f start s 64 ≡ fold f start (values_of s)
unfolding values_of
gather_list f start s = fold_below f start s 64

pub image_list : (f : ℕ → ℕ) (s : ℕ) → image f s ≡ fold (λ made v. with made (f v)) 0 (values_of s)
unfolding image
image_list f s = gather_list (λ made v. with made (f v)) 0 s

-- ---- what `all` and `any` over the values of a set answer

module _ (s : ℕ) {F : Type 0} {g : Mut F (ℕ × Unit {0}) Bool} {p : ℕ → Bool} {all u : List ℕ} {f : F} {r : Bool} where
  pub all_values : all ≡ values_of s → ChecksAll (YieldsFirst {A = ℕ} (λ rest. rest)) g all f r u
      → ((x : ℕ) (b : Bool) (q : F) → Called g f (x, tt) b q → (q ≡ f) × (b ≡ p x)) → r ≡ all_of s p
  all_values e ran acts = all_from_yields_List p u f r ran (YieldsList-from_first (λ x. x) (λ rest. rest) (values_of s) e) acts ∙ sym (all_of_list s p)

  pub any_values : all ≡ values_of s → ChecksAny (YieldsFirst {A = ℕ} (λ rest. rest)) g all f r u
      → ((x : ℕ) (b : Bool) (q : F) → Called g f (x, tt) b q → (q ≡ f) × (b ≡ p x)) → r ≡ some_of s p
  any_values e ran acts = any_from_yields_List p u f r ran (YieldsList-from_first (λ x. x) (λ rest. rest) (values_of s) e) acts ∙ sym (some_of_list s p)

-- What `position`, `any` and `find` answer, in the words of the sets. Assumes nothing.
use Rattle.std.proofs.Common.{◌≡◌, ℕ, zero, suc, ◌<◌, ◌≤◌, Bool, true, false, ◌||◌, List, [], ◌∷◌, length, get_or, Option, None, Some, sym, refl, ap, ◌∙◌, arith}
use Rattle.std.specs.Prelude.{MatchOption}
use Rattle.std.specs.List.{range_with_len, list_any, fold, AllWithin, HoldsAt}
use Rattle.std.specs.declared.ops.Range.{Range}
use Rattle.std.specs.Iterator.{ChecksAny, FindsItem, FoldsItems, FindsPosition}
use Rattle.std.specs.Fn.{Called}
use denote.Param.Members.{Mut}
use denote.Ref.{Bor}
use Rattle.std.specs.Slice.Iter.{iter_rest}
use Rattle.std.proofs.iter.Yields.{fronts, nat_range_steps}
use Rattle.std.proofs.lemmas.List.Folds.{list_any-append}
use Rattle.std.proofs.lemmas.Iterator.{YieldsList-from_slice, YieldsList-from_range, IsFirst-from_position, first_from_Range}
use Rattle.std.proofs.lemmas.List.Sums.{fold_push}
use Rattle.std.proofs.lemmas.Fn.{fold_over}
use Rattle.std.proofs.lemmas.Iterator.Search.{any_from_yields_List}
use Rattle.lattice.specs.Sets.{some_below, least}
use Rattle.lattice.specs.Tests.{from_true, from_false}
use Rattle.lattice.specs.SetsLemmas.{least_is, least_is_none}
use Rattle.lattice.specs.Faults.{AsksBelow}
use Rattle.lattice.proofs.Values.{range_end}

-- the first number that passes is the least
pub first_least : (p : ℕ → Bool) (n : ℕ) (r : Option ℕ)
    → MatchOption r ((k : ℕ) → k < n → p k ≡ false) (λ i. (i < n) × (p i ≡ true) × ((k : ℕ) → k < i → p k ≡ false))
    → r ≡ least p n
first_least p n None none = sym (least_is_none p n (λ k lt t. from_false (p k) (none k lt) t))
first_least p n (Some i) w = sym (least_is p n i w.0 (from_true (p i) w.1) (λ k lt t. from_false (p k) (w.2 k lt) t))

-- `position` over the rows
pub position_least : {F : Type 0} {g : Mut F (Bor ℕ × Unit {0}) Bool} {s : _} {f : F} {r : Option ℕ} (p : ℕ → Bool) (xs : List ℕ) (u : _)
    → iter_rest s ≡ xs → FindsPosition fronts g s f r u
    → ((x : Bor ℕ) (b : Bool) (q : F) → Called g f (x, tt) b q → (q ≡ f) × (b ≡ p x.now))
    → r ≡ least (λ k. p (get_or xs k 0)) (length xs)
position_least {f = f} {r = r} p xs u e ran acts =
    first_least (λ k. p (get_or xs k 0)) (length xs) r
    (at_zero r (IsFirst-from_position u f r (λ x. p x ≡ true) (λ x. p x ≡ false) ran (YieldsList-from_slice xs e)
    (λ x q k. sym (acts x true q k).1) (λ x q k. let w = acts x false q k in (w.0, sym w.1))))
  where
    at_zero : (r : Option ℕ)
        → MatchOption r (AllWithin (λ x. p x ≡ false) xs 0 (length xs)) (λ i. (i < length xs) × HoldsAt (λ x. p x ≡ true) xs i × AllWithin (λ x. p x ≡ false) xs 0 i)
        → MatchOption r ((k : ℕ) → k < length xs → p (get_or xs k 0) ≡ false) (λ i. (i < length xs) × (p (get_or xs i 0) ≡ true) × ((k : ℕ) → k < i → p (get_or xs k 0) ≡ false))
    at_zero None h = λ k lt. h k 0 (omega arith) lt
    at_zero (Some i) h = (h.0, h.1 0, λ k lt. h.2 k 0 (omega arith) lt)

any_range : (p : ℕ → Bool) (n : ℕ) → some_below p n ≡ list_any p (range_with_len 0 n)
unfolding some_below
any_range p zero = refl
any_range p (suc n) =
    ap (λ x. x || p n) (any_range p n)
    ∙ ap (λ x. list_any p (range_with_len 0 n) || x) (one (p n))
    ∙ sym (list_any-append p (range_with_len 0 n) (n ∷ []))
    ∙ sym (ap (list_any p) (range_end 0 n n (omega arith)))
  where
    one : (b : Bool) → b ≡ (b || false)
    one true = refl
    one false = refl

-- `any` over the numbers below n
pub any_below_range : {F : Type 0} {g : Mut F (ℕ × Unit {0}) Bool} {s : Range ℕ} {f : F} {r : Bool} (p : ℕ → Bool) (n : ℕ) (u : Range ℕ)
    → s ≡ record { start = 0; end = n } → ChecksAny nat_range_steps g s f r u
    → ((x : ℕ) (b : Bool) (q : F) → Called g f (x, tt) b q → (q ≡ f) × (b ≡ p x)) → r ≡ some_below p n
any_below_range {f = f} {r = r} p n u e ran acts =
    any_from_yields_List p u f r ran (YieldsList-from_range 0 n n e (omega arith)) acts ∙ sym (any_range p n)

-- `find` over the numbers below n
pub find_below_range : {F : Type 0} {g : Mut F (Bor ℕ × Unit {0}) Bool} {s : Range ℕ} {f : F} {r : Option ℕ} (n : ℕ) (p : ℕ → Bool) (u : Range ℕ)
    → s ≡ record { start = 0; end = n } → FindsItem nat_range_steps g s f r u → AsksBelow g f n p → r ≡ least p n
find_below_range {s = s} {f = f} {r = r} n p u e ran asks =
    first_least p n r (inside r (first_from_Range s u f r (λ x. x < n → p x ≡ true) (λ x. x < n → p x ≡ false) ran
    (λ x q called lt. sym ((asks x true q called).1 lt)) (λ x q called. let w = asks x false q called in (w.0, λ lt. sym (w.1 lt)))))
  where
    inside : (r : Option ℕ)
        → MatchOption r ((k : ℕ) → s.start ≤ k → k < s.end → k < n → p k ≡ false) (λ i. (s.start ≤ i) × (i < s.end) × (i < n → p i ≡ true) × ((k : ℕ) → s.start ≤ k → k < i → k < n → p k ≡ false))
        → MatchOption r ((k : ℕ) → k < n → p k ≡ false) (λ i. (i < n) × (p i ≡ true) × ((k : ℕ) → k < i → p k ≡ false))
    inside None h = λ k lt. h k (omega (arith, ap (λ (y : Range ℕ). y.start) e)) (omega (arith, ap (λ (y : Range ℕ). y.end) e)) lt
    inside (Some i) h =
        let lt : i < n = omega (arith, h.1, ap (λ (y : Range ℕ). y.end) e) in
        (lt, h.2 lt, λ k less. h.3 k (omega (arith, ap (λ (y : Range ℕ). y.start) e)) less (omega arith))

-- `fold` over the numbers below n
pub fold_below_range : {F C : Type 0} {g : Mut F (C × (ℕ × Unit {0})) C} {s : Range ℕ} {f : F} {r : C} (h : C → ℕ → C) (start : C) (n : ℕ)
    → s ≡ record { start = 0; end = n } → FoldsItems nat_range_steps g s f start r
    → ((a : C) (x : ℕ) (b : C) (q : F) → Called g f (a, (x, tt)) b q → (q ≡ f) × (b ≡ h a x)) → r ≡ fold h start (range_with_len 0 n)
fold_below_range {g = g} {s = s} {f = f} {r = r} h start n e ran acts =
    fold_over nat_range_steps (λ x. x) g (λ xs a. a ≡ fold h start xs) f
    (λ xs a x b q so_far called. let w = acts a x b q called in (w.1 ∙ ap (λ y. h y x) so_far ∙ sym (fold_push h start xs x), w.0))
    s (range_with_len 0 n) start r (YieldsList-from_range 0 n n e (omega arith)).runs refl ran

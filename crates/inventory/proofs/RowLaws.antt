-- Rows of steps.
use Rattle.std.proofs.Common.{◌≡◌, ℕ, zero, suc, ◌-◌, ◌<◌, ◌≤◌, true, false, ◌&&◌, eqb, ltb, List, ◌++◌, length, get_or, replicate, sym, refl, ap, ◌∙◌, ⊎_elim, zero-add, arith, take}
use Rattle.std.proofs.lemmas.List.{get_or_append_left, get_or-append_right, get_or_default}
use Rattle.std.proofs.lemmas.Bool.{and_from, and_parts, and_right, cases_lt, eq-eqb, ltb-true, lt-ltb, le-ltb}
use Rattle.std.specs.List.{list_all}
use Rattle.std.proofs.lemmas.List.Sums.{AllPass-from_list_all, list_all-from_AllPass}
use Rattle.std.proofs.lemmas.List.Folds.{list_all_at}
use Rattle.std.proofs.lemmas.List.FromFn.{length-range_with_len, get_or-range_with_len, take-map-range_with_len, fill_by_all}
use Rattle.ledger.specs.Ledger.{good_row, counting}

get_or_zeros : (m i : ℕ) → get_or (replicate {A = ℕ} m 0) i 0 ≡ 0
get_or_zeros zero i = refl
get_or_zeros (suc m) zero = refl
get_or_zeros (suc m) (suc i) = get_or_zeros m i

pub length_counting : (n : ℕ) → length (counting n) ≡ n
length_counting n = length-range_with_len 0 n

pub get_or_counting : (n k : ℕ) → k < n → get_or (counting n) k 0 ≡ k
get_or_counting n k l = get_or-range_with_len 0 n k 0 l ∙ zero-add k

-- the identity is a good row
pub counting_good : (n : ℕ) → 0 < n → good_row n (counting n) ≡ true
counting_good n pos =
    and_from _ _ (and_from _ _ (eq-eqb (length (counting n)) n (length_counting n)) (eq-eqb (get_or (counting n) 0 0) 0 (get_or_counting n 0 pos)))
    (list_all-from_AllPass (λ v. ltb v n) (counting n)
    (λ k d l. let low : k < n = omega (arith, length-range_with_len 0 n) in
    lt-ltb (get_or (counting n) k d) n (omega (arith, get_or-range_with_len 0 n k d low))))

-- the identity is read off the numbers in turn
pub identity_row : (values : List ℕ) (n : ℕ) → length values ≡ 64 → ((k : ℕ) → k < 64 → get_or values k 0 ≡ k) → n ≤ 64
    → take n values ++ replicate (64 - length (take n values)) 0 ≡ counting n ++ replicate (64 - n) 0
identity_row values n long each low =
    let front : take n values ≡ counting n =
    ap (take n) (fill_by_all (λ k. k) values 64 0 long each) ∙ take-map-range_with_len (λ k. k) 0 64 n low
    ∙ sym (fill_by_all (λ k. k) (counting n) n 0 (length_counting n) (get_or_counting n)) in
    ap (λ l. l ++ replicate (64 - length l) 0) front ∙ ap (λ k. counting n ++ replicate (64 - k) 0) (length_counting n)

module _ (n : ℕ) (row : List ℕ) where
  -- an entry that is no value
  pub row_bad : length row ≡ n → (k : ℕ) → k < length row → n ≤ get_or row k 0 → good_row n row ≡ false
  row_bad long k l high =
      and_right (eqb (length row) n && eqb (get_or row 0 0) 0) (list_all (λ v. ltb v n) row)
      (list_all_at (λ v. ltb v n) row k 0 l (le-ltb (get_or row k 0) n high))

  pub row_good : length row ≡ n → get_or row 0 0 ≡ 0 → ((k : ℕ) → k < length row → get_or row k 0 < n) → good_row n row ≡ true
  row_good long zeroth each =
      and_from (eqb (length row) n && eqb (get_or row 0 0) 0) (list_all (λ v. ltb v n) row)
      (and_from (eqb (length row) n) (eqb (get_or row 0 0) 0) (eq-eqb (length row) n long) (eq-eqb (get_or row 0 0) 0 zeroth))
      (list_all-from_AllPass (λ v. ltb v n) row (λ k d l. lt-ltb (get_or row k d) n (omega (arith, each k l, get_or_default row k 0 d l))))

-- the entries of a row with zeros behind it
module _ (n : ℕ) (row : List ℕ) (long : length row ≡ n) where
  abbrev padded_row : List ℕ
  padded_row = row ++ replicate (64 - length row) 0

  pub padded_silent : (v : ℕ) → n ≤ v → get_or padded_row v 0 ≡ 0
  padded_silent v past =
      get_or-append_right row (replicate (64 - length row) 0) (length row) v 0 refl (omega arith) ∙ get_or_zeros (64 - length row) (v - length row)

  pub padded_bounded : good_row n row ≡ true → 0 < n → (v : ℕ) → get_or padded_row v 0 < n
  padded_bounded good some v =
      ⊎_elim
      (λ low. let here : get_or padded_row v 0 ≡ get_or row v 0 = get_or_append_left row (replicate (64 - length row) 0) 0 v low in
      let small : get_or row v 0 < n =
      ltb-true (get_or row v 0) n (AllPass-from_list_all (λ x. ltb x n) row
      (and_parts (eqb (length row) n && eqb (get_or row 0 0) 0) (list_all (λ x. ltb x n) row) good).1 v 0 low) in
      omega arith)
      (λ past. omega (arith, padded_silent v (omega arith)))
      (cases_lt v (length row))

-- Tables: their order, how their meets and joins are found, and when rows are a lattice. Assumes nothing.
use Rattle.std.specs.Prelude.{◌≡◌, ℕ, zero, suc, ◌+◌, ◌-◌, ◌*◌, ◌/◌, ◌%◌, ◌^◌, ◌<◌, ◌≤◌, Bool, true, false, not, ◌&&◌, T, List, [], ◌∷◌, ◌++◌, length, take, Some, None, Option, ◌==◌, bit_and, nat_eq, nat_le, nat_lt, slice_index, slice_set, refl}
use Rattle.std.proofs.Common.{inl, inr, sym, ap, ap₂, subst, ◌∙◌, arith, eqb→eq, leb→le, le→leb, ltb→lt, lt→ltb, lt_of_lt_of_le, pow_mono, get_or-take, length-take-le, take-suc, take-suc-set, add-one}
use Rattle.std.proofs.Math.Logic.{∥∥₁_elim}
use Rattle.std.proofs.Math.Nat.{div-eq_of_lt}
use Rattle.std.proofs.Math.Dec.{T_prop, not_T, T_not}
use Rattle.std.proofs.Math.Seq.{take-length}
use Rattle.std.proofs.lemmas.Nat.{shr-shr, pow-add, pow_below, pow_pos, div_below, le-div}
use Rattle.std.proofs.lemmas.List.{get_or_past}
use Rattle.std.proofs.lemmas.Bool.{cases_eq, cases_lt, eq-eqb, cond-true, cond-false}
use Rattle.lattice.specs.Sets.{has, every, some_below, least}
use Rattle.lattice.specs.Order.{Order, Lattice, meet, join, is_join, table, ladder}
use Rattle.lattice.specs.Bounds.{Ordered, Meets, Joins}
use Rattle.lattice.specs.Faults.{Clean, stray_bits, stray, irreflexive, twinned, passes, gapped, unbounded, joinless, at_row, or_else, order_fault, fault}
use Rattle.refusals.specs.declared.refusal.Refusal.{Refusal}
use Rattle.refusals.specs.declared.refusal.Reason.TheVariants.{RowCount, StrayBit}
use Rattle.lattice.specs.Tests.{T_and, and_T, decided, from_true, is_true, is_false, from_false, same_tests}
use Rattle.lattice.specs.SetsLemmas.{First, absent, present, first, some_found, found_some, least_is_none, none_some}
use Rattle.lattice.specs.Bits.{has_ext, has_high, subset_and, and_subset, shared_and, and_shared, shared_has}
use Rattle.lattice.specs.Orders.{ordered, meet_meets, meet_outside}
use Rattle.lattice.specs.Lattices.{join_joins, joins_join, join_outside, join_inside}
use Rattle.lattice.specs.FaultsLemmas.{sound_lattice, lattice_sound, or_else_none, none_or_else, none_at_row}

-- the truncated law gives the law back, since whether an order has a fault is a test
abbrev missing : Option Refusal → Bool
missing None = true
missing (Some f) = false

missing_none : (x : Option Refusal) → T (missing x) → x ≡ None
missing_none None h = refl
missing_none (Some f) h = absurd h

none_missing : (x : Option Refusal) → x ≡ None → T (missing x)
none_missing x e = subst (λ y. T (missing y)) (sym e) tt

pub lattice_back : (o : Order) → ((a b : ℕ) → T (o.below a b) → (a < o.size) × (b < o.size)) → ∥ Lattice o ∥₁ → Lattice o
lattice_back o inside t =
    sound_lattice o inside
    (leb→le 2 o.size (∥∥₁_elim t (T_prop (nat_le 2 o.size)) (λ l. le→leb 2 o.size l.at_least_two)))
    (leb→le o.size 64 (∥∥₁_elim t (T_prop (nat_le o.size 64)) (λ l. le→leb o.size 64 l.at_most_64)))
    (missing_none (order_fault o) (∥∥₁_elim t (T_prop (missing (order_fault o))) (λ l. none_missing (order_fault o) (lattice_sound o l))))

module _ (rows : List ℕ) where
  pub table_inside : (a b : ℕ) → T ((table rows).below a b) → (a < length rows) × (b < length rows)
  table_inside a b h =
      let u = T_and (nat_lt a (length rows) && nat_lt b (length rows)) (has (slice_index rows a) b) h in
      let v = T_and (nat_lt a (length rows)) (nat_lt b (length rows)) u.0 in
      (ltb→lt a (length rows) v.0, ltb→lt b (length rows) v.1)

  pub table_has : (a b : ℕ) → T ((table rows).below a b) → T (has (slice_index rows a) b)
  table_has a b h = (T_and (nat_lt a (length rows) && nat_lt b (length rows)) (has (slice_index rows a) b) h).1

  pub has_table : (a b : ℕ) → a < length rows → b < length rows → T (has (slice_index rows a) b) → T ((table rows).below a b)
  has_table a b p q h =
      and_T (nat_lt a (length rows) && nat_lt b (length rows)) (has (slice_index rows a) b)
      (and_T (nat_lt a (length rows)) (nat_lt b (length rows)) (lt→ltb a (length rows) p) (lt→ltb b (length rows) q)) h

  -- each bit of a clean row counts, and where there is no such row there is no bit
  pub clean_row : Clean rows → (i : ℕ) → slice_index rows i < 2 ^ length rows
  clean_row clean i =
      elim (cases_lt i (length rows)) [
        | inl inside ↦ clean i inside
        | inr past ↦ subst (λ x. x < 2 ^ length rows) (sym (get_or_past rows i 0 past)) (pow_pos (length rows))
      ]

  pub has_below : Clean rows → (a b : ℕ) → T (has (slice_index rows a) b) → T ((table rows).below a b)
  has_below clean a b t =
      elim (cases_lt a (length rows)) [
        | inr past ↦ absurd (has_high (slice_index rows a) b (subst (λ x. x < 2 ^ b) (sym (get_or_past rows a 0 past)) (pow_pos b)) t)
        | inl a_in ↦ elim (cases_lt b (length rows)) [
          | inl b_in ↦ has_table a b a_in b_in t
          | inr past ↦ absurd (has_high (slice_index rows a) b (lt_of_lt_of_le (clean a a_in) (pow_mono past)) t)
        ]
      ]

  pub clean_below : Clean rows → (a b : ℕ) → has (slice_index rows a) b ≡ (table rows).below a b
  clean_below clean a b = same_tests (has (slice_index rows a) b) ((table rows).below a b) (has_below clean a b) (table_has a b)

  pub table_below : (a b : ℕ) → a < length rows → b < length rows → (table rows).below a b ≡ has (slice_index rows a) b
  table_below a b p q = same_tests ((table rows).below a b) (has (slice_index rows a) b) (table_has a b) (has_table a b p q)

  pub table_back : ∥ Lattice (table rows) ∥₁ → Lattice (table rows)
  table_back = lattice_back (table rows) table_inside

  -- j is below some value that i is not below exactly where row j is no part of row i
  pub passes_and : Clean rows → (i j : ℕ) → not (bit_and (slice_index rows i) (slice_index rows j) == slice_index rows j) ≡ passes (table rows) i j
  unfolding passes
  passes_and clean i j = same_tests _ _ back there
    where
      there : T (some_below (λ k. (table rows).below j k && not ((table rows).below i k)) (length rows))
          → T (not (bit_and (slice_index rows i) (slice_index rows j) == slice_index rows j))
      there t =
          let w = some_found (λ k. (table rows).below j k && not ((table rows).below i k)) (length rows) t in
          let k = w.0 in
          let u = T_and ((table rows).below j k) (not ((table rows).below i k)) w.2 in
          not_T (bit_and (slice_index rows i) (slice_index rows j) == slice_index rows j)
          (λ e. T_not ((table rows).below i k) u.1
          (has_below clean i k
          (and_subset (slice_index rows i) (slice_index rows j) k (eqb→eq (bit_and (slice_index rows i) (slice_index rows j)) (slice_index rows j) e) (table_has j k u.0))))

      back : T (not (bit_and (slice_index rows i) (slice_index rows j) == slice_index rows j))
          → T (some_below (λ k. (table rows).below j k && not ((table rows).below i k)) (length rows))
      back t =
          elim (decided (some_below (λ k. (table rows).below j k && not ((table rows).below i k)) (length rows))) [
            | inl h ↦ h
            | inr f ↦
                absurd (T_not (bit_and (slice_index rows i) (slice_index rows j) == slice_index rows j) t
                (from_true _ (eq-eqb _ _ (subset_and (length rows) (slice_index rows i) (slice_index rows j) (clean_row clean i) (clean_row clean j)
                (λ v lt h. elim (decided ((table rows).below i v)) [
                  | inl s ↦ table_has i v s
                  | inr n ↦
                      absurd (f (found_some (λ k. (table rows).below j k && not ((table rows).below i k)) (length rows) v lt
                      (and_T ((table rows).below j v) (not ((table rows).below i v)) (has_below clean j v h) (not_T ((table rows).below i v) n))))
                ])))))
          ]

  module _ (l : Ordered (table rows)) (clean : Clean rows) (a b : ℕ) where
    -- the join of a and b is the value whose row is what their rows share
    joins_shared : (k : ℕ) → Joins (table rows) a b k → slice_index rows k ≡ bit_and (slice_index rows a) (slice_index rows b)
    joins_shared k h =
        shared_and (length rows) (slice_index rows a) (slice_index rows b) (slice_index rows k) (clean_row clean a) (clean_row clean b) (clean_row clean k)
        (λ v lt t.
        let up = has_below clean k v t in
        (table_has a v (l.transitive a k v h.above_left up), table_has b v (l.transitive b k v h.above_right up)))
        (λ v lt s t. table_has k v (h.least v (has_below clean a v s) (has_below clean b v t)))

    shared_joins : (k : ℕ) → k < length rows → slice_index rows k ≡ bit_and (slice_index rows a) (slice_index rows b) → Joins (table rows) a b k
    shared_joins k k_in e =
        let own = and_shared (slice_index rows a) (slice_index rows b) (slice_index rows k) k e (table_has k k (l.reflexive k k_in)) in
        record {
          above_left = has_below clean a k own.0;
          above_right = has_below clean b k own.1;
          least = λ x s t.
              has_below clean k x (shared_has (slice_index rows a) (slice_index rows b) (slice_index rows k) x e (table_has a x s) (table_has b x t));
        }

    pub join_search : least (λ k. nat_eq (slice_index rows k) (bit_and (slice_index rows a) (slice_index rows b))) (length rows) ≡ join (table rows) a b
    join_search = sym (go (first P (length rows)))
      where
        P : ℕ → Bool
        P k = slice_index rows k == bit_and (slice_index rows a) (slice_index rows b)

        none : (j : Option ℕ) → join (table rows) a b ≡ j → ((k : ℕ) → k < length rows → T (P k) → ⊥) → join (table rows) a b ≡ None
        none None e low = e
        none (Some j) e low =
            let h = join_joins (table rows) l a b j e in
            absurd (low j (table_inside a j h.above_left).1 (from_true (P j) (eq-eqb _ _ (joins_shared j h))))

        go : First P (length rows) → join (table rows) a b ≡ least P (length rows)
        go (absent e low) = none (join (table rows) a b) refl low ∙ sym e
        go (present k e lt h low) = joins_join (table rows) l a b k (shared_joins k lt (eqb→eq _ _ h)) ∙ sym e

-- a number that is not 0 has a bit
bit_exists : (m d : ℕ) → 0 < d → d < 2 ^ m → (v : ℕ) × (v < m) × T (has d v)
bit_exists m d h lt = go (first (has d) m)
  where
    go : First (has d) m → (v : ℕ) × (v < m) × T (has d v)
    go (present v e l t low) = (v, l, t)
    go (absent e low) =
        let zero_d : d ≡ 0 = has_ext m d 0 lt (pow_pos m) (λ v l. same_tests (has d v) (has 0 v) (λ t. absurd (low v l t)) (λ t. absurd (has_high 0 v (pow_pos v) t))) in
        let z : ⊥ = omega arith in
        absurd z

has_above : (row n v : ℕ) → has (row / 2 ^ n) v ≡ has row (n + v)
unfolding has
has_above row n v = ap (λ x. nat_eq (x % 2) 1) (shr-shr row n v)

-- a row has a stray bit exactly where it is at least 2 ^ n
pub stray_high : (n row : ℕ) → T (stray_bits n row) → 2 ^ n ≤ row
unfolding stray_bits
stray_high n row t =
    let w = some_found (λ j. nat_le n j && has row j) 64 t in
    let u = T_and (nat_le n w.0) (has row w.0) w.2 in
    let le : n ≤ w.0 = leb→le n w.0 u.0 in
    let power : 2 ^ n ≤ 2 ^ w.0 = elim (cases_eq n w.0) [
      | inl e ↦ omega (arith, ap (λ x. 2 ^ x) e)
      | inr m ↦ omega (arith, pow_below n w.0 (omega arith))
    ] in
    elim (cases_lt row (2 ^ n)) [
      | inl lt ↦ absurd (has_high row w.0 (omega arith) u.1)
      | inr ge ↦ ge
    ]

pub high_stray : (n row : ℕ) → n ≤ 64 → row < 2 ^ 64 → 2 ^ n ≤ row → T (stray_bits n row)
unfolding stray_bits
high_stray n row le fits high =
    let whole : 2 ^ 64 ≡ 2 ^ (64 - n) * 2 ^ n = ap (λ x. 2 ^ x) (let e : 64 ≡ (64 - n) + n = omega arith in e) ∙ pow-add 2 (64 - n) n in
    let some_part : 1 ≤ row / 2 ^ n = le-div 1 row (2 ^ n) (pow_pos n) (omega arith) in
    let part_fits : row / 2 ^ n < 2 ^ (64 - n) = div_below row (2 ^ n) (2 ^ (64 - n)) (pow_pos n) (subst (λ x. row < x) whole fits) in
    let w = bit_exists (64 - n) (row / 2 ^ n) some_part part_fits in
    let lt : w.0 < 64 - n = w.1 in
    found_some (λ j. nat_le n j && has row j) 64 (n + w.0) (omega arith)
    (and_T (nat_le n (n + w.0)) (has row (n + w.0)) (le→leb n (n + w.0) (omega arith)) (subst T (has_above row n w.0) w.2))

pub stray_test : (n row : ℕ) → n ≤ 64 → row < 2 ^ 64 → stray_bits n row ≡ nat_le (2 ^ n) row
stray_test n row le fits =
    same_tests (stray_bits n row) (nat_le (2 ^ n) row) (λ t. le→leb (2 ^ n) row (stray_high n row t)) (λ t. high_stray n row le fits (leb→le (2 ^ n) row t))

module _ (rows : List ℕ) where
  pub clean_none : Clean rows → least (stray rows) (length rows) ≡ None
  unfolding stray
  clean_none clean =
      least_is_none (stray rows) (length rows)
      (λ i lt t. let h = clean i lt in let z : ⊥ = omega (arith, stray_high (length rows) (slice_index rows i) t) in z)

  pub counted : 2 ≤ length rows → length rows ≤ 64
      → fault rows ≡ or_else (at_row StrayBit (least (stray rows) (length rows))) (order_fault (table rows))
  unfolding fault
  counted low high =
      cond-true (nat_le 2 (length rows) && nat_le (length rows) 64) _ _
      (is_true _ (and_T (nat_le 2 (length rows)) (nat_le (length rows) 64) (le→leb 2 (length rows) low) (le→leb (length rows) 64 high)))

  pub miscounted : (2 ≤ length rows → length rows ≤ 64 → ⊥) → fault rows ≡ Some (record { reason = RowCount; place = 0 })
  unfolding fault
  miscounted out =
      cond-false (nat_le 2 (length rows) && nat_le (length rows) 64) _ _
      (is_false _ (λ t. let w = T_and (nat_le 2 (length rows)) (nat_le (length rows) 64) t in out (leb→le 2 (length rows) w.0) (leb→le (length rows) 64 w.1)))

  pub count_from : fault rows ≡ None → (2 ≤ length rows) × (length rows ≤ 64)
  count_from e =
      elim (decided (nat_le 2 (length rows) && nat_le (length rows) 64)) [
        | inl t ↦ let w = T_and (nat_le 2 (length rows)) (nat_le (length rows) 64) t in (leb→le 2 (length rows) w.0, leb→le (length rows) 64 w.1)
        | inr f ↦
            absurd (none_some (fault rows) _ e
            (miscounted (λ p q. f (and_T (nat_le 2 (length rows)) (nat_le (length rows) 64) (le→leb 2 (length rows) p) (le→leb (length rows) 64 q)))))
      ]

  -- rows without a fault are a lattice, and rows that are one have no fault
  pub faultless_lattice : fault rows ≡ None → Lattice (table rows)
  faultless_lattice e =
      let n = count_from e in
      sound_lattice (table rows) (table_inside rows) n.0 n.1 (or_else_none _ _ (sym (counted n.0 n.1) ∙ e)).1

  pub lattice_faultless : Clean rows → Lattice (table rows) → fault rows ≡ None
  lattice_faultless clean l =
      counted l.at_least_two l.at_most_64
      ∙ none_or_else _ _ (none_at_row StrayBit _ (clean_none clean)) (lattice_sound (table rows) l)

-- the shift that looks for a stray bit
pub shift_small : (n row : ℕ) → row / 2 ^ n ≡ 0 → row < 2 ^ n
shift_small n row e =
    elim (cases_lt row (2 ^ n)) [
      | inl lt ↦ lt
      | inr ge ↦ let h : 1 ≤ row / 2 ^ n = le-div 1 row (2 ^ n) (pow_pos n) (omega arith) in let z : ⊥ = omega arith in absurd z
    ]

pub small_clean : (n row : ℕ) → row < 2 ^ n → stray_bits n row ≡ false
small_clean n row lt = is_false (stray_bits n row) (λ t. let z : ⊥ = omega (arith, stray_high n row t) in z)

pub stray_shift : (n row : ℕ) → n ≤ 64 → row < 2 ^ 64 → not (row / 2 ^ n == 0) ≡ stray_bits n row
stray_shift n row le fits =
    same_tests (not (row / 2 ^ n == 0)) (stray_bits n row)
    (λ t. elim (cases_lt row (2 ^ n)) [
      | inl lt ↦ absurd (T_not (row / 2 ^ n == 0) t (from_true _ (eq-eqb (row / 2 ^ n) 0 (div-eq_of_lt lt))))
      | inr ge ↦ high_stray n row le fits ge
    ])
    (λ t. not_T (row / 2 ^ n == 0) (λ e. let z : ⊥ = omega (arith, stray_high n row t, shift_small n row (eqb→eq _ _ e)) in z))

-- the table of the ladder of two levels
pub two_lattice : Lattice (table (3 ∷ 2 ∷ []))
unfolding order_fault irreflexive twinned passes gapped unbounded joinless join is_join some_below least every has
two_lattice = sound_lattice (table (3 ∷ 2 ∷ [])) (table_inside (3 ∷ 2 ∷ [])) (omega arith) (omega arith) refl

pub two_clean : (rest : List ℕ) (i : ℕ) → i < 2 → slice_index (3 ∷ 2 ∷ rest) i < 4
two_clean rest zero h = omega arith
two_clean rest (suc zero) h = omega arith
two_clean rest (suc (suc i)) h = let z : ⊥ = omega arith in absurd z

pub two_rows_clean : Clean (3 ∷ 2 ∷ [])
two_rows_clean zero h = omega arith
two_rows_clean (suc zero) h = omega arith
two_rows_clean (suc (suc i)) h = let z : ⊥ = omega arith in absurd z

two_below_at : (a b : ℕ) → a < 2 → b < 2 → (table (3 ∷ 2 ∷ [])).below a b ≡ (ladder 2).below a b
unfolding has
two_below_at zero zero h k = refl
two_below_at zero (suc zero) h k = refl
two_below_at zero (suc (suc b)) h k = let z : ⊥ = omega arith in absurd z
two_below_at (suc zero) zero h k = refl
two_below_at (suc zero) (suc zero) h k = refl
two_below_at (suc zero) (suc (suc b)) h k = let z : ⊥ = omega arith in absurd z
two_below_at (suc (suc a)) b h k = let z : ⊥ = omega arith in absurd z

pub two_below : (a b : ℕ) → (table (3 ∷ 2 ∷ [])).below a b ≡ (ladder 2).below a b
two_below a b =
    same_tests ((table (3 ∷ 2 ∷ [])).below a b) ((ladder 2).below a b)
    (λ t. let w = table_inside (3 ∷ 2 ∷ []) a b t in subst T (two_below_at a b w.0 w.1) t)
    (λ t.
    let w = T_and (nat_lt b 2) (nat_le a b) t in
    let low = ltb→lt b 2 w.0 in
    let le = leb→le a b w.1 in
    subst T (sym (two_below_at a b (omega arith) low)) t)

-- rows that are copied one by one
pub copy_more : (stored rows : List ℕ) (i : ℕ) → i < length stored → i < length rows → take i stored ≡ take i rows
    → take (i + 1) (slice_set stored i (slice_index rows i)) ≡ take (i + 1) rows
copy_more stored rows i p q e =
    rw add-one (take-suc-set stored i (slice_index rows i) p ∙ ap (λ xs. xs ++ (slice_index rows i ∷ [])) e ∙ sym (take-suc rows i 0 q))

-- what the copy holds: all rows
pub copy_all : (stored rows : List ℕ) (i : ℕ) → i ≤ length rows → length rows ≤ i → take i stored ≡ take i rows → take (length rows) stored ≡ rows
copy_all stored rows i p q e =
    let all : length rows ≡ i = omega arith in
    ap (λ n. take n stored) all ∙ e ∙ ap (λ n. take n rows) (sym all) ∙ take-length rows

pub copy_clean : (stored rows : List ℕ) → take (length rows) stored ≡ rows → Clean rows → (i : ℕ) → i < length rows → slice_index stored i < 2 ^ length rows
copy_clean stored rows e clean i h =
    subst (λ x. x < 2 ^ length rows) (sym (sym (get_or-take (length rows) stored i 0 h) ∙ ap (λ xs. slice_index xs i) e)) (clean i h)

-- the first n rows of a table
module _ (stored : List ℕ) (n : ℕ) (fits : n ≤ length stored) where
  pub prefix_length : length (take n stored) ≡ n
  prefix_length = length-take-le n stored fits

  pub prefix_clean : ((i : ℕ) → i < n → slice_index stored i < 2 ^ n) → Clean (take n stored)
  prefix_clean clean i h =
      let lt : i < n = omega (arith, prefix_length) in
      rw (get_or-take n stored i 0 lt, prefix_length) (clean i lt)

  pub prefix_below : (a b : ℕ) → a < n → b < n → has (slice_index stored a) b ≡ (table (take n stored)).below a b
  prefix_below a b h k =
      ap (λ x. has x b) (sym (get_or-take n stored a 0 h))
      ∙ sym (table_below (take n stored) a b (omega (arith, prefix_length)) (omega (arith, prefix_length)))

  pub prefix_no_below : (a b : ℕ) → (a < n → b < n → ⊥) → false ≡ (table (take n stored)).below a b
  prefix_no_below a b out =
      sym (is_false ((table (take n stored)).below a b)
      (λ t. let w = table_inside (take n stored) a b t in out (omega (arith, w.0, prefix_length)) (omega (arith, w.1, prefix_length))))

-- the search of a meet: `best` is a lower bound of a and b, and is their meet once the search has passed it
abbrev pub Best : Order → ℕ → ℕ → ℕ → ℕ → Type 0
Best o a b best x = (best < o.size) × T (o.below best a) × T (o.below best b) × ((m : ℕ) → Meets o a b m → m < x → best ≡ m)

module _ (o : Order) (l : Lattice o) (a b : ℕ) where
  pub best_start : a < o.size → b < o.size → Best o a b 0 0
  best_start h k = let two = l.at_least_two in (omega arith, l.bottom_below a h, l.bottom_below b k, λ m _ lt. let z : ⊥ = omega arith in absurd z)

  pub best_take : (best x : ℕ) → Best o a b best x → T (o.below x a) → T (o.below x b) → T (o.below best x) → Best o a b x (x + 1)
  best_take best x w p q r = (
    (l.inside x a p).0,
    p,
    q,
    λ m h lt. elim (cases_lt m x) [
      | inl less ↦
          let up : T (o.below m x) = subst (λ y. T (o.below y x)) (w.3 m h less) r in
          l.antisymmetric x m (h.greatest x p q) up
      | inr more ↦ omega arith
    ],
  )

  pub best_keep : (best x : ℕ) → Best o a b best x → (T (o.below x a) → T (o.below x b) → T (o.below best x) → ⊥) → Best o a b best (x + 1)
  best_keep best x w f = (
    w.0,
    w.1,
    w.2,
    λ m h lt. elim (cases_lt m x) [
      | inl less ↦ w.3 m h less
      | inr more ↦
          let same : m ≡ x = omega arith in
          absurd (f (subst (λ y. T (o.below y a)) same h.below_left) (subst (λ y. T (o.below y b)) same h.below_right)
          (subst (λ y. T (o.below best y)) same (h.greatest best w.1 w.2)))
    ],
  )

  pub best_end : (best x : ℕ) → a < o.size → b < o.size → o.size ≤ x → Best o a b best x → Some best ≡ meet o a b
  best_end best x h k le w =
      let m = l.has_meet a b h k in
      let found = meet_meets o (ordered l) a b m.0 m.1 in
      let m_in : m.0 < o.size = (l.inside m.0 a found.below_left).0 in
      sym (m.1 ∙ ap Some (sym (w.3 m.0 found (omega arith))))

module _ (stored : List ℕ) (n : ℕ) (fits : n ≤ length stored) (law : ∥ Lattice (table (take n stored)) ∥₁) where
  lawful : Lattice (table (take n stored))
  lawful = table_back (take n stored) law

  same_length : length (take n stored) ≡ n
  same_length = prefix_length stored n fits

  in_prefix : (x : ℕ) → x < n → x < length (take n stored)
  in_prefix x h = omega (arith, same_length)

  out_of_prefix : (a b : ℕ) → (a < n → b < n → ⊥) → a < length (take n stored) → b < length (take n stored) → ⊥
  out_of_prefix a b out h k = out (omega (arith, same_length)) (omega (arith, same_length))

  pub prefix_no_meet : (a b : ℕ) → (a < n → b < n → ⊥) → None ≡ meet (table (take n stored)) a b
  prefix_no_meet a b out = sym (meet_outside (table (take n stored)) (ordered lawful) a b (out_of_prefix a b out))

  pub prefix_no_join : (a b : ℕ) → (a < n → b < n → ⊥) → None ≡ join (table (take n stored)) a b
  prefix_no_join a b out = sym (join_outside (table (take n stored)) (ordered lawful) a b (out_of_prefix a b out))

  pub search_start : (a b : ℕ) → a < n → b < n → Best (table (take n stored)) a b 0 0
  search_start a b h k = best_start (table (take n stored)) lawful a b (in_prefix a h) (in_prefix b k)

  pub search_take : (a b best x : ℕ) → a < n → b < n → x < n → Best (table (take n stored)) a b best x
      → ((has (slice_index stored x) a && has (slice_index stored x) b) && has (slice_index stored best) x) ≡ true
      → Best (table (take n stored)) a b x (x + 1)
  search_take a b best x h k lt w e =
      let best_in : best < n = omega (arith, w.0, same_length) in
      let u = T_and (has (slice_index stored x) a && has (slice_index stored x) b) (has (slice_index stored best) x) (from_true _ e) in
      let v = T_and (has (slice_index stored x) a) (has (slice_index stored x) b) u.0 in
      best_take (table (take n stored)) lawful a b best x w
      (subst T (prefix_below stored n fits x a lt h) v.0)
      (subst T (prefix_below stored n fits x b lt k) v.1)
      (subst T (prefix_below stored n fits best x best_in lt) u.1)

  pub search_keep : (a b best x : ℕ) → a < n → b < n → x < n → Best (table (take n stored)) a b best x
      → ((has (slice_index stored x) a && has (slice_index stored x) b) && has (slice_index stored best) x) ≡ false
      → Best (table (take n stored)) a b best (x + 1)
  search_keep a b best x h k lt w e =
      let best_in : best < n = omega (arith, w.0, same_length) in
      best_keep (table (take n stored)) lawful a b best x w
      (λ p q r. from_false _ e
      (and_T (has (slice_index stored x) a && has (slice_index stored x) b) (has (slice_index stored best) x)
      (and_T (has (slice_index stored x) a) (has (slice_index stored x) b)
      (subst T (sym (prefix_below stored n fits x a lt h)) p) (subst T (sym (prefix_below stored n fits x b lt k)) q))
      (subst T (sym (prefix_below stored n fits best x best_in lt)) r)))

  pub search_end : (a b best x : ℕ) → a < n → b < n → n ≤ x → Best (table (take n stored)) a b best x → Some best ≡ meet (table (take n stored)) a b
  search_end a b best x h k le w =
      best_end (table (take n stored)) lawful a b best x (in_prefix a h) (in_prefix b k) (omega (arith, same_length)) w

  pub prefix_join : ((i : ℕ) → i < n → slice_index stored i < 2 ^ n) → (a b : ℕ) → a < n → b < n
      → join (table (take n stored)) a b ≡ least (λ k. nat_eq (slice_index (take n stored) k) (bit_and (slice_index stored a) (slice_index stored b))) (length (take n stored))
  prefix_join clean a b h k =
      sym (join_search (take n stored) (ordered lawful) (prefix_clean stored n fits clean) a b)
      ∙ ap₂ (λ x y. least (λ i. nat_eq (slice_index (take n stored) i) (bit_and x y)) (length (take n stored))) (get_or-take n stored a 0 h) (get_or-take n stored b 0 k)

  -- the part of the rows that is searched is the first n
  pub part_is : take (n - 0) stored ≡ take n stored
  part_is = ap (λ m. take m stored) (let e : n - 0 ≡ n = omega arith in e)

  pub part_join : ((i : ℕ) → i < n → slice_index stored i < 2 ^ n) → (a b : ℕ) → a < n → b < n → (r : Option ℕ)
      → r ≡ least (λ k. nat_eq (slice_index (take (n - 0) stored) k) (bit_and (slice_index stored a) (slice_index stored b))) (length (take (n - 0) stored))
      → r ≡ join (table (take n stored)) a b
  part_join clean a b h k r e =
      e ∙ ap (λ xs. least (λ i. nat_eq (slice_index xs i) (bit_and (slice_index stored a) (slice_index stored b))) (length xs)) part_is
      ∙ sym (prefix_join clean a b h k)

  pub part_inside : (a b : ℕ) → (i : ℕ) → Some i ≡ join (table (take n stored)) a b → i < n
  part_inside a b i e = omega (arith, join_inside (table (take n stored)) (ordered lawful) a b i (sym e), same_length)

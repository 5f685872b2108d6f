-- The rows of an order, and that the table of a lattice's rows is the lattice's order. Assumes nothing.
use Rattle.std.proofs.Common.{◌≡◌, ℕ, zero, suc, ◌+◌, ◌^◌, ◌<◌, ◌≤◌, Bool, true, false, cond, T, leb, List, [], ◌∷◌, ◌++◌, length, get_or, take, drop, None, sym, refl, ap, ◌∙◌, subst, ap₂, inl, inr, pow-suc, add-one, arith, length-append}
use mathlib.Core.Path.{fun_ext}
use lib.ListN.{get_or-append}
use lib.Seq.{get_or_at, take-append_seam}
use Rattle.std.proofs.lemmas.Bool.{cases_eq, le-leb, cond-true, cond_below}
use Rattle.std.specs.List.{fold, range_with_len}
use Rattle.std.proofs.lemmas.List.Sums.{fold_push}
use Rattle.lattice.proofs.Values.{range_end}
use Rattle.lattice.specs.Sets.{has, with, inserted}
use Rattle.lattice.specs.Order.{Order, Lattice, table}
use Rattle.lattice.specs.Faults.{Clean, fault}
use Rattle.lattice.specs.Tests.{is_false, same_tests}
use Rattle.lattice.specs.Bits.{has_high}
use Rattle.lattice.proofs.Members.{has_with_same, has_with_other}
use Rattle.lattice.specs.Tables.{table_inside, table_has, has_table, lattice_faultless}
use Rattle.choice.specs.Rows.{passing, row, rows_to, all_rows, with_rows}

-- ---- the set of the numbers that pass

pub passing_fold : (p : ℕ → Bool) (n : ℕ) → n ≤ 64 → fold (λ s j. cond (p j) (inserted s j) s) 0 (range_with_len 0 n) ≡ passing p n
unfolding passing
passing_fold p zero h = refl
passing_fold p (suc n) h =
    ap (fold (λ s j. cond (p j) (inserted s j) s) 0) (range_end 0 n n (omega arith))
    ∙ fold_push (λ s j. cond (p j) (inserted s j) s) 0 (range_with_len 0 n) n
    ∙ ap (λ s. cond (p n) (inserted s n) s) (passing_fold p n (omega arith))
    ∙ ap (λ s. cond (p n) s (passing p n)) (sym (cond_below n 64 (with (passing p n) n) (passing p n) (omega arith)))

pub passing_start : (p : ℕ → Bool) → 0 ≡ passing p 0
unfolding passing
passing_start p = refl

-- the next number passes or does not
pub passing_taken : (p : ℕ → Bool) (n s : ℕ) → s ≡ passing p n → p n ≡ true → n < 64 → inserted s n ≡ passing p (n + 1)
unfolding passing
passing_taken p n s e t h = sym (cond_below n 64 (with s n) s h) ∙ ap (λ (x : ℕ). with x n) e ∙ rw (add-one, t)

pub passing_passed : (p : ℕ → Bool) (n s : ℕ) → s ≡ passing p n → p n ≡ false → s ≡ passing p (n + 1)
unfolding passing
passing_passed p n s e f = e ∙ rw (add-one, f)

with_small : (s n : ℕ) → s < 2 ^ n → with s n < 2 ^ suc n
unfolding with
with_small s n h = go (has s n)
  where
    go : (b : Bool) → cond b s (s + 2 ^ n) < 2 ^ suc n
    go true = omega (arith, pow-suc 2 n)
    go false = omega (arith, pow-suc 2 n)

more_small : (s n : ℕ) (b : Bool) → s < 2 ^ n → cond b (with s n) s < 2 ^ suc n
more_small s n true h = with_small s n h
more_small s n false h = omega (arith, pow-suc 2 n)

pub passing_small : (p : ℕ → Bool) (n : ℕ) → passing p n < 2 ^ n
unfolding passing
passing_small p zero = omega arith
passing_small p (suc n) = more_small (passing p n) n (p n) (passing_small p n)

has_here : (s n : ℕ) (b : Bool) → s < 2 ^ n → has (cond b (with s n) s) n ≡ b
has_here s n true h = has_with_same s n
has_here s n false h = is_false (has s n) (has_high s n h)

has_there : (s n v : ℕ) (b : Bool) → (n ≡ v → ⊥) → has (cond b (with s n) s) v ≡ has s v
has_there s n v true other = has_with_other s n v other
has_there s n v false other = refl

pub has_passing : (p : ℕ → Bool) (n v : ℕ) → v < n → has (passing p n) v ≡ p v
unfolding passing
has_passing p zero v h = let z : ⊥ = omega arith in absurd z
has_passing p (suc n) v h =
    elim (cases_eq n v) [
      | inl same ↦ subst (λ (x : ℕ). has (passing p (suc n)) x ≡ p x) same (has_here (passing p n) n (p n) (passing_small p n))
      | inr other ↦ has_there (passing p n) n v (p n) other ∙ has_passing p n v (omega arith)
    ]

-- ---- the rows of an order

module _ (o : Order) where
  pub rows_start : [] ≡ rows_to o 0
  unfolding rows_to
  rows_start = refl

  pub rows_more : (n : ℕ) → rows_to o (n + 1) ≡ rows_to o n ++ (row o n ∷ [])
  unfolding rows_to
  rows_more n = rw add-one

  pub rows_length : (n : ℕ) → length (rows_to o n) ≡ n
  unfolding rows_to
  rows_length zero = refl
  rows_length (suc n) = length-append (rows_to o n) (row o n ∷ []) ∙ omega (arith, rows_length n)

  pub row_at : (n i : ℕ) → i < n → get_or (rows_to o n) i 0 ≡ row o i
  unfolding rows_to
  row_at zero i h = let z : ⊥ = omega arith in absurd z
  row_at (suc n) i h =
      elim (cases_eq n i) [
        | inl same ↦ get_or_at (rows_to o n) (row o n) [] 0 i (rows_length n ∙ same) ∙ ap (row o) same
        | inr other ↦
            get_or-append (rows_to o n) (row o n ∷ []) 0 i (omega (arith, rows_length n))
            ∙ row_at n i (omega arith)
      ]

  pub rows_clean : Clean (all_rows o)
  rows_clean i h =
      let lt : i < o.size = omega (arith, rows_length o.size) in
      rw (row_at o.size i lt, rows_length o.size) (passing_small (o.below i) o.size)

  pub rows_has : (a b : ℕ) → a < o.size → b < o.size → has (get_or (all_rows o) a 0) b ≡ o.below a b
  rows_has a b p q = ap (λ (s : ℕ). has s b) (row_at o.size a p) ∙ has_passing (o.below a) o.size b q

-- orders of one size that say the same are one
pub order_ext : (o p : Order) → o.size ≡ p.size → ((a b : ℕ) → o.below a b ≡ p.below a b) → o ≡ p
order_ext o p same h =
    ap₂ {C = Order} (λ (n : ℕ) (f : ℕ → ℕ → Bool). record { size = n; below = f }) same (fun_ext (λ a. fun_ext (h a)))

module _ (o : Order) (l : Lattice o) where
  -- the table of its rows is the lattice
  pub rows_order : table (all_rows o) ≡ o
  rows_order =
      order_ext (table (all_rows o)) o (rows_length o o.size)
      (λ a b. same_tests ((table (all_rows o)).below a b) (o.below a b)
      (λ t.
      let w = table_inside (all_rows o) a b t in
      let a_in : a < o.size = omega (arith, w.0, rows_length o o.size) in
      let b_in : b < o.size = omega (arith, w.1, rows_length o o.size) in
      subst T (rows_has o a b a_in b_in) (table_has (all_rows o) a b t))
      (λ t.
      let w = l.inside a b t in
      has_table (all_rows o) a b (omega (arith, w.0, rows_length o o.size)) (omega (arith, w.1, rows_length o o.size))
      (subst T (sym (rows_has o a b w.0 w.1)) t)))

  pub rows_lattice : Lattice (table (all_rows o))
  rows_lattice = subst Lattice (sym rows_order) l

  pub rows_faultless : fault (all_rows o) ≡ None
  rows_faultless = lattice_faultless (all_rows o) (rows_clean o) rows_lattice

-- ---- rows that are written over the first entries

module _ (o : Order) where
  pub rows_fit : (old : List ℕ) → o.size ≤ length old → with_rows o old ≡ all_rows o ++ drop o.size old
  rows_fit old h = cond-true (leb o.size (length old)) _ _ (le-leb o.size (length old) h)

  pub rows_taken : (old : List ℕ) → take o.size (all_rows o ++ drop o.size old) ≡ all_rows o
  rows_taken old = ap (λ (n : ℕ). take n (all_rows o ++ drop o.size old)) (sym (rows_length o o.size)) ∙ take-append_seam (all_rows o) (drop o.size old)

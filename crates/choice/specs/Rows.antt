-- An order written as rows of bits, and a table in memory. Assumes nothing.
--   passing      the set of the numbers below a bound that pass a test
--   row          row i of an order: the set of the values that i is at or below
--   rows_to      the rows of the values below a bound
--   all_rows     the rows of every value
--   with_rows    entries of which the first are overwritten by the rows; the entries as they were where the rows do not fit
--   table_order  the order of a table in memory
-- The law above them, that the table of all rows of a lattice is its order again, stands on the contracts of `write_rows` and `tabulated`.
use Rattle.std.specs.Prelude.{ℕ, zero, suc, Bool, cond, List, [], ◌∷◌, ◌++◌, length, drop, nat_le}
use Rattle.lattice.specs.Sets.{with}
use Rattle.lattice.specs.Order.{Order, table}
use Rattle.lattice.specs.declared.table.Table.{Table}

unfoldable pub passing : (ℕ → Bool) → ℕ → ℕ
passing p zero = 0
passing p (suc n) = cond (p n) (with (passing p n) n) (passing p n)

abbrev pub row : Order → ℕ → ℕ
row o i = passing (o.below i) o.size

unfoldable pub rows_to : Order → ℕ → List ℕ
rows_to o zero = []
rows_to o (suc n) = rows_to o n ++ (row o n ∷ [])

abbrev pub all_rows : Order → List ℕ
all_rows o = rows_to o o.size

abbrev pub with_rows : Order → List ℕ → List ℕ
with_rows o old = cond (nat_le o.size (length old)) (all_rows o ++ drop o.size old) old

abbrev pub table_order : Table → Order
table_order t = table t.rows.items

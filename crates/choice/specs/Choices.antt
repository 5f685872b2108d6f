-- What a lattice that is chosen at run time means. Assumes nothing.
--   choice_order  the order of a choice, by what was chosen
use Rattle.lattice.specs.Order.{Order, ladder, pair}
use Rattle.choice.specs.declared.Choice.{Choice}
use Rattle.choice.specs.declared.Choice.TheVariants.{Ladder, Table, Pair}
use Rattle.choice.specs.Rows.{table_order}

abbrev pub choice_order : Choice → Order
choice_order (Ladder l) = ladder l.levels
choice_order (Table t) = table_order t
choice_order (Pair p) = pair (table_order p.first) (table_order p.second)

use Rattle.std.proofs.Common.{◌≡◌}
use Rattle.choice.specs.Rows.{rows_to}
use Rattle.choice.proofs.tabulate.rows_of.Given as goal

abbrev pub invariant-loop-i : goal.invariant-loop-i
invariant-loop-i g l = l.rows.items ≡ rows_to (g.L.Lattice.order l.lattice) l.i

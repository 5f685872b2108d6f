use Rattle.std.proofs.Common.{◌≡◌, rules, arith, ap, ◌∙◌}
use Rattle.lattice.specs.Order.{Order, table}
use Rattle.lattice.specs.Faults.{fault}
use Rattle.choice.proofs.Written.{rows_faultless, rows_order}
use Rattle.choice.proofs.tabulate.tabulated.Goals as goal

pub unwrap-requires : goal.unwrap-requires
unwrap-requires g c =
    let o : Order = g.L.Lattice.order c.args.lattice.now in
    let none = ap fault (c.as_slice.ensures.value ∙ c.rows_of.ensures) ∙ rows_faultless o (g.met.L.Lattice.lawful c.args.lattice.now) in
    grind arith

pub returns : goal.returns
returns g c =
    let o : Order = g.L.Lattice.order c.args.lattice.now in
    let kept : c.unwrap.result.rows.items ≡ c.as_slice.result.now = search rules in
    ap table (kept ∙ c.as_slice.ensures.value ∙ c.rows_of.ensures) ∙ rows_order o (g.met.L.Lattice.lawful c.args.lattice.now)

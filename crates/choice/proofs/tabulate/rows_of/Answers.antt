use Rattle.std.proofs.Common.{ℕ, List, ap, ap₂, length, arith, sym, ◌∙◌, ◌++◌, ◌∷◌, []}
use Rattle.lattice.specs.Order.{Order, Lattice}
use Rattle.choice.proofs.Written.{rows_start, rows_more, rows_length}
use Rattle.choice.proofs.tabulate.rows_of.Goals as goal

pub loop-i-init : goal.loop-i-init
loop-i-init g c = c.new-rows.ensures ∙ rows_start (g.L.Lattice.order c.args.lattice.now)

pub push-requires : goal.push-requires
push-requires g c =
    let o : Order = g.L.Lattice.order c.args.lattice.now in
    let laws : Lattice o = g.met.L.Lattice.lawful c.args.lattice.now in
    omega (arith, ap length c.loop-i.invariant, rows_length o c.loop-i.i, laws.at_most_64)

pub loop-i-preserved : goal.loop-i-preserved
loop-i-preserved g c =
    c.push.ensures.items
    ∙ ap₂ (λ (xs : List ℕ) (x : ℕ). xs ++ x ∷ []) c.loop-i.invariant c.row_of.ensures
    ∙ sym (rows_more (g.L.Lattice.order c.args.lattice.now) c.loop-i.i)

use Rattle.std.proofs.Common.{rules, cond, ◌∙◌}
use borrow.Author.Tests.{tests}
use Rattle.lattice.specs.Sets.{inserted}
use Rattle.lattice.specs.Order.{Order, Lattice}
use Rattle.lattice.proofs.Searches.{fold_below_range}
use Rattle.choice.proofs.Written.{passing_fold}
use Rattle.choice.proofs.tabulate.row_of.Goals as goal

pub returns : goal.returns
returns g c =
    let o : Order = g.L.Lattice.order c.args.lattice.now in
    let laws : Lattice o = g.met.L.Lattice.lawful c.args.lattice.now in
    fold_below_range (λ row j. cond (o.below c.args.i j) (inserted row j) row) 0 o.size (cc) c.fold.ensures.ran (λ row j b q k. search (rules, tests))
    ∙ passing_fold (o.below c.args.i) o.size laws.at_most_64

use Rattle.std.proofs.Common.{rules, length, not, ◌&&◌, eqb, bit_and, get_or, ◌∙◌}
use borrow.Author.Tests.{tests}
use Rattle.lattice.specs.Sets.{some_below}
use Rattle.lattice.specs.Order.{table}
use Rattle.lattice.specs.Faults.{gapped}
use Rattle.lattice.specs.Tables.{passes_and}
use Rattle.lattice.proofs.Searches.{any_below_range}
use Rattle.lattice.proofs.rows.Rows.is_gapped.Goals as goal

pub returns : goal.returns
unfolding gapped
returns c =
    let own = c.args.self.now in
    let rows = own.rows.now in
    any_below_range (λ j. (table rows).below c.args.i j && not (eqb (bit_and (get_or rows c.args.i 0) (get_or rows j 0)) (get_or rows j 0)))
    (length rows) _ (cc) c.any.ensures.ran (λ x b q k. search (rules, tests))
    ∙ (λ t. some_below (λ j. (table rows).below c.args.i j && passes_and rows own.clean c.args.i j t) (length rows))

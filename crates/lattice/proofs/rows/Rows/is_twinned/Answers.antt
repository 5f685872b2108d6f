use Rattle.std.proofs.Common.{rules, length}
use borrow.Author.Tests.{tests}
use Rattle.lattice.specs.Faults.{twinned}
use Rattle.lattice.proofs.Searches.{any_below_range}
use Rattle.lattice.proofs.rows.Rows.is_twinned.Goals as goal

pub returns : goal.returns
unfolding twinned
returns c = any_below_range _ (length c.args.self.now.rows.now) _ (cc) c.any.ensures.ran (λ x b q k. search (rules, tests))

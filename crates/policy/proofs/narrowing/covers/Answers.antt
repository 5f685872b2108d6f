use Rattle.std.proofs.Common.{rules}
use borrow.Author.Tests.{tests}
use Rattle.lattice.proofs.Values.{all_values}
use Rattle.policy.specs.Clauses.{covered_in}
use Rattle.policy.proofs.narrowing.covers.Goals as goal

pub returns : goal.returns
unfolding covered_in
returns g c = all_values c.args.label c.values.ensures.left c.all.ensures.ran (λ x b q k. search (rules, tests))

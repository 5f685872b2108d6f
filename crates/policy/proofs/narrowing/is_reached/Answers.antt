use Rattle.std.proofs.Common.{rules}
use borrow.Author.Tests.{tests}
use Rattle.lattice.proofs.Values.{any_values}
use Rattle.policy.proofs.narrowing.is_reached.Goals as goal

pub returns : goal.returns
returns g c = any_values c.args.list c.values.ensures.left c.any.ensures.ran (λ x b q k. search (rules, tests))

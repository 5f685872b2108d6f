use Rattle.std.proofs.Common.{get_or, rules}
use Rattle.commands.specs.Meanings.{byte_most}
use Rattle.commands.proofs.Rows.{made_is}
use Rattle.commands.proofs.command.row.Goals as goal

pub returns : goal.returns
returns c = made_is _ (λ i. byte_most (get_or c.args.values.now i 0)) _ (λ i x q k. search rules) c.from_fn.result 64 c.from_fn.ensures.items

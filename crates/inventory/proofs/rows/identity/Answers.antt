use Rattle.std.proofs.Common.{◌∙◌, rules}
use Rattle.inventory.proofs.RowLaws.{identity_row}
use Rattle.inventory.proofs.rows.identity.Goals as goal

pub returns : goal.returns
returns c =
    let items = c.from_fn-values.ensures.items in
    c.padded.ensures ∙ identity_row c.from_fn-values.result c.args.size items.long (λ k l. let h = items.at k 0 l in search rules) c.requires

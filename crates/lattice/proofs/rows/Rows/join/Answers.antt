use Rattle.std.proofs.Common.{◌≡◌, rules, length, eqb, bit_and, get_or, ◌∙◌}
use borrow.Author.Tests.{tests}
use Rattle.lattice.specs.Sets.{least}
use Rattle.lattice.specs.Tables.{join_search}
use Rattle.lattice.proofs.Searches.{position_least}
use Rattle.lattice.proofs.rows.Rows.join.Goals as goal

pub returns : goal.returns
returns c = λ ordered.
    let own = c.args.self.now in
    let rows = own.rows.now in
    let found : c.position.result ≡ least (λ k. eqb (get_or rows k 0) (bit_and (get_or rows c.args.a 0) (get_or rows c.args.b 0))) (length rows) =
    position_least (λ row. eqb row (bit_and (get_or rows c.args.a 0) (get_or rows c.args.b 0))) rows _ (cc) c.position.ensures.ran (λ x b q k. search (rules, tests)) in
    let kept : c.map.result ≡ c.position.result = search rules in
    kept ∙ found ∙ join_search rows ordered own.clean c.args.a c.args.b

use Rattle.std.proofs.Common.{sym, ◌∙◌}
use Rattle.lattice.proofs.Searches.{find_below_range}
use Rattle.lattice.proofs.rows.Rows.refuse_first.Goals as goal

pub returns-in-Some : goal.returns-in-Some
returns-in-Some g c = λ test asks.
    let found = find_below_range _ test _ (cc) c.find.ensures.ran asks in
    rw (sym found ∙ c.in-Some.is) (cc)

pub returns-in-None : goal.returns-in-None
returns-in-None g c = λ test asks.
    let found = find_below_range _ test _ (cc) c.find.ensures.ran asks in
    rw (sym found ∙ c.in-None.is) (cc)

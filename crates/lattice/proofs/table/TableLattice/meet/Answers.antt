use Rattle.std.proofs.Common.{rules, ℕ, List, Some, length, sym, ap, ◌∙◌, arith}
use borrow.Author.Tests.{tests}
use Rattle.std.specs.List.{fold, range_with_len}
use Rattle.lattice.specs.Order.{table}
use Rattle.lattice.specs.Orders.{ordered, meet_outside}
use Rattle.lattice.specs.Tables.{table_back}
use Rattle.lattice.proofs.Searches.{fold_below_range}
use Rattle.lattice.proofs.Meets.{nearer, meet_search}
use Rattle.lattice.proofs.table.TableLattice.meet.Goals as goal
use Rattle.lattice.proofs.table.TableLattice.meet.Goals.{then-a-size-via-then-a-size, then-a-size-via-else-a-size+then-b-size}

pub returns-then-a-size : goal.returns-then-a-size
returns-then-a-size c =
    let own = c.args.self.now in
    let count = ap length c.rows-rows.ensures in
    sym (meet_outside (table own.rows.items) (ordered (table_back own.rows.items own.lawful)) c.args.a c.args.b
    (λ h k. elim c.then-a-size.branch [ then-a-size-via-then-a-size w ↦ omega arith | then-a-size-via-else-a-size+then-b-size w ↦ omega arith ]))

pub returns : goal.returns
returns c =
    let own = c.args.self.now in
    let rows = c.rows-rows.result.rows.now in
    let count = ap length c.rows-rows.ensures in
    let found = fold_below_range (nearer (table rows) c.args.a c.args.b) 0 (length rows) (cc) c.fold.ensures.ran (λ best x b q k. search (rules, tests)) in
    ap Some (found ∙ ap (λ (xs : List ℕ). fold (nearer (table xs) c.args.a c.args.b) 0 (range_with_len 0 (length xs))) c.rows-rows.ensures)
    ∙ meet_search (table own.rows.items) (table_back own.rows.items own.lawful) c.args.a c.args.b (omega arith) (omega arith)

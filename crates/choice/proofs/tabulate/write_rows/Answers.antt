use Rattle.std.proofs.Common.{ℕ, ◌≤◌, List, length, take, drop, ◌++◌, sym, ap, ap₂, ◌∙◌, arith}
use Rattle.std.proofs.lemmas.Bool.{le-leb}
use Rattle.std.proofs.lemmas.List.{length-take-le}
use Rattle.lattice.specs.Order.{Order, table}
use Rattle.choice.proofs.Written.{rows_fit, rows_taken, rows_length, rows_order}
use Rattle.choice.proofs.tabulate.write_rows.Goals as goal

pub slice_bounds-copy_from_slice-end : goal.slice_bounds-copy_from_slice-end
slice_bounds-copy_from_slice-end g c =
    let o : Order = g.L.Lattice.order c.args.lattice.now in
    omega (arith, ap length c.rows_of-own.ensures, rows_length o o.size)

pub slice_bounds-copy_from_slice-end-2 : goal.slice_bounds-copy_from_slice-end-2
slice_bounds-copy_from_slice-end-2 g c =
    let o : Order = g.L.Lattice.order c.args.lattice.now in
    let room : c.len.result ≤ length c.args.rows.now = omega (arith, ap length c.rows_of-own.ensures, rows_length o o.size) in
    sym (length-take-le c.len.result c.args.rows.now room)

pub copy_from_slice-requires : goal.copy_from_slice-requires
copy_from_slice-requires g c =
    let o : Order = g.L.Lattice.order c.args.lattice.now in
    let room : c.len.result ≤ length c.args.rows.now = omega (arith, ap length c.rows_of-own.ensures, rows_length o o.size) in
    omega (arith, length-take-le c.len.result c.args.rows.now room, ap length c.as_slice.ensures.value)

pub returns-clause-value : goal.returns-clause-value
returns-clause-value g c =
    let o : Order = g.L.Lattice.order c.args.lattice.now in
    sym (le-leb _ _ (omega (arith, ap length c.rows_of-own.ensures, rows_length o o.size)))

pub returns-clause-written : goal.returns-clause-written
returns-clause-written g c =
    let o : Order = g.L.Lattice.order c.args.lattice.now in
    let copied = c.copy_from_slice.ensures.after ∙ c.as_slice.ensures.value ∙ c.rows_of-own.ensures in
    let count = c.len.ensures.value ∙ ap length c.rows_of-own.ensures ∙ rows_length o o.size in
    ap₂ (λ (xs : List ℕ) (n : ℕ). xs ++ drop n c.args.rows.now) copied count
    ∙ sym (rows_fit o c.args.rows.now (omega (arith, ap length c.rows_of-own.ensures, rows_length o o.size)))

pub returns-clause-same : goal.returns-clause-same
returns-clause-same g c =
    let o : Order = g.L.Lattice.order c.args.lattice.now in
    let copied = c.copy_from_slice.ensures.after ∙ c.as_slice.ensures.value ∙ c.rows_of-own.ensures in
    let count = c.len.ensures.value ∙ ap length c.rows_of-own.ensures ∙ rows_length o o.size in
    ap (λ (xs : List ℕ). table (take o.size xs)) (ap₂ (λ (xs : List ℕ) (n : ℕ). xs ++ drop n c.args.rows.now) copied count)
    ∙ ap table (rows_taken o c.args.rows.now)
    ∙ rows_order o (g.met.L.Lattice.lawful c.args.lattice.now)

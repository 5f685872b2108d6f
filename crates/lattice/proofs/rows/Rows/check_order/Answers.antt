use Rattle.std.proofs.Common.{◌≡◌, rules, Err, sym, ◌∙◌}
use borrow.Author.Tests.{tests}
use Rattle.lattice.specs.Order.{table}
use Rattle.lattice.specs.Faults.{irreflexive, twinned, gapped, unbounded, joinless, order_fault}
use Rattle.refusals.specs.declared.refusal.Reason.TheVariants.{NotReflexive, NotAntisymmetric, NotTransitive, NotBounded}
use Rattle.lattice.specs.FaultsLemmas.{found_none, pass_on, refuse_here, ordered_from}
use Rattle.lattice.specs.Tables.{table_inside}
use Rattle.lattice.proofs.rows.Rows.check_order.Goals as goal

pub returns-in_err-refuse_first : goal.returns-in_err-refuse_first
unfolding order_fault irreflexive
returns-in_err-refuse_first c =
    let rows = c.args.self.now.rows.now in
    let refused : c.from_residual.result ≡ Err c.in_err-refuse_first.field-0.0 = search rules in
    refused ∙ refuse_here NotReflexive _ _ _ (sym c.in_err-refuse_first.was ∙ c.refuse_first.ensures (irreflexive (table rows)) (λ i r f k. search (rules, tests)))

pub returns-in_err-refuse_first-2 : goal.returns-in_err-refuse_first-2
unfolding order_fault irreflexive
returns-in_err-refuse_first-2 c =
    let rows = c.args.self.now.rows.now in
    let irreflexive_none = sym c.in_ok-refuse_first.was ∙ c.refuse_first.ensures (irreflexive (table rows)) (λ i r f k. search (rules, tests)) in
    let refused : c.from_residual-in_err-refuse_first-2.result ≡ Err c.in_err-refuse_first-2.field-0.0 = search rules in
    refused ∙ refuse_here NotAntisymmetric _ _ _ (sym c.in_err-refuse_first-2.was ∙ c.refuse_first-2.ensures (twinned (table rows)) (λ i r f k. search (rules, tests)))
    ∙ pass_on NotReflexive _ _ irreflexive_none

pub returns-in_err-refuse_first-3 : goal.returns-in_err-refuse_first-3
unfolding order_fault irreflexive
returns-in_err-refuse_first-3 c =
    let rows = c.args.self.now.rows.now in
    let irreflexive_none = sym c.in_ok-refuse_first.was ∙ c.refuse_first.ensures (irreflexive (table rows)) (λ i r f k. search (rules, tests)) in
    let twinned_none = sym c.in_ok-refuse_first-2.was ∙ c.refuse_first-2.ensures (twinned (table rows)) (λ i r f k. search (rules, tests)) in
    let refused : c.from_residual-in_err-refuse_first-3.result ≡ Err c.in_err-refuse_first-3.field-0.0 = search rules in
    refused ∙ refuse_here NotTransitive _ _ _ (sym c.in_err-refuse_first-3.was ∙ c.refuse_first-3.ensures (gapped (table rows)) (λ i r f k. search (rules, tests)))
    ∙ pass_on NotAntisymmetric _ _ twinned_none
    ∙ pass_on NotReflexive _ _ irreflexive_none

pub returns-in_err-refuse_first-4 : goal.returns-in_err-refuse_first-4
unfolding order_fault irreflexive
returns-in_err-refuse_first-4 c =
    let rows = c.args.self.now.rows.now in
    let irreflexive_none = sym c.in_ok-refuse_first.was ∙ c.refuse_first.ensures (irreflexive (table rows)) (λ i r f k. search (rules, tests)) in
    let twinned_none = sym c.in_ok-refuse_first-2.was ∙ c.refuse_first-2.ensures (twinned (table rows)) (λ i r f k. search (rules, tests)) in
    let gapped_none = sym c.in_ok-refuse_first-3.was ∙ c.refuse_first-3.ensures (gapped (table rows)) (λ i r f k. search (rules, tests)) in
    let refused : c.from_residual-in_err-refuse_first-4.result ≡ Err c.in_err-refuse_first-4.field-0.0 = search rules in
    refused ∙ refuse_here NotBounded _ _ _ (sym c.in_err-refuse_first-4.was ∙ c.refuse_first-4.ensures (unbounded (table rows)) (λ i r f k. search (rules, tests)))
    ∙ pass_on NotTransitive _ _ gapped_none
    ∙ pass_on NotAntisymmetric _ _ twinned_none
    ∙ pass_on NotReflexive _ _ irreflexive_none

pub returns : goal.returns
unfolding order_fault irreflexive
returns c =
    let rows = c.args.self.now.rows.now in
    let irreflexive_none = sym c.in_ok-refuse_first.was ∙ c.refuse_first.ensures (irreflexive (table rows)) (λ i r f k. search (rules, tests)) in
    let twinned_none = sym c.in_ok-refuse_first-2.was ∙ c.refuse_first-2.ensures (twinned (table rows)) (λ i r f k. search (rules, tests)) in
    let gapped_none = sym c.in_ok-refuse_first-3.was ∙ c.refuse_first-3.ensures (gapped (table rows)) (λ i r f k. search (rules, tests)) in
    let unbounded_none = sym c.in_ok-refuse_first-4.was ∙ c.refuse_first-4.ensures (unbounded (table rows)) (λ i r f k. search (rules, tests)) in
    let ordered = ordered_from (table rows) (table_inside rows) (found_none _ _ irreflexive_none) (found_none _ _ twinned_none) (found_none _ _ gapped_none) in
    c.refuse_first-5.ensures (joinless (table rows)) (λ i r f k. search (rules, tests))
    ∙ pass_on NotBounded _ _ unbounded_none
    ∙ pass_on NotTransitive _ _ gapped_none
    ∙ pass_on NotAntisymmetric _ _ twinned_none
    ∙ pass_on NotReflexive _ _ irreflexive_none

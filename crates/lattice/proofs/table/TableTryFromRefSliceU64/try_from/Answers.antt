use mathlib.Core.Bool.{false≢true}
use Rattle.std.proofs.Common.{◌≡◌, rules, ℕ, List, Err, sym, refl, ap, ◌∙◌, subst, arith}
use Rattle.std.specs.Prelude.{is_ok}
use Rattle.lattice.specs.Order.{Lattice, table}
use Rattle.lattice.specs.Faults.{Clean, answer}
use Rattle.lattice.specs.FaultsLemmas.{answer_none}
use Rattle.lattice.specs.Tables.{count_from, faultless_lattice, lattice_faultless}
use Rattle.lattice.proofs.table.TableTryFromRefSliceU64.try_from.Goals as goal

pub unwrap-requires : goal.unwrap-requires
unwrap-requires c =
    let count = count_from c.args.rows.now (answer_none _ c.in_ok-check.ensures.value) in
    grind arith

pub invariant_of-result : goal.invariant_of-result
invariant_of-result c =
    let none = answer_none _ c.in_ok-check.ensures.value in
    let copied : c.args.rows.now ≡ c.unwrap.result.items = search rules in
    record {
      clean = subst Clean copied (c.in_ok-check.ensures.clean);
      lawful = ∣ subst (λ (xs : List ℕ). Lattice (table xs)) copied (faultless_lattice c.args.rows.now none) ∣₁;
    }

pub returns-in_err-check-clause-accepted : goal.returns-in_err-check-clause-accepted
returns-in_err-check-clause-accepted c =
    let refused : c.from_residual.result ≡ Err c.in_err-check.field-0.0 = search rules in (
      λ ok. absurd (false≢true (ap is_ok (sym refused) ∙ ok)),
      λ w. let accepted = c.in_err-check.ensures.value ∙ ap answer (lattice_faultless c.args.rows.now w.0 w.1) in cc,
    )

pub returns-clause-accepted : goal.returns-clause-accepted
returns-clause-accepted c =
    (λ _. (c.in_ok-check.ensures.clean, faultless_lattice c.args.rows.now (answer_none _ c.in_ok-check.ensures.value)), λ _. refl)

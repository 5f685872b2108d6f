use Rattle.std.proofs.Common.{refl}
use Rattle.ledger.specs.Ledger.{step}
use Rattle.inventory.specs.Answers.{number_answer}
use Rattle.inventory.proofs.Edits.{stepped_kept}
use Rattle.inventory.proofs.Outcomes.{exit}
use Rattle.inventory.proofs.inventory.Inventory.step.Goals as goal

pub returns-in_err-check_step-clause-called : goal.returns-in_err-check_step-clause-called
returns-in_err-check_step-clause-called c =
    exit c.args.self.now (step c.args.row.now) number_answer (λ e. refl) _ _ c.in_err-check_step.ensures c.from_residual.ensures.1

pub invariant_of-self : goal.invariant_of-self
invariant_of-self c = (stepped_kept c.args.self.now c.args.row.now c.padded.result _ _ c.in_ok-check_step.ensures c.len-number.ensures.value c.padded.ensures c.push.ensures.items).0

pub returns-clause-called : goal.returns-clause-called
returns-clause-called c = (stepped_kept c.args.self.now c.args.row.now c.padded.result _ _ c.in_ok-check_step.ensures c.len-number.ensures.value c.padded.ensures c.push.ensures.items).1

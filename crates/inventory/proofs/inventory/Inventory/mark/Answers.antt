use Rattle.std.proofs.Common.{refl}
use Rattle.ledger.specs.Ledger.{mark}
use Rattle.inventory.specs.Answers.{plain_answer}
use Rattle.inventory.proofs.Edits.{marked_kept}
use Rattle.inventory.proofs.Outcomes.{exit}
use Rattle.inventory.proofs.inventory.Inventory.mark.Goals as goal

pub returns-in_err-check_value-clause-called : goal.returns-in_err-check_value-clause-called
returns-in_err-check_value-clause-called c =
    exit c.args.self.now (mark c.args.node c.args.value) plain_answer (λ e. refl) _ _ c.in_err-check_value.ensures c.from_residual.ensures.1

pub invariant_of-self : goal.invariant_of-self
invariant_of-self c = (marked_kept c.args.self.now c.args.node c.args.value c.insert.result c.in_ok-check_value.ensures c.insert.ensures).0

pub returns-clause-called : goal.returns-clause-called
returns-clause-called c = (marked_kept c.args.self.now c.args.node c.args.value c.insert.result c.in_ok-check_value.ensures c.insert.ensures).1

use Rattle.std.proofs.Common.{refl}
use Rattle.ledger.specs.Ledger.{enter}
use Rattle.inventory.specs.Answers.{number_answer}
use Rattle.inventory.proofs.Edits.{entered_kept}
use Rattle.inventory.proofs.Outcomes.{exit}
use Rattle.inventory.proofs.inventory.Inventory.enter.Goals as goal

pub returns-in_err-check_enter-clause-called : goal.returns-in_err-check_enter-clause-called
returns-in_err-check_enter-clause-called c =
    exit c.args.self.now (enter c.args.store c.args.purpose c.args.role) number_answer (λ e. refl) _ _ c.in_err-check_enter.ensures c.from_residual.ensures.1

pub invariant_of-self : goal.invariant_of-self
invariant_of-self c = let blank = c.default.ensures in (entered_kept c.args.self.now c.args.store c.args.purpose c.args.role c.default.result c.in_ok-check_enter.ensures blank.1.1.1.0 blank.1.1.1.1.0 blank.1.1.1.1.1).0

pub returns-clause-called : goal.returns-clause-called
returns-clause-called c = let blank = c.default.ensures in (entered_kept c.args.self.now c.args.store c.args.purpose c.args.role c.default.result c.in_ok-check_enter.ensures blank.1.1.1.0 blank.1.1.1.1.0 blank.1.1.1.1.1).1

use Rattle.std.proofs.Common.{refl}
use Rattle.ledger.specs.Ledger.{strike}
use Rattle.inventory.specs.Answers.{plain_answer}
use Rattle.inventory.proofs.Edits.{struck_kept}
use Rattle.inventory.proofs.Outcomes.{exit}
use Rattle.inventory.proofs.inventory.Inventory.strike.Goals as goal

pub returns-in_err-place-clause-called : goal.returns-in_err-place-clause-called
returns-in_err-place-clause-called c =
    exit c.args.self.now (strike c.args.from c.args.to c.args.step) plain_answer (λ e. refl) _ _ c.in_err-place.ensures.declined c.from_residual.ensures.1

pub invariant_of-self : goal.invariant_of-self
invariant_of-self c = (struck_kept c.args.self.now c.args.from c.args.to c.args.step c.in_ok-place.place c.in_ok-place.ensures.declined c.in_ok-place.ensures.number.0).0

pub returns-clause-called : goal.returns-clause-called
returns-clause-called c = (struck_kept c.args.self.now c.args.from c.args.to c.args.step c.in_ok-place.place c.in_ok-place.ensures.declined c.in_ok-place.ensures.number.0).1

use Rattle.std.proofs.Common.{refl}
use Rattle.ledger.specs.Ledger.{draw}
use Rattle.inventory.specs.Answers.{plain_answer}
use Rattle.inventory.proofs.Edits.{drawn_kept}
use Rattle.inventory.proofs.Outcomes.{exit}
use Rattle.inventory.proofs.inventory.Inventory.draw.Goals as goal

pub returns-in_err-flow-clause-called : goal.returns-in_err-flow-clause-called
returns-in_err-flow-clause-called c =
    exit c.args.self.now (draw c.args.from c.args.to c.args.step) plain_answer (λ e. refl) _ _ c.in_err-flow.ensures.declined c.from_residual.ensures.1

pub invariant_of-self : goal.invariant_of-self
invariant_of-self c = (drawn_kept c.args.self.now c.args.from c.args.to c.args.step c.in_ok-flow.flow c.in_ok-flow.ensures.declined c.in_ok-flow.ensures.drawn).0

pub returns-clause-called : goal.returns-clause-called
returns-clause-called c = (drawn_kept c.args.self.now c.args.from c.args.to c.args.step c.in_ok-flow.flow c.in_ok-flow.ensures.declined c.in_ok-flow.ensures.drawn).1

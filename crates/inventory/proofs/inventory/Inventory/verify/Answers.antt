use Rattle.std.proofs.Common.{refl}
use Rattle.ledger.specs.Ledger.{verify}
use Rattle.inventory.specs.Answers.{plain_answer}
use Rattle.inventory.proofs.Edits.{verified_kept}
use Rattle.inventory.proofs.Outcomes.{exit}
use Rattle.inventory.proofs.inventory.Inventory.verify.Goals as goal

pub returns-in_err-check_node-clause-called : goal.returns-in_err-check_node-clause-called
returns-in_err-check_node-clause-called c =
    exit c.args.self.now (verify c.args.node c.args.verified) plain_answer (λ e. refl) _ _ c.in_err-check_node.ensures c.from_residual.ensures.1

pub returns-clause-called : goal.returns-clause-called
returns-clause-called c = (verified_kept c.args.self.now c.args.node c.args.verified c.in_ok-check_node.ensures).1

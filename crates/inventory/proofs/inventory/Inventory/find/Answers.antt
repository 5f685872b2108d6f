use Rattle.std.proofs.Common.{◌∙◌}
use Rattle.ledger.specs.Ledger.{same_flow}
use Rattle.inventory.specs.View.{flow_of}
use Rattle.inventory.proofs.Found.{position_map}
use Rattle.inventory.proofs.inventory.Inventory.find.Goals as goal

pub returns : goal.returns
returns c = c.flow_number.ensures ∙ position_map flow_of (λ g. same_flow g c.args.flow.from c.args.flow.to c.args.flow.step) _

use Rattle.examples.proofs.Worked.{worked_examples}
use Rattle.examples.proofs.table.worked_examples_hold.Goals as goal

pub returns : goal.returns
returns c = worked_examples

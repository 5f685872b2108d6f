use Rattle.ledger.proofs.Labellings.{closed_labellings_are_labels, near_paths_are_shortest}
use Rattle.ledger.proofs.theorems.labellings_stand.Goals as goal

pub returns : goal.returns
returns c = record { labels = closed_labellings_are_labels; paths = near_paths_are_shortest }

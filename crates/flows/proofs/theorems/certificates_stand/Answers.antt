-- The lemma is the contract.
use Rattle.flows.proofs.Trails.{shortest_paths}
use Rattle.flows.proofs.theorems.certificates_stand.Goals as goal

pub returns : goal.returns
returns c = shortest_paths

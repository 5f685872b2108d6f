-- The sets of the nodes before this place are taken, and the others are empty or taken.
use Rattle.flows.proofs.Listings.{Taking}
use Rattle.flows.proofs.fronts.Front.take.Given as goal

abbrev pub invariant-loop-node : goal.invariant-loop-node
invariant-loop-node l = Taking l.fn.other l.self l.node-items l.node-index

-- The sets of the nodes before this place are empty, and the others as they were.
use Rattle.flows.proofs.Listings.{Clearing}
use Rattle.flows.proofs.fronts.Front.clear.Given as goal

abbrev pub invariant-loop-node : goal.invariant-loop-node
invariant-loop-node l = Clearing l.initial.self-inside.1.0 l.self-inside.1.0 l.node-items l.node-index

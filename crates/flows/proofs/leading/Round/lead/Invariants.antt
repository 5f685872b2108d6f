-- The nodes before this place are done.
use Rattle.flows.proofs.Traces.{Rounding}
use Rattle.flows.proofs.leading.Round.lead.Given as goal

abbrev pub invariant-loop-node : goal.invariant-loop-node
invariant-loop-node l = Rounding l.self l.initial.wave l.wave l.node-items l.node-index

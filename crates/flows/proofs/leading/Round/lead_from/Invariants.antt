-- The flows of the node from the cursor on are done.
use Rattle.flows.specs.Rounds.{past_flow}
use Rattle.flows.proofs.Traces.{Tracing}
use Rattle.flows.proofs.leading.Round.lead_from.Given as goal

abbrev pub invariant-loop-cursor : goal.invariant-loop-cursor
invariant-loop-cursor l = Tracing l.self l.initial.wave l.wave l.node l.cursor

abbrev pub decreases-loop-cursor : goal.decreases-loop-cursor
decreases-loop-cursor l = past_flow l.cursor

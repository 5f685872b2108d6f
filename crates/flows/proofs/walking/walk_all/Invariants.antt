-- What is written so far are the last hops, the last first.
use Rattle.std.proofs.Common.{length}
use Rattle.flows.proofs.Walks.{Walked}
use Rattle.flows.proofs.walking.walk_all.Given as goal

abbrev pub invariant-loop-hop : goal.invariant-loop-hop
invariant-loop-hop l = Walked l.workspace l.flows l.node l.value (length l.initial.piece) l.piece l.at l.held l.hop-index

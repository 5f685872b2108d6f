-- The nodes before this one are done.
use Rattle.flows.specs.Rounds.{Begun}
use Rattle.flows.proofs.rounds.begin.Given as goal

abbrev pub invariant-loop-number : goal.invariant-loop-number
invariant-loop-number l = Begun l.number l.initial.nodes l.nodes l.fresh

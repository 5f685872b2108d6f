-- The flows before this one are chained.
use Rattle.flows.specs.Rounds.{Chained}
use Rattle.flows.proofs.chaining.chain.Given as goal

abbrev pub invariant-loop-number : goal.invariant-loop-number
invariant-loop-number l = Chained l.flows l.number l.head l.link

use Rattle.std.proofs.Common.{◌-◌, length}
use Rattle.policy.proofs.Records.{Passed}
use Rattle.policy.proofs.deciding.Asked.+decide.Given as goal

abbrev pub decreases-decide : goal.decreases-decide
decreases-decide g l = length l.self.now.records.now - l.self.now.number

abbrev pub invariant-loop-next : goal.invariant-loop-next
invariant-loop-next g l = Passed (g.V.Vocabulary.orders l.self.scheme.now) l.self.records.now l.self.number l.asked l.usual l.next

abbrev pub decreases-loop-next : goal.decreases-loop-next
decreases-loop-next g l = l.own.end - l.next

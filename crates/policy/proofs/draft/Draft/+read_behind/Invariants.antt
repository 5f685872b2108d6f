use Rattle.std.proofs.Common.{length, ◌≤◌}
use Rattle.policy.proofs.Steps.{Along}
use Rattle.policy.proofs.draft.Draft.+read_behind.Given as goal

abbrev pub decreases-read_behind : goal.decreases-read_behind
decreases-read_behind l = length l.words.now

abbrev pub invariant-loop-left : goal.invariant-loop-left
invariant-loop-left l = record {
  shorter : length l.left ≤ length l.words;
  along : Along l.fn.kind l.depth l.fn.self l.words l.number l.top l.self l.own l.left;
}

abbrev pub decreases-loop-left : goal.decreases-loop-left
decreases-loop-left l = length l.left

-- The pieces that are left, put into what is found so far, give the set of the word.
use Rattle.std.proofs.Common.{◌≡◌, length, drop}
use Rattle.lexer.specs.Sets.{gather, pieces}
use Rattle.lexer.proofs.sets.set.Given as goal

abbrev pub invariant-loop-piece : goal.invariant-loop-piece
invariant-loop-piece l = gather l.found (drop (length l.yielded) (pieces l.fn.word)) ≡ gather 0 (pieces l.fn.word)

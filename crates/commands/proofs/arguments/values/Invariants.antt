use Rattle.std.proofs.Common.{◌≡◌, length, drop, vec_items}
use Rattle.lexer.specs.Words.{words_of}
use Rattle.commands.specs.Values.{values_of, values_from}
use Rattle.commands.proofs.Reading.{behind}
use Rattle.commands.proofs.arguments.values.Given as goal

-- what the words give is what those so far gave, and then what the rest gives
abbrev pub invariant-loop-word : goal.invariant-loop-word
invariant-loop-word l =
    values_of l.verb (words_of l.fn.words) ≡ behind (vec_items l.values) (values_from l.verb (length (vec_items l.values)) (drop (length l.yielded) (words_of l.fn.words)))

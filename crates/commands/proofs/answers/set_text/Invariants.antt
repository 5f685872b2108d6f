use Rattle.std.proofs.Common.{◌≡◌, [], string_bytes}
use Rattle.std.specs.List.{fold}
use Rattle.commands.specs.Answers.{one_more}
use Rattle.commands.proofs.answers.set_text.Given as goal

-- the values so far
abbrev pub invariant-loop-value : goal.invariant-loop-value
invariant-loop-value l = string_bytes l.values ≡ fold one_more [] l.yielded

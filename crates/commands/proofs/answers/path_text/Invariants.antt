use Rattle.std.proofs.Common.{◌≡◌, ◌++◌, take, string_bytes, codes}
use Rattle.std.specs.List.{flat_map}
use Rattle.commands.specs.Answers.{flow_text}
use Rattle.commands.proofs.answers.path_text.Given as goal

-- the flows so far
abbrev pub invariant-loop-flow : goal.invariant-loop-flow
invariant-loop-flow l = string_bytes l.text ≡ codes "flows" ++ flat_map flow_text (take l.flow-index l.flows)

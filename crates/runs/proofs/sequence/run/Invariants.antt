use Rattle.std.proofs.Common.{take, vec_items}
use Rattle.runs.specs.Calls.{DoneBy}
use Rattle.inventory.specs.Inventories.{SameMemory, view}
use Rattle.runs.proofs.sequence.run.Given as goal

-- the calls so far were made one after another, over the same memory
abbrev pub invariant-loop-call : goal.invariant-loop-call
invariant-loop-call g l =
    DoneBy g.V.Vocabulary.orders l.handed.schemes.now l.handed.policies.now (view l.initial.inventory) (take l.call-index l.calls) (vec_items l.answers) (view l.inventory)
    × SameMemory l.initial.inventory l.inventory

-- What a line asks for, by its command and the values of its arguments. Assumes nothing.
--   Meaning      what is asked for; names are left out, since they are words of the line
--   meaning      by the command and the values
--   meaning_of   of a command in memory
-- The kinds of the arguments keep a byte below 256 and a word below 2 ^ 32 already: the bounds here change no value of a line.
use Rattle.std.specs.Prelude.{ℕ, min, List, map, length, drop, vec_items, ◌==◌, slice_index}
use Rattle.std.specs.List.{range_with_len}
use Rattle.lattice.specs.declared.sizes.Sizes.{Sizes}
use Rattle.runs.specs.declared.calls.Call.{Call}
use Rattle.runs.specs.declared.calls.Call.TheVariants as calls
use Rattle.sessions.specs.declared.Rooms.{Rooms}
use Rattle.commands.specs.declared.command.Command.{Command}
use Rattle.commands.specs.declared.command.Command.TheVariants as commands
use Rattle.commands.specs.declared.verbs.Verb.{Verb}
use Rattle.commands.specs.declared.verbs.Verb.TheVariants.{Ladder, Table, Pair, Scheme, Policy, Inventory, Enter, Step, Mark, Unmark, Verify, Draw, Strike, Settle, Judge, Path}

pub data Meaning : Type 0 where
  ladder : ℕ → Meaning
  table : List ℕ → Meaning
  pair : Meaning
  scheme : Meaning
  policy : List ℕ → Meaning
  inventory : Sizes → Rooms → Meaning
  judge : ℕ → Meaning
  call : Call → Meaning

abbrev pub byte_most : ℕ → ℕ
byte_most n = min n 255

abbrev pub word_most : ℕ → ℕ
word_most n = min n 4294967295

-- the values of a function at the numbers below n
unfoldable pub tabled : ℕ → (ℕ → ℕ) → List ℕ
tabled n f = map f (range_with_len 0 n)

-- the row of a step: 64 entries, zeros behind those given
abbrev pub row_of : List ℕ → List ℕ
row_of values = tabled 64 (λ i. byte_most (slice_index values i))

abbrev pub meaning : Verb → List ℕ → Meaning
meaning Ladder vs = ladder (slice_index vs 1)
meaning Table vs = table (drop 1 vs)
meaning Pair vs = pair
meaning Scheme vs = scheme
meaning Policy vs = policy (map word_most (drop 2 vs))
meaning Inventory vs =
    inventory (record { store = byte_most (slice_index vs 0); purpose = byte_most (slice_index vs 1); role = byte_most (slice_index vs 2); types = byte_most (slice_index vs 3) })
    (record { nodes = slice_index vs 4; flows = slice_index vs 5; words = slice_index vs 6 })
meaning Enter vs = call (calls.Enter (slice_index vs 0) (slice_index vs 1) (slice_index vs 2))
meaning Step vs = call (calls.Step (row_of vs) (length vs))
meaning Mark vs = call (calls.Mark (slice_index vs 0) (byte_most (slice_index vs 1)))
meaning Unmark vs = call (calls.Unmark (slice_index vs 0) (byte_most (slice_index vs 1)))
meaning Verify vs = call (calls.Verify (slice_index vs 0) (slice_index vs 1 == 1))
meaning Draw vs = call (calls.Draw (slice_index vs 0) (slice_index vs 1) (slice_index vs 2))
meaning Strike vs = call (calls.Strike (slice_index vs 0) (slice_index vs 1) (slice_index vs 2))
meaning Settle vs = call calls.Settle
meaning Judge vs = judge (slice_index vs 0)
meaning Path vs = call (calls.Path (slice_index vs 0) (byte_most (slice_index vs 1)) (slice_index vs 2))

abbrev pub meaning_of : Command → Meaning
meaning_of (commands.Ladder n) = ladder n
meaning_of (commands.Table rows) = table (vec_items rows)
meaning_of commands.Pair = pair
meaning_of commands.Scheme = scheme
meaning_of (commands.Policy words) = policy (vec_items words)
meaning_of (commands.Inventory sizes rooms) = inventory sizes rooms
meaning_of (commands.Judge n) = judge n
meaning_of (commands.Call c) = call c

-- What the reader of a clause does. Assumes nothing.
use Rattle.std.specs.Prelude.{◌≡◌, ℕ, ◌+◌, ◌-◌, ◌<◌, ◌≤◌, List, [], ◌∷◌, ◌++◌, length, Some, None, Option, Ok, Err, Result, slice_set}
use Rattle.policy.specs.declared.clause.Kind.{Kind}
use Rattle.policy.specs.declared.draft.Phase.TheVariants.{Listing}
use Rattle.policy.specs.declared.draft.Open.{Open}
use Rattle.policy.specs.declared.clause.ClauseRecord.{ClauseRecord}
use Rattle.policy.specs.declared.draft.Draft.{Draft}
use Rattle.refusals.specs.declared.refusal.Reason.{Reason}
use Rattle.refusals.specs.declared.refusal.Reason.TheVariants.{MisplacedWord, BadWord}
use Rattle.refusals.specs.declared.refusal.Refusal.{Refusal}
use Rattle.policy.specs.declared.word.Word.{Word}
use Rattle.policy.specs.Words.{Frame, position, ended}
use Rattle.policy.specs.Walk.{walk, Slot, Records, recorded, fresh}
use Rattle.policy.specs.Sized.{Sized}

-- the clauses that are open have numbers, and no more words are left than there are
pub record Ready (o : Open) (d : Draft) (ws : List ℕ) : Type 0 where
  pub room : length d.clauses.items ≤ 256
  pub deep : o.depth ≤ length d.clauses.items
  pub within : length ws ≤ d.total
  pub sized : Sized d.sizes

abbrev pub frame_of : Open → Frame
frame_of o = record { kind = o.kind; phase = o.phase; last = position o.last.attribute o.last.code }

abbrev pub slot : ℕ → ClauseRecord → Slot
slot n x = record { number = n; filling = x }

-- what is made of the words with these frames open, whose records are these
abbrev pub goes : Draft → List Frame → List Slot → List ℕ → Result Records Refusal
goes d fs ss ws =
    walk (recorded d.sizes) d.sizes (record { open_clauses = fs; heads = length d.clauses.items }) (record { opens = ss; clauses = d.clauses.items }) (d.total - length ws) ws

-- the draft with x as record number n
abbrev pub stored : Draft → ℕ → ClauseRecord → Draft
stored d n x = record { clauses = record { items = slice_set d.clauses.items n x }; sizes = d.sizes; total = d.total }

-- the draft with one more record, that of a clause of kind k whose head alone is read
abbrev pub numbered : Kind → Draft → Draft
numbered k d = record { clauses = record { items = d.clauses.items ++ fresh k ∷ [] }; sizes = d.sizes; total = d.total }

-- the clause whose record was x is read to its end: its record is y, and `rest` is left of the words
pub record Closes (o : Open) (d : Draft) (x : ClauseRecord) (ws rest : List ℕ) (e : Draft) (y : ClauseRecord) : Type 0 where
  pub shorter : length rest < length ws
  pub grows : length d.clauses.items ≤ length e.clauses.items
  pub room : length e.clauses.items ≤ 256
  pub sizes : e.sizes ≡ d.sizes
  pub total : e.total ≡ d.total
  pub on : (fs : List Frame) (ss : List Slot) (n : ℕ) → length fs + 1 ≡ o.depth
      → goes d (frame_of o ∷ fs) (slot n x ∷ ss) ws ≡ goes (stored e n y) (ended fs) ss rest

-- the words are declined
abbrev pub Stops : Open → Draft → ClauseRecord → List ℕ → Refusal → Type 0
Stops o d x ws e =
    (fs : List Frame) (ss : List Slot) (n : ℕ) → length fs + 1 ≡ o.depth → goes d (frame_of o ∷ fs) (slot n x ∷ ss) ws ≡ Err e

abbrev pub Reads : Open → Draft → ClauseRecord → List ℕ → Result (List ℕ) Refusal → Draft → ClauseRecord → Type 0
Reads o d x ws (Ok rest) e y = Closes o d x ws rest e y
Reads o d x ws (Err r) e y = Stops o d x ws r

-- a clause whose head alone is read, inside `depth` others
abbrev pub just_open : Kind → ℕ → Open
just_open k depth = record { kind = k; phase = Listing; last = record { attribute = 0; code = 0 }; depth = depth + 1 }

-- a clause inside `depth` others is given the next number and read from the word behind its head on, and its record is stored
abbrev pub Behind : Kind → ℕ → Draft → List ℕ → Result (List ℕ) Refusal → Draft → Type 0
Behind k depth d ws (Ok rest) e =
    (g : Draft) × ((y : ClauseRecord) × (Reads (just_open k depth) (numbered k d) (fresh k) ws (Ok rest) g y × (e ≡ stored g (length d.clauses.items) y)))
Behind k depth d ws (Err r) e = Stops (just_open k depth) (numbered k d) (fresh k) ws r

-- the words of a policy, from its first on
abbrev pub Firsts : Draft → List ℕ → Result (Unit {0}) Refusal → Draft → Type 0
Firsts d ws (Ok _) e = (goes d [] [] ws ≡ Ok (record { opens = []; clauses = e.clauses.items })) × (e.sizes ≡ d.sizes)
Firsts d ws (Err x) e = goes d [] [] ws ≡ Err x

-- the first clause of the words, from its head to its end, and what is left behind it
pub record Begins (d : Draft) (ws rest : List ℕ) (e : Draft) : Type 0 where
  pub shorter : length rest < length ws
  pub some : 1 ≤ length e.clauses.items
  pub sizes : e.sizes ≡ d.sizes
  pub total : e.total ≡ d.total
  pub on : goes d [] [] ws ≡ goes e [] [] rest

abbrev pub Begun : Draft → List ℕ → Result (List ℕ) Refusal → Draft → Type 0
Begun d ws (Ok rest) e = Begins d ws rest e
Begun d ws (Err x) e = goes d [] [] ws ≡ Err x

-- why what is no head, or not the first one, is declined outside every clause
abbrev pub stray_reason : Option Word → Reason
stray_reason None = BadWord
stray_reason (Some w) = MisplacedWord

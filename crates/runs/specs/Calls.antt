-- What calls and answers in memory mean, and the events of a run. Assumes nothing.
--   named     the call that is meant: none where it names a scheme or a policy that was not handed over
--   events    each call with its answer
--   Matched   every call has an answer, exactly where it is one of the ten
--   Leaves    what a call leaves in the memory
--   DoneBy    the calls were made one after another, and answered so
use Rattle.std.specs.Prelude.{◌≡◌, ℕ, List, [], ◌∷◌, take, is_some, Some, None, vec_items, Option}
use Rattle.std.proofs.Math.Option.{none, some}
use Rattle.std.proofs.Math.ListN.{get_elem?}
use Rattle.lattice.specs.Schemes.{Scheme}
use Rattle.policy.specs.Policies.{policy_of}
use Rattle.policy.specs.declared.policy.Policy.{Policy}
use Rattle.ledger.specs.Ledger.{Call as LedgerCall, enter, step, mark, unmark, verify, draw, strike, settle, judge, path, after}
use Rattle.ledger.specs.Run.{Answer as LedgerAnswer, refused, done, numbered, judged, shown, Answered, Event}
use Rattle.runs.specs.declared.calls.Call.{Call}
use Rattle.runs.specs.declared.calls.Call.TheVariants.{Enter, Step, Mark, Unmark, Verify, Draw, Strike, Settle, Judge, Path}
use Rattle.runs.specs.declared.calls.Answer.{Answer}
use Rattle.runs.specs.declared.calls.Answer.TheVariants.{Refused, Done, Numbered, Judged, Shown}
use Rattle.inventory.specs.Resettled.{Resettled}
use Rattle.inventory.specs.View.{View, ledger_of, written}

abbrev pub answer_of : Answer → LedgerAnswer
answer_of (Refused e) = refused e
answer_of Done = done
answer_of (Numbered n) = numbered n
answer_of (Judged j) = judged j.passed j.clause j.evidence
answer_of (Shown piece) = shown (vec_items piece)

-- settle relabels, an accepted edit writes its records, and all else stands
abbrev pub Leaves : View → View → LedgerCall → Type 0
Leaves v w (enter a b c) = w ≡ written v (enter a b c)
Leaves v w (step row) = w ≡ written v (step row)
Leaves v w (mark n x) = w ≡ written v (mark n x)
Leaves v w (unmark n x) = w ≡ written v (unmark n x)
Leaves v w (verify n b) = w ≡ written v (verify n b)
Leaves v w (draw a b t) = w ≡ written v (draw a b t)
Leaves v w (strike a b t) = w ≡ written v (strike a b t)
Leaves v w settle = Resettled v w
Leaves v w (judge n s p) = w ≡ v
Leaves v w (path n x room) = w ≡ v

-- one call: its answer, the ledger and the memory after it
pub record Made (before next : View) (call : LedgerCall) (answer : LedgerAnswer) : Type 0 where
  pub answered : Answered (ledger_of before) call answer
  pub ledger : ledger_of next ≡ after (ledger_of before) call
  pub memory : Leaves before next call

-- the same of a call that may be none of the ten: it has no answer then, and nothing is touched
abbrev pub One : View → View → Option LedgerCall → Option Answer → Type 0
One v w None None = w ≡ v
One v w None (Some a) = ⊥
One v w (Some c) None = ⊥
One v w (Some c) (Some a) = Made v w c (answer_of a)

module _ {V : Type 0} (orders : V → Scheme) (schemes : List V) (policies : List Policy) where
  abbrev pub judged_by : ℕ → ℕ → ℕ → Option LedgerCall
  judged_by n s p =
      elim (get_elem? schemes s) [
        | none ↦ None
        | some z ↦ elim (get_elem? policies p) [ none ↦ None | some q ↦ Some (judge n (orders z) (policy_of q)) ]
      ]

  abbrev pub named : Call → Option LedgerCall
  named (Enter a b c) = Some (enter a b c)
  named (Step row len) = Some (step (take len row))
  named (Mark n x) = Some (mark n x)
  named (Unmark n x) = Some (unmark n x)
  named (Verify n b) = Some (verify n b)
  named (Draw a b t) = Some (draw a b t)
  named (Strike a b t) = Some (strike a b t)
  named Settle = Some settle
  named (Judge n s p) = judged_by n s p
  named (Path n x room) = Some (path n x room)

  abbrev pub event : Option LedgerCall → Option Answer → List Event → List Event
  event None a rest = rest
  event (Some c) None rest = rest
  event (Some c) (Some a) rest = (c, answer_of a) ∷ rest

  abbrev pub events : List Call → List (Option Answer) → List Event
  events [] answers = []
  events (c ∷ cs) [] = []
  events (c ∷ cs) (a ∷ answers) = event (named c) a (events cs answers)

  abbrev pub Matched : List Call → List (Option Answer) → Type 0
  Matched [] [] = Unit {0}
  Matched [] (a ∷ answers) = ⊥
  Matched (c ∷ cs) [] = ⊥
  Matched (c ∷ cs) (a ∷ answers) = (is_some a ≡ is_some (named c)) × Matched cs answers

  abbrev pub DoneBy : View → List Call → List (Option Answer) → View → Type 0
  DoneBy v [] [] w = w ≡ v
  DoneBy v [] (a ∷ answers) w = ⊥
  DoneBy v (c ∷ cs) [] w = ⊥
  DoneBy v (c ∷ cs) (a ∷ answers) w = (u : View) × One v u (named c) a × DoneBy u cs answers w

-- What every list of calls can rely on. Assumes nothing.
use Rattle.std.specs.Prelude.{◌≡◌, ℕ, ◌^◌, ◌<◌, ◌≤◌, Bool, true, false, T, ◌⊎◌, ◌↔◌, List, [], ◌∷◌, length, Some, None}
use Rattle.lattice.specs.Sets.{has, without}
use Rattle.lattice.specs.Schemes.{Scheme}
use Rattle.policy.specs.Clauses.{allows, decider, evidence}
use Rattle.refusals.specs.declared.refusal.Reason.TheVariants.{NotInLabel, ShortPiece}
use Rattle.ledger.specs.Ledger.{Ledger, Call, enter, step, mark, unmark, verify, draw, strike, settle, judge, path, declined, after, changing, IsFlowPath, Brought, CanBring, Shortest, label_at}
use Rattle.policy.specs.Policies.{Policy}
use Rattle.refusals.specs.declared.refusal.Refusal.{Refusal}

pub data Answer : Type 0 where
  refused : Refusal → Answer
  done : Answer
  numbered : ℕ → Answer
  judged : Bool → ℕ → ℕ → Answer
  shown : List ℕ → Answer

-- What each call answers, by the ledger before it

-- d is the set of all values that flow paths bring to node n
abbrev pub LabelOf : Ledger → ℕ → ℕ → Type 0
LabelOf L n d = (d < 2 ^ 64) × ((v : ℕ) → T (has d v) ↔ Brought L n v)

abbrev pub Given : Ledger → Call → Answer → Type 0
Given L (enter a b c) answer = answer ≡ numbered (length L.nodes)
Given L (step row) answer = answer ≡ numbered (length L.steps)
Given L (mark n v) answer = answer ≡ done
Given L (unmark n v) answer = answer ≡ done
Given L (verify n b) answer = answer ≡ done
Given L (draw a b c) answer = answer ≡ done
Given L (strike a b c) answer = answer ≡ done
Given L settle answer = answer ≡ done
Given L (judge n s p) answer =
    (d : ℕ) × LabelOf L n d ×
    (answer ≡ judged (allows s p.clause (label_at L n d)) (decider s 0 p.clause (label_at L n d)) (evidence s p.clause (label_at L n d)))
Given L (path n v room) answer =
    ((Brought L n v → ⊥) × (answer ≡ refused (record { reason = NotInLabel; place = v }))) ⊎
    ((fs : List ℕ) × Shortest L fs n v × (((room < length fs) × (answer ≡ refused (record { reason = ShortPiece; place = 0 }))) ⊎ ((length fs ≤ room) × (answer ≡ shown fs))))

abbrev pub Answered : Ledger → Call → Answer → Type 0
Answered L c answer = elim (declined L c) [ Some r ↦ answer ≡ refused r | None ↦ Given L c answer ]

-- What is promised of a whole run

-- the policy allows the set d at node n
abbrev pub Allowed : Ledger → ℕ → Scheme → Policy → ℕ → Type 0
Allowed L n s p d = allows s p.clause (label_at L n d) ≡ true

-- a node is passed exactly when the policy allows, at that node, every set of values that flow paths can bring to it
abbrev pub PassedExactly : Ledger → ℕ → Scheme → Policy → Bool → Type 0
PassedExactly L n s p passed = (passed ≡ true) ↔ ((d : ℕ) → CanBring L n d → Allowed L n s p d)

-- evidence of a refused node: flow paths bring it, the policy denies it, and allows it once any one value is left out
abbrev pub Evident : Ledger → ℕ → Scheme → Policy → ℕ → Type 0
Evident L n s p e =
    CanBring L n e × (allows s p.clause (label_at L n e) ≡ false) × ((v : ℕ) → T (has e v) → Allowed L n s p (without e v))

-- the answer to path, asked for a value that flow paths bring, in a piece of so many entries:
-- not refused where the piece is long enough for some flow path, and then a flow path that no other undercuts
abbrev pub PathShown : Ledger → ℕ → ℕ → ℕ → Answer → Type 0
PathShown L n v room answer =
    (gs : List ℕ) → IsFlowPath L gs n v → length gs ≤ room → (fs : List ℕ) × (answer ≡ shown fs) × Shortest L fs n v

-- a call and its answer
abbrev pub Event : Type 0
Event = Call × Answer

abbrev pub is_change : Ledger → Call → Bool
is_change L c = elim (declined L c) [ Some r ↦ false | None ↦ changing c ]

abbrev pub ShowsEvidence : Ledger → ℕ → ℕ → Call → Answer → Type 0
ShowsEvidence L n e (enter a b c) answer = Unit {0}
ShowsEvidence L n e (step row) answer = Unit {0}
ShowsEvidence L n e (mark m v) answer = Unit {0}
ShowsEvidence L n e (unmark m v) answer = Unit {0}
ShowsEvidence L n e (verify m b) answer = Unit {0}
ShowsEvidence L n e (draw a b c) answer = Unit {0}
ShowsEvidence L n e (strike a b c) answer = Unit {0}
ShowsEvidence L n e settle answer = Unit {0}
ShowsEvidence L n e (judge m s p) answer = Unit {0}
ShowsEvidence L n e (path m v room) answer = m ≡ n → T (has e v) → PathShown L n v room answer

-- until the next change, path shows a way for each value of the evidence e
abbrev pub PathsFollow : Ledger → ℕ → ℕ → List Event → Type 0
PathsFollow L n e [] = Unit {0}
PathsFollow L n e ((c, answer) ∷ rest) = ShowsEvidence L n e c answer × (is_change L c ≡ false → PathsFollow (after L c) n e rest)

-- what is promised of an answer, with the events that come after it
abbrev pub JudgedRight : Ledger → Call → Answer → List Event → Type 0
JudgedRight L (enter a b c) answer rest = Unit {0}
JudgedRight L (step row) answer rest = Unit {0}
JudgedRight L (mark m v) answer rest = Unit {0}
JudgedRight L (unmark m v) answer rest = Unit {0}
JudgedRight L (verify m b) answer rest = Unit {0}
JudgedRight L (draw a b c) answer rest = Unit {0}
JudgedRight L (strike a b c) answer rest = Unit {0}
JudgedRight L settle answer rest = Unit {0}
JudgedRight L (path m v room) answer rest = Unit {0}
JudgedRight L (judge n s p) answer rest =
    (passed : Bool) (k e : ℕ) → answer ≡ judged passed k e →
    PassedExactly L n s p passed × (passed ≡ false → Evident L n s p e × PathsFollow L n e rest)

-- every call of a run is answered as the ledger before it says
abbrev pub EveryCallAnswered : Ledger → List Event → Type 0
EveryCallAnswered L [] = Unit {0}
EveryCallAnswered L ((c, answer) ∷ rest) = Answered L c answer × EveryCallAnswered (after L c) rest

-- every judgement given in a run is right
abbrev pub EveryJudgementRight : Ledger → List Event → Type 0
EveryJudgementRight L [] = Unit {0}
EveryJudgementRight L ((c, answer) ∷ rest) = JudgedRight L c answer rest × EveryJudgementRight (after L c) rest

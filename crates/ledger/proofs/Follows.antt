-- Until the next change, path shows a flow path that no other undercuts. Assumes nothing.
use Rattle.std.proofs.Common.{◌≡◌, ℕ, ◌<◌, Bool, true, false, T, ltb, List, [], ◌∷◌, length, Some, None, Option, sym, refl, subst, inl, inr, arith, lt→ltb}
use Rattle.std.proofs.lemmas.Bool.{true≢false}
use Rattle.refusals.specs.declared.refusal.Reason.{Reason}
use Rattle.ledger.specs.Ledger.{Ledger, Call, enter, step, mark, unmark, verify, draw, strike, settle, judge, path, unless, good_value, declined, accepted, after, changing}
use Rattle.refusals.specs.declared.refusal.Refusal.{Refusal}
use Rattle.lattice.specs.Faults.{or_else}
use Rattle.ledger.specs.Run.{Answer, refused, Given, Answered, PathShown, Event, is_change, ShowsEvidence, PathsFollow, EveryCallAnswered}
use Rattle.ledger.specs.Sound.{Sound}
use Rattle.lattice.specs.Tests.{from_true}
use Rattle.ledger.proofs.Values.{path_value}

none_or : (a b : Option Refusal) → a ≡ None → b ≡ None → or_else a b ≡ None
none_or (Some r) b e f = let z : ◌≡◌ {A = ℕ} 0 1 = cc in absurd (omega arith)
none_or None b e f = f

unless_true : (b : Bool) (r : Reason) (place : ℕ) → T b → unless b r place ≡ None
unless_true true r place h = refl
unless_true false r place h = absurd h

-- in a settled ledger path is not declined at a node that is there, for a value in range
path_accepted : (L : Ledger) (n v room : ℕ) → n < length L.nodes → T (good_value L.sizes.types v) → L.settled ≡ true →
    declined L (path n v room) ≡ None
path_accepted L n v room there good settled =
    none_or _ _ (unless_true (ltb n (length L.nodes)) _ _ (lt→ltb n (length L.nodes) there))
    (none_or _ _ (unless_true (good_value L.sizes.types v) _ _ good) (unless_true L.settled _ _ (from_true L.settled settled)))

-- an accepted path shows a flow path, where the piece is long enough for some
given_shown : (L : Ledger) (n v room : ℕ) (answer : Answer) → Given L (path n v room) answer → PathShown L n v room answer
given_shown L n v room answer (inl (missing, refusal)) gs way fits = absurd (missing ∣ (gs, way) ∣₁)
given_shown L n v room answer (inr (fs, shortest, inl (short, refusal))) gs way fits = absurd (omega (arith, shortest.1 gs way))
given_shown L n v room answer (inr (fs, shortest, inr (long, shows))) gs way fits = (fs, shows, shortest)

-- what is said of an answer, by why the call is declined
abbrev pub AnsweredBy : Ledger → Call → Answer → Option Refusal → Type 0
AnsweredBy L c answer (Some r) = answer ≡ refused r
AnsweredBy L c answer None = Given L c answer

pub by_declined : (L : Ledger) (c : Call) (answer : Answer) (o : Option Refusal) → declined L c ≡ o → Answered L c answer → AnsweredBy L c answer o
by_declined L c answer o e answered = subst (AnsweredBy L c answer) e (go (declined L c) answered)
  where
    go : (o : Option Refusal) → elim o as (λ _. Type 0) [ Some r ↦ answer ≡ refused r | None ↦ Given L c answer ] → AnsweredBy L c answer o
    go (Some r) h = h
    go None h = h

pub path_shown : (L : Ledger) → Sound L → L.settled ≡ true → (n v room : ℕ) (answer : Answer) → n < length L.nodes →
    Answered L (path n v room) answer → PathShown L n v room answer
path_shown L sound settled n v room answer there answered gs way fits =
    given_shown L n v room answer
    (by_declined L (path n v room) answer None (path_accepted L n v room there (path_value L sound gs n v way) settled) answered) gs way fits

shows : (L : Ledger) → Sound L → L.settled ≡ true → (n e : ℕ) → n < length L.nodes → (c : Call) (answer : Answer) →
    Answered L c answer → ShowsEvidence L n e c answer
shows L sound settled n e there (enter a b c) answer answered = tt
shows L sound settled n e there (step row) answer answered = tt
shows L sound settled n e there (mark m v) answer answered = tt
shows L sound settled n e there (unmark m v) answer answered = tt
shows L sound settled n e there (verify m b) answer answered = tt
shows L sound settled n e there (draw a b c) answer answered = tt
shows L sound settled n e there (strike a b c) answer answered = tt
shows L sound settled n e there settle answer answered = tt
shows L sound settled n e there (judge m s p) answer answered = tt
shows L sound settled n e there (path m v room) answer answered = λ same holds.
    subst (λ (k : ℕ). PathShown L k v room answer) same (path_shown L sound settled m v room answer (omega arith) answered)

-- a call that is no change leaves a settled ledger as it is
accepted_same : (L : Ledger) → L.settled ≡ true → (c : Call) → changing c ≡ false → accepted L c ≡ L
accepted_same L settled (enter a b c) still = absurd (true≢false still)
accepted_same L settled (step row) still = absurd (true≢false still)
accepted_same L settled (mark m v) still = absurd (true≢false still)
accepted_same L settled (unmark m v) still = absurd (true≢false still)
accepted_same L settled (verify m b) still = absurd (true≢false still)
accepted_same L settled (draw a b c) still = absurd (true≢false still)
accepted_same L settled (strike a b c) still = absurd (true≢false still)
accepted_same L settled settle still = λ i. record {
  sizes = L.sizes;
  node_room = L.node_room;
  flow_room = L.flow_room;
  nodes = L.nodes;
  steps = L.steps;
  flows = L.flows;
  settled = sym settled i;
}
accepted_same L settled (judge n s p) still = refl
accepted_same L settled (path n v room) still = refl

pub after_same : (L : Ledger) (c : Call) → L.settled ≡ true → is_change L c ≡ false → after L c ≡ L
after_same L c settled still = go (declined L c) still
  where
    go : (o : Option Refusal) → ◌≡◌ {A = Bool} (elim o [ Some r ↦ false | None ↦ changing c ]) false →
        ◌≡◌ {A = Ledger} (elim o [ Some r ↦ L | None ↦ accepted L c ]) L
    go (Some r) e = refl
    go None e = accepted_same L settled c e

pub paths_follow : (L : Ledger) → Sound L → L.settled ≡ true → (n e : ℕ) → n < length L.nodes → (events : List Event) →
    EveryCallAnswered L events → PathsFollow L n e events
paths_follow L sound settled n e there [] answered = tt
paths_follow L sound settled n e there ((c, answer) ∷ rest) answered = (
  shows L sound settled n e there c answer answered.0,
  λ still.
      let same = after_same L c settled still in
      subst (λ (M : Ledger). PathsFollow M n e rest) (sym same)
      (paths_follow L sound settled n e there rest (subst (λ (M : Ledger). EveryCallAnswered M rest) same answered.1)),
)

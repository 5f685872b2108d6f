-- Where every call of a run is answered as the ledger before it says, every judgement is right. Assumes nothing.
use Rattle.std.proofs.Common.{◌≡◌, ℕ, ◌<◌, Bool, true, false, cond, T, List, [], ◌∷◌, length, Some, None, Option, sym, refl, ◌∙◌, subst, arith}
use Rattle.std.proofs.lemmas.Bool.{cond-false}
use Rattle.lattice.specs.Sets.{has, without, gather}
use Rattle.lattice.specs.Schemes.{Scheme}
use Rattle.policy.specs.declared.label.Label.{Label}
use Rattle.policy.specs.Clauses.{Clause, allows, decider, with_types, evidence}
use Rattle.lattice.specs.Schemes.{Lattices}
use Rattle.ledger.specs.Ledger.{Ledger, Call, enter, step, mark, unmark, verify, draw, strike, settle, judge, path, declined, after, fresh, label_at}
use Rattle.policy.specs.Policies.{Policy}
use Rattle.refusals.specs.declared.refusal.Refusal.{Refusal}
use Rattle.ledger.specs.Run.{Answer, refused, judged, LabelOf, Given, Answered, PassedExactly, Evident, Event, PathsFollow, JudgedRight, EveryCallAnswered, EveryJudgementRight}
use Rattle.ledger.specs.Sound.{Sound, LatticesBrought, EveryCallBringsLattices}
use Rattle.ledger.specs.Promise.{RunsKeepThePromise, LedgersStaySound, FreshRunsKeepThePromise}
use Rattle.lattice.proofs.Members.{has_before_without}
use Rattle.policy.proofs.Sets.{gather_keeps}
use Rattle.policy.proofs.Antitone.{allows_subset}
use Rattle.policy.proofs.Evidence.{evidence_denied, evidence_needed}
use Rattle.lattice.specs.Tests.{is_true, from_true}
use Rattle.ledger.proofs.Ranges.{has_below}
use Rattle.ledger.proofs.Ledgers.{or_else_none, unless_none, is_there, fresh_sound, after_sound}
use Rattle.ledger.proofs.Follows.{AnsweredBy, by_declined, paths_follow}

-- ---- the parts of an answer

judged_passed : (a b : Bool) (j k d e : ℕ) → judged a j d ≡ judged b k e → a ≡ b
judged_passed a b j k d e h = cc

judged_evidence : (a b : Bool) (j k d e : ℕ) → judged a j d ≡ judged b k e → d ≡ e
judged_evidence a b j k d e h = cc

judged_refused : (r : Refusal) (b : Bool) (k e : ℕ) → refused r ≡ judged b k e → ⊥
judged_refused r b k e h = let z : ◌≡◌ {A = ℕ} 0 1 = cc in omega arith

-- ---- the evidence is among the data types of the label

evidence_among : (s : Scheme) (c : Clause) (t : Label) (v : ℕ) → allows s c t ≡ false → has (evidence s c t) v ≡ true → has t.types v ≡ true
unfolding evidence
evidence_among s c t v denied holds =
    gather_keeps keep t.types t.types (λ n left. has left v ≡ true → has t.types v ≡ true) 64 (λ h. h)
    (λ k left inside there before. one k left before (allows s c (with_types t (without left k)))) (λ k left inside absent before. before)
    (subst (λ (x : ℕ). has x v ≡ true) (cond-false (allows s c t) 0 (gather keep t.types t.types 64) denied) holds)
  where
    keep : ℕ → ℕ → ℕ
    keep left v = cond (allows s c (with_types t (without left v))) left (without left v)

    one : (k left : ℕ) → (has left v ≡ true → has t.types v ≡ true) → (b : Bool) → has (cond b left (without left k)) v ≡ true → has t.types v ≡ true
    one k left before true h = before h
    one k left before false h = before (has_before_without left k v h)

-- ---- a judgement

module _ (L : Ledger) (n : ℕ) (s : Scheme) (p : Policy) (laws : Lattices s) (d : ℕ) (label : LabelOf L n d) where
  passed_exactly : PassedExactly L n s p (allows s p.clause (label_at L n d))
  passed_exactly = (
    λ passed e brings. allows_subset s laws p.clause (label_at L n d) e d
        (λ v inside holds. is_true (has d v) ((label.1 v).1 (brings v (from_true (has e v) holds)))) passed,
    λ each. each d (λ v. (label.1 v).0),
  )

  evident : allows s p.clause (label_at L n d) ≡ false → Evident L n s p (evidence s p.clause (label_at L n d))
  evident denied = (
    λ v holds. (label.1 v).0 (within v holds),
    evidence_denied s laws p.clause (label_at L n d) denied,
    λ v holds. evidence_needed s laws p.clause (label_at L n d) denied v (has_below d 64 v label.0 (within v holds)) (is_true _ holds),
  )
    where
      within : (v : ℕ) → T (has (evidence s p.clause (label_at L n d)) v) → T (has d v)
      within v holds = from_true (has d v) (evidence_among s p.clause (label_at L n d) v denied (is_true _ holds))

judgement_right : (L : Ledger) → Sound L → (n : ℕ) (s : Scheme) (p : Policy) → Lattices s → (answer : Answer) (rest : List Event) →
    declined L (judge n s p) ≡ None → Given L (judge n s p) answer →
    ((e : ℕ) → PathsFollow L n e rest) → JudgedRight L (judge n s p) answer rest
judgement_right L sound n s p laws answer rest none (d, label, is) follow passed k e same =
    let parts : judged (allows s p.clause (label_at L n d)) (decider s 0 p.clause (label_at L n d)) (evidence s p.clause (label_at L n d)) ≡ judged passed k e =
    sym is ∙ same in
    let verdict : allows s p.clause (label_at L n d) ≡ passed = judged_passed _ _ _ _ _ _ parts in
    let shown : evidence s p.clause (label_at L n d) ≡ e = judged_evidence _ _ _ _ _ _ parts in (
      subst (PassedExactly L n s p) verdict (passed_exactly L n s p laws d label),
      λ denied. (subst (Evident L n s p) shown (evident L n s p laws d label (verdict ∙ denied)), follow e),
    )

-- a judge call that is not declined names a node of a settled ledger
judge_there : (L : Ledger) (n : ℕ) (s : Scheme) (p : Policy) → declined L (judge n s p) ≡ None → (n < length L.nodes) × (L.settled ≡ true)
judge_there L n s p none =
    let first = or_else_none _ _ none in
    let second = or_else_none _ _ first.1 in
    (is_there L n first.0, is_true L.settled (unless_none L.settled _ _ second.0))

-- a judge call changes nothing
judge_keeps : (L : Ledger) (n : ℕ) (s : Scheme) (p : Policy) → after L (judge n s p) ≡ L
judge_keeps L n s p = go (declined L (judge n s p))
  where
    go : (o : Option Refusal) → ◌≡◌ {A = Ledger} (elim o [ Some r ↦ L | None ↦ L ]) L
    go (Some r) = refl
    go None = refl

judge_right : (L : Ledger) → Sound L → (n : ℕ) (s : Scheme) (p : Policy) → Lattices s → (answer : Answer) (rest : List Event) →
    (o : Option Refusal) → declined L (judge n s p) ≡ o → AnsweredBy L (judge n s p) answer o → EveryCallAnswered L rest →
    JudgedRight L (judge n s p) answer rest
judge_right L sound n s p laws answer rest (Some r) why refusal later = λ passed k e same. absurd (judged_refused r passed k e (sym refusal ∙ same))
judge_right L sound n s p laws answer rest None why given later =
    let there = judge_there L n s p why in
    judgement_right L sound n s p laws answer rest why given (λ e. paths_follow L sound there.1 n e there.0 rest later)

answer_right : (L : Ledger) → Sound L → (c : Call) (answer : Answer) (rest : List Event) → LatticesBrought c → Answered L c answer →
    EveryCallAnswered (after L c) rest → JudgedRight L c answer rest
answer_right L sound (enter a b c) answer rest laws answered later = tt
answer_right L sound (step row) answer rest laws answered later = tt
answer_right L sound (mark m v) answer rest laws answered later = tt
answer_right L sound (unmark m v) answer rest laws answered later = tt
answer_right L sound (verify m b) answer rest laws answered later = tt
answer_right L sound (draw a b c) answer rest laws answered later = tt
answer_right L sound (strike a b c) answer rest laws answered later = tt
answer_right L sound settle answer rest laws answered later = tt
answer_right L sound (path m v room) answer rest laws answered later = tt
answer_right L sound (judge n s p) answer rest laws answered later =
    judge_right L sound n s p laws answer rest (declined L (judge n s p)) refl (by_declined L (judge n s p) answer (declined L (judge n s p)) refl answered)
    (subst (λ (M : Ledger). EveryCallAnswered M rest) (judge_keeps L n s p) later)

-- ---- whole runs

pub runs_keep_the_promise : RunsKeepThePromise
runs_keep_the_promise L sound events = go events L sound
  where
    go : (events : List Event) (L : Ledger) → Sound L → EveryCallBringsLattices events → EveryCallAnswered L events → EveryJudgementRight L events
    go [] L sound laws answered = tt
    go ((c, answer) ∷ rest) L sound laws answered =
        (answer_right L sound c answer rest laws.0 answered.0 answered.1, go rest (after L c) (after_sound L c sound) laws.1 answered.1)

pub ledgers_stay_sound : LedgersStaySound
ledgers_stay_sound = (fresh_sound, after_sound)

pub fresh_runs_keep_the_promise : FreshRunsKeepThePromise
fresh_runs_keep_the_promise z nodes flows words events = runs_keep_the_promise (fresh z nodes flows words) (fresh_sound z nodes flows words) events

use Rattle.std.proofs.Common.{◌≡◌, ℕ, ◌<◌, ◌≤◌, Bool, true, false, List, length, drop, Err, Result, sym, refl, ap, ◌∙◌, subst, inl, inr, MatchResult}
use Rattle.std.proofs.lemmas.Bool.{cases_lt, both_ways}
use Rattle.std.proofs.lemmas.Result.{err_from_is_err_and}
use Rattle.refusals.specs.declared.refusal.Refusal.{Refusal}
use Rattle.ledger.specs.Ledger.{path}
use Rattle.ledger.specs.Run.{Answered, shown}
use Rattle.inventory.specs.Answers.{path_answer}
use Rattle.inventory.specs.Inventories.{view}
use Rattle.inventory.specs.View.{ledger_of}
use Rattle.inventory.proofs.Asks.{told_refused, told_absent, told_short, told_shown, answer_absent, answer_short, answer_shown}
use Rattle.inventory.proofs.Judges.{path_promised}
use Rattle.inventory.proofs.Outcomes.{sound, refused_answer}
use Rattle.inventory.proofs.inventory.Inventory.path.Goals as goal

-- a refusal leaves the piece as it was
rest_of : (piece : List ℕ) (r : Result ℕ Refusal) (e : Refusal) → r ≡ Err e
    → MatchResult r (λ k. (k ≤ length piece) × (drop k piece ≡ drop k piece)) (λ _. piece ≡ piece)
rest_of piece r e is = subst (λ (q : Result ℕ Refusal). MatchResult q (λ k. (k ≤ length piece) × (drop k piece ≡ drop k piece)) (λ _. piece ≡ piece)) (sym is) refl

too_short : (count room : ℕ) (b : Bool) → (count ≤ room → b ≡ true) → b ≡ false → room < count
too_short count room b fits failed =
    elim (cases_lt room count) [ inl less ↦ less | inr enough ↦ absurd (both_ways b failed (fits enough)) ]

pub returns-in_err-check_path : goal.returns-in_err-check_path
returns-in_err-check_path c =
    let v = view c.args.self.now in
    let s = sound c.args.self.now in
    let room = length c.args.piece.now in
    let e = c.in_err-check_path.field-0.0 in
    let p = err_from_is_err_and c.from_residual.result c.from_residual.ensures.1 in
    let is : c.from_residual.result ≡ Err e = p.1 ∙ ap Err p.2 in
    let h = sym c.in_err-check_path.ensures in
    let answered = refused_answer v s (path c.args.node c.args.value room) (path_answer c.from_residual.result c.args.piece.now) e h
    (ap (λ r. path_answer r c.args.piece.now) is) in
    record {
      answered = answered;
      promised = path_promised v s c.args.node c.args.value room _ answered;
      told = ap (λ r. path_answer r c.args.piece.now) is ∙ sym (told_refused v s c.args.node c.args.value room e h);
      rest = rest_of c.args.piece.now c.from_residual.result e is;
    }

pub returns-then-not-contains : goal.returns-then-not-contains
returns-then-not-contains c =
    let v = view c.args.self.now in
    let s = sound c.args.self.now in
    let room = length c.args.piece.now in
    let h = sym c.in_ok-check_path.ensures in
    let out = sym c.if-not-contains.ensures in
    let answered = answer_absent v s c.args.node c.args.value room h out in
    rw c.at.ensures (record {
      answered = answered;
      promised = path_promised v s c.args.node c.args.value room _ answered;
      told = sym (told_absent v s c.args.node c.args.value room h out);
      rest = refl;
    })

pub returns-then-not-walk : goal.returns-then-not-walk
returns-then-not-walk c =
    let v = view c.args.self.now in
    let s = sound c.args.self.now in
    let room = length c.args.piece.now in
    let h = sym c.in_ok-check_path.ensures in
    let inside = sym c.if-not-contains.ensures in
    let short = too_short _ room c.walk.result c.walk.ensures.fits.1 c.if-not-walk.true in
    let answered = answer_short v s c.args.node c.args.value room h inside short in
    rw c.at-then-not-walk.ensures (record {
      answered = answered;
      promised = path_promised v s c.args.node c.args.value room _ answered;
      told = sym (told_short v s c.args.node c.args.value room h inside short);
      rest = c.walk.ensures.refused c.if-not-walk.true;
    })

pub returns : goal.returns
returns c =
    let v = view c.args.self.now in
    let s = sound c.args.self.now in
    let room = length c.args.piece.now in
    let h = sym c.in_ok-check_path.ensures in
    let inside = sym c.if-not-contains.ensures in
    let fits = c.walk.ensures.fits.0 c.if-not-walk.false in
    let hops_are = c.walk.ensures.hops c.if-not-walk.false in
    let answered = subst (λ (fs : List ℕ). Answered (ledger_of v) (path c.args.node c.args.value room) (shown fs)) (sym hops_are)
    (answer_shown v s c.args.node c.args.value room h inside fits) in
    record {
      answered = answered;
      promised = path_promised v s c.args.node c.args.value room _ answered;
      told = ap shown hops_are ∙ sym (told_shown v s c.args.node c.args.value room h inside fits);
      rest = (fits, c.walk.ensures.rest);
    }

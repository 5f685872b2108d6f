-- What a call's result means as an answer.
use Rattle.std.specs.Prelude.{ℕ, List, take, Some, None, Ok, Err, Option, Result}
use Rattle.refusals.specs.declared.refusal.Refusal.{Refusal}
use Rattle.policy.specs.declared.policy.judging.Verdict.{Verdict}
use Rattle.ledger.specs.Run.{Answer, refused, done, numbered, judged, shown}

-- why the call was declined
abbrev pub declined_by : {A : Type 0} → Result A Refusal → Option Refusal
declined_by (Ok a) = None
declined_by (Err e) = Some e

abbrev pub plain_answer : Result (Unit {0}) Refusal → Answer
plain_answer (Ok a) = done
plain_answer (Err e) = refused e

abbrev pub number_answer : Result ℕ Refusal → Answer
number_answer (Ok n) = numbered n
number_answer (Err e) = refused e

abbrev pub judged_answer : Result Verdict Refusal → Answer
judged_answer (Ok j) = judged j.passed j.clause j.evidence
judged_answer (Err e) = refused e

-- the hops of a path are the first entries of the piece
abbrev pub path_answer : Result ℕ Refusal → List ℕ → Answer
path_answer (Ok n) piece = shown (take n piece)
path_answer (Err e) piece = refused e

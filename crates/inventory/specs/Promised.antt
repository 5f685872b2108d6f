-- What is promised of a judgement and of a path, by the ledger before the call. Assumes nothing.
use Rattle.std.specs.Prelude.{◌≡◌, ℕ, ◌<◌, true, false, length, Ok, Err, Result}
use Rattle.lattice.specs.Schemes.{Scheme}
use Rattle.refusals.specs.declared.refusal.Refusal.{Refusal}
use Rattle.policy.specs.Policies.{Policy}
use Rattle.policy.specs.declared.policy.judging.Verdict.{Verdict}
use Rattle.ledger.specs.Ledger.{Ledger}
use Rattle.ledger.specs.Run.{Answer, PassedExactly, Evident, PathShown}

-- the node is passed exactly when the policy allows every set that flow paths can bring to it; where it is not, the evidence is minimal
abbrev pub Promised : Ledger → ℕ → Scheme → Policy → Result Verdict Refusal → Type 0
Promised L n s p (Ok j) = PassedExactly L n s p j.passed × (j.passed ≡ false → Evident L n s p j.evidence)
Promised L n s p (Err e) = Unit {0}

-- path is not refused where flow paths bring the value and the piece is long enough for one, and then shows a flow path that no other undercuts
abbrev pub PathPromised : Ledger → ℕ → ℕ → ℕ → Answer → Type 0
PathPromised L n v room answer = L.settled ≡ true → n < length L.nodes → PathShown L n v room answer

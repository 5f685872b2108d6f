use Rattle.std.proofs.Common.{◌≡◌, Some, None, Option, sym, refl, subst}
use Rattle.ledger.specs.Ledger.{Call, judge}
use Rattle.ledger.specs.Run.{Answered}
use Rattle.policy.specs.Policies.{policy_of}
use Rattle.runs.specs.declared.calls.Answer.{Answer}
use Rattle.runs.specs.Calls.{One}
use Rattle.inventory.specs.Inventories.{view}
use Rattle.inventory.specs.View.{View, ledger_of}
use Rattle.runs.proofs.Sequences.{at_number, past_end, judge_kept, judged_some, judged_none, judged_without}
use Rattle.runs.proofs.sequence.Handed.judge_by.Goals as goal

-- no call is named, and none is answered
no_call : (v : View) (call : Option Call) (answer : Option Answer) → call ≡ None → answer ≡ None → One v v call answer
no_call v call answer e₁ e₂ =
    subst (λ (o : Option Call). One v v o answer) (sym e₁) (subst (λ (a : Option Answer). One v v None a) (sym e₂) refl)

pub returns-in_err-scheme : goal.returns-in_err-scheme
returns-in_err-scheme g c =
    no_call (view c.args.inventory.now) _ c.from_residual.result
    (judged_none g.V.Vocabulary.orders c.args.self.now.schemes.now c.args.self.now.policies.now c.args.node c.args.scheme c.args.policy
    (past_end c.args.self.now.schemes.now c.args.scheme c.in_err-scheme.ensures.lookup.3)) c.from_residual.ensures

pub returns-in_err-policy : goal.returns-in_err-policy
returns-in_err-policy g c =
    no_call (view c.args.inventory.now) _ c.from_residual-in_err-policy.result
    (judged_without g.V.Vocabulary.orders c.args.self.now.schemes.now c.args.self.now.policies.now c.args.node c.args.scheme c.args.policy
    (past_end c.args.self.now.policies.now c.args.policy c.in_err-policy.ensures.lookup.3)) c.from_residual-in_err-policy.ensures

pub returns : goal.returns
returns g c =
    let v = view c.args.inventory.now in
    let orders = g.V.Vocabulary.orders in
    let z = c.in_ok-scheme.scheme.now in
    let q = c.in_ok-policy.policy.now in
    let scheme = c.in_ok-scheme.ensures.lookup in
    let policy = c.in_ok-policy.ensures.lookup in
    subst (λ (o : Option Call). One v v o (Some c.into.result))
    (sym (judged_some orders c.args.self.now.schemes.now c.args.self.now.policies.now c.args.node c.args.scheme c.args.policy z q
    (at_number c.args.self.now.schemes.now c.args.scheme z scheme.3.0 scheme.1) (at_number c.args.self.now.policies.now c.args.policy q policy.3.0 policy.1)))
    (record {
      answered = subst (Answered (ledger_of v) (judge c.args.node (orders z) (policy_of q))) (sym c.into.ensures) c.judge.ensures.answered;
      ledger = judge_kept (ledger_of v) c.args.node (orders z) (policy_of q);
      memory = refl;
    })

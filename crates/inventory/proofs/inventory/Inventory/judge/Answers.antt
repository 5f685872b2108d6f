use Rattle.std.proofs.Common.{◌≡◌, Some, None, Ok, Err, ap, ◌∙◌}
use Rattle.std.proofs.lemmas.Result.{err_from_is_err_and}
use Rattle.lattice.specs.Schemes.{Scheme, scheme_sizes}
use Rattle.policy.specs.Labels.{declared}
use Rattle.policy.specs.Policies.{policy_of}
use Rattle.ledger.specs.Ledger.{judge}
use Rattle.inventory.specs.Answers.{judged_answer}
use Rattle.inventory.specs.Inventories.{view}
use Rattle.inventory.proofs.Declines.{judge_passed}
use Rattle.inventory.proofs.Judges.{judge_asked, judge_answered, judge_promised, held_label, same_sizes_equal}
use Rattle.inventory.proofs.Outcomes.{sound, refused_answer}
use Rattle.inventory.proofs.inventory.Inventory.judge.Goals as goal

pub returns-in_err-check_judge : goal.returns-in_err-check_judge
returns-in_err-check_judge g c =
    let v = view c.args.self.now in
    let s = sound c.args.self.now in
    let e = c.in_err-check_judge.field-0.0 in
    let p = err_from_is_err_and c.from_residual.result c.from_residual.ensures.1 in
    let is : c.from_residual.result ≡ Err e = p.1 ∙ ap Err p.2 in
    let z : Scheme = g.V.Vocabulary.orders c.args.scheme.now in
    let q = policy_of c.args.policy.now in
    let h = judge_asked v s c.args.node z q _ _ (Some e) c.sizes.ensures c.sizes-2.ensures c.in_err-check_judge.ensures in
    let answered = refused_answer v s (judge c.args.node z q) (judged_answer c.from_residual.result) e h (ap judged_answer is) in
    record { answered = answered; promised = judge_promised v s c.args.node z q (g.met.V.Vocabulary.lawful c.args.scheme.now) c.from_residual.result answered }

pub returns : goal.returns
returns g c =
    let v = view c.args.self.now in
    let s = sound c.args.self.now in
    let z : Scheme = g.V.Vocabulary.orders c.args.scheme.now in
    let q = policy_of c.args.policy.now in
    let h = judge_asked v s c.args.node z q _ _ None c.sizes.ensures c.sizes-2.ensures c.in_ok-check_judge.ensures in
    let ok = judge_passed v c.args.node z q h in
    let label = c.declared-label.ensures ∙ ap (declared (scheme_sizes z)) c.held.ensures.label
    ∙ held_label v s c.args.node ok.0 (scheme_sizes z) (same_sizes_equal (scheme_sizes z) v.sizes ok.2) in
    let answered = judge_answered v s c.args.node z q h c.held.ensures.small c.declared-label.result label
    c.judge.result.passed c.judge.result.clause c.judge.result.evidence
    c.judge.ensures.passed c.judge.ensures.clause c.judge.ensures.evidence in
    record { answered = answered; promised = judge_promised v s c.args.node z q (g.met.V.Vocabulary.lawful c.args.scheme.now) (Ok c.judge.result) answered }

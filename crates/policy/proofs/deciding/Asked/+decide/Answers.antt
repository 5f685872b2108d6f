use Rattle.std.proofs.Common.{◌+◌, ◌<◌, length, get_or, ap, not, sym, ◌∙◌, arith}
use Rattle.policy.specs.Records.{clauses_from, no_record}
use Rattle.policy.proofs.Nesting.{nested_held}
use Rattle.policy.proofs.Records.{turn_decides, turn_passes, turn_ends}
use Rattle.policy.proofs.deciding.Asked.+decide.Goals as goal

pub returns-in_default-clause-passed : goal.returns-in_default-clause-passed
returns-in_default-clause-passed g t c =
    let rs = c.args.self.now.records.now in
    let decided = c.in_default.ensures (clauses_from 0 rs (c.args.self.now.number + 1) (get_or rs c.args.self.now.number no_record).end) c.args.self.now.number in
    ap not c.is_allow-usual.ensures ∙ sym decided.0

pub invariant_of-exception : goal.invariant_of-exception
invariant_of-exception g t c =
    let here = nested_held c.args.self.now.records.now c.args.self.now.nested c.args.self.now.number c.args.self.now.inside in
    record { nested = c.args.self.now.nested; inside = omega (arith, c.loop-next-test.true, c.from.ensures, here.within) }

pub returns-then-decision-usual : goal.returns-then-decision-usual
returns-then-decision-usual g t c =
    let found = turn_decides (g.V.Vocabulary.orders c.args.self.now.scheme.now) c.args.self.now.records.now c.args.self.now.number c.args.label c.in-Some.asked c.is_allow-usual.result
    (record { nested = nested_held c.args.self.now.records.now c.args.self.now.nested; inside = c.args.self.now.inside; opened = c.in-Some.ensures; usual_is = c.is_allow-usual.ensures })
    c.loop-next.next c.decide-decision.result.clause c.decide-decision.result.passed c.loop-next.invariant
    (omega (arith, c.loop-next-test.true, c.from.ensures)) c.decide-decision.ensures.passed c.decide-decision.ensures.clause c.if-decision-usual.true in
    record { passed = found.0; clause = found.1 }

pub loop-next-smaller : goal.loop-next-smaller
loop-next-smaller g t c =
    let rs = c.args.self.now.records.now in
    let here = nested_held rs c.args.self.now.nested c.args.self.now.number c.args.self.now.inside in
    let inside : c.loop-next.next < length rs = omega (arith, c.loop-next-test.true, c.from.ensures, here.within) in
    let next = nested_held rs c.args.self.now.nested c.loop-next.next inside in
    omega (arith, c.loop-next-test.true, c.from.ensures, c.from-next.ensures, next.behind)

pub loop-next-preserved : goal.loop-next-preserved
loop-next-preserved g t c =
    turn_passes (g.V.Vocabulary.orders c.args.self.now.scheme.now) c.args.self.now.records.now c.args.self.now.number c.args.label c.in-Some.asked c.is_allow-usual.result
    (record { nested = nested_held c.args.self.now.records.now c.args.self.now.nested; inside = c.args.self.now.inside; opened = c.in-Some.ensures; usual_is = c.is_allow-usual.ensures })
    c.loop-next.next c.from-next.result c.decide-decision.result.passed c.loop-next.invariant
    (omega (arith, c.loop-next-test.true, c.from.ensures)) c.decide-decision.ensures.passed c.if-decision-usual.false c.from-next.ensures

pub returns : goal.returns
returns g t c =
    let found = turn_ends (g.V.Vocabulary.orders c.args.self.now.scheme.now) c.args.self.now.records.now c.args.self.now.number c.args.label c.in-Some.asked c.is_allow-usual.result
    (record { nested = nested_held c.args.self.now.records.now c.args.self.now.nested; inside = c.args.self.now.inside; opened = c.in-Some.ensures; usual_is = c.is_allow-usual.ensures })
    c.loop-next.next c.loop-next.invariant (omega (arith, c.loop-next-test.false, c.from.ensures)) in
    record { passed = found.0; clause = found.1 }

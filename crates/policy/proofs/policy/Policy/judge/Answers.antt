use Rattle.policy.specs.Records.{tree}
use Rattle.policy.proofs.Verdicts.{just_verdict}
use Rattle.policy.proofs.policy.Policy.judge.Goals as goal

pub returns-clause-just : goal.returns-clause-just
returns-clause-just g c =
    just_verdict (g.V.Vocabulary.orders c.args.scheme.now) (g.met.V.Vocabulary.lawful c.args.scheme.now) (tree c.args.self.now.clauses.items 0) c.args.label
    c.decide-decision.result.passed c.decide-decision.result.clause c.evidence.result
    c.decide-decision.ensures.passed c.decide-decision.ensures.clause c.evidence.ensures

use Rattle.std.proofs.Common.{◌≡◌, sym, ◌∙◌, rules}
use Rattle.std.specs.List.{fold}
use Rattle.lattice.specs.Schemes.{Scheme}
use Rattle.lattice.specs.Sets.{values_of}
use Rattle.lattice.proofs.Values.{gather_list}
use Rattle.policy.specs.Clauses.{Clause}
use Rattle.policy.specs.Records.{tree}
use Rattle.policy.specs.Verdicts.{left_after}
use Rattle.policy.proofs.Evidence.{evidence_none, evidence_gathered}
use Rattle.policy.proofs.deciding.Asked.evidence.Goals as goal

pub returns-then-allows : goal.returns-then-allows
returns-then-allows g c =
    sym (evidence_none (g.V.Vocabulary.orders c.args.self.now.scheme.now) (tree c.args.self.now.records.now c.args.self.now.number) c.args.label
    (sym c.allows.ensures ∙ c.if-allows.true))

pub returns : goal.returns
returns g c =
    let s : Scheme = g.V.Vocabulary.orders c.args.self.now.scheme.now in
    let d : Clause = tree c.args.self.now.records.now c.args.self.now.number in
    let e : c.fold.result ≡ fold (left_after s d c.args.label) c.args.label.types (values_of c.args.label.types) = search rules in
    e ∙ sym (gather_list (left_after s d c.args.label) c.args.label.types c.args.label.types)
    ∙ sym (evidence_gathered s d c.args.label (sym c.allows.ensures ∙ c.if-allows.false))

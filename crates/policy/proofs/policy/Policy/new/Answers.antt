use Rattle.std.proofs.Common.{◌≡◌, [], ◌∷◌, ap, ◌∙◌, arith, rules, refl}
use Rattle.policy.specs.declared.clause.Kind.TheVariants.{Deny}
use Rattle.policy.specs.declared.label.Label.{Label}
use Rattle.policy.specs.declared.clause.ClauseRecord.{ClauseRecord}
use Rattle.policy.specs.Clauses.{deny, none}
use Rattle.policy.specs.Policies.{twos}
use Rattle.policy.specs.Records.{tree}
use Rattle.policy.proofs.Trees.{tree_laid}
use Rattle.policy.proofs.policy.Policy.new.Goals as goal

abbrev two : Label
two = record { store = 2; purpose = 2; role = 2; types = 2 }

abbrev row : ClauseRecord
row = record { kind = Deny; list = two; end = 1 }

pub returns : goal.returns
returns c =
    let e : c.push.new.self.items ≡ row ∷ [] = search rules in
    ap (λ t. record { sizes = twos; clause = t }) (ap (λ rs. tree rs 0) e ∙ tree_laid (row ∷ []) 0 (deny two none) (omega arith) (refl, tt))

use Rattle.std.proofs.Common.{◌≡◌, sym, ◌∙◌, rules}
use Rattle.std.specs.List.{fold}
use Rattle.lattice.specs.Order.{Order, meet, join}
use Rattle.lattice.specs.Sets.{values_of}
use Rattle.lattice.proofs.Values.{gather_list}
use Rattle.policy.specs.Clauses.{value_or_bottom, overlap}
use Rattle.policy.proofs.narrowing.common.Goals as goal

pub returns : goal.returns
unfolding overlap
returns g c =
    let o : Order = g.L.Lattice.order c.args.lattice.now in
    let e : c.fold.result ≡ fold (λ sum v. value_or_bottom (join o sum (value_or_bottom (meet o c.args.value v)))) 0 (values_of c.args.label) = search rules in
    e ∙ sym (gather_list (λ sum v. value_or_bottom (join o sum (value_or_bottom (meet o c.args.value v)))) 0 c.args.label)

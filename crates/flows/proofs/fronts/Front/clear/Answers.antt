-- At the end no listed set is left.
use Rattle.std.proofs.Common.{List, ℕ, sym, subst, arith}
use Rattle.flows.specs.Fronts.{Listed}
use Rattle.flows.proofs.Listings.{lists_none, clearing_end}
use Rattle.flows.proofs.fronts.Front.clear.Goals as goal

pub invariant_of-self : goal.invariant_of-self
invariant_of-self c =
    let l = subst (λ (xs : List ℕ). Listed c.self.inside.sets xs) (sym c.as_slice-node-items.ensures.value) c.self.invariant in
    rw c.clear.ensures (lists_none _ (clearing_end _ _ _ _ l (omega arith) c.loop-node.invariant))

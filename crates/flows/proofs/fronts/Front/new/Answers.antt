-- A fresh array has zeros alone.
use Rattle.flows.proofs.Listings.{empty_zeros, lists_none}
use Rattle.flows.proofs.fronts.Front.new.Goals as goal

pub invariant_of-result : goal.invariant_of-result
invariant_of-result c = rw c.new-nodes.ensures (lists_none _ empty_zeros)

pub returns : goal.returns
returns c = empty_zeros

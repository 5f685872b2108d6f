-- Each turn takes the set of one more node.
use Rattle.std.proofs.Common.{refl, arith}
use Rattle.std.proofs.lemmas.Grind.{common_steps}
use Rattle.flows.proofs.Listings.{taking_more}
use Rattle.flows.proofs.fronts.Front.take.Goals as goal

pub loop-node-preserved : goal.loop-node-preserved
loop-node-preserved c =
    let here = c.nodes-node-items.ensures.within c.loop-node.node-index c.loop-node-test.true in
    rw (c.add.ensures, c.at.ensures, c.from.ensures)
    (taking_more _ _ _ _ c.nodes-node-items.ensures c.loop-node.invariant _ (grind (arith, common_steps)) refl)

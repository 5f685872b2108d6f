-- Each turn writes the hop before those that are written.
use Rattle.std.proofs.Common.{◌∙◌, arith}
use Rattle.flows.proofs.Walks.{walk_more, walk_end}
use Rattle.flows.proofs.walking.walk_all.Goals as goal

pub loop-hop-preserved : goal.loop-hop-preserved
loop-hop-preserved c = walk_more _ _ _ _ _ _ _ _ _ _ _ (omega (arith, c.loop-hop-test.true)) c.loop-hop.auto.piece c.arrival_of-arrival.ensures c.start_of-at.ensures c.loop-hop.invariant

pub returns : goal.returns
returns c = c.reverse.ensures.after ∙ walk_end _ _ _ _ _ _ _ _ _ c.loop-hop.auto.piece (omega arith) c.loop-hop.invariant

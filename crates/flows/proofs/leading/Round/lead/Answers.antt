-- Each turn leads the values of one more node on.
use Rattle.std.proofs.Common.{arith}
use Rattle.flows.proofs.Traces.{round_more, round_end}
use Rattle.flows.proofs.leading.Round.lead.Goals as goal

pub loop-node-preserved : goal.loop-node-preserved
loop-node-preserved c = round_more _ _ _ _ _ _ c.loop-node.invariant c.lead_from.ensures.ready c.lead_from.ensures.went c.lead_from.ensures.led

pub returns-clause-led : goal.returns-clause-led
returns-clause-led c = round_end _ _ _ _ _ c.loop-node.invariant c.nodes-node-items.ensures (omega arith)

-- Each turn leads on along one flow, and goes to the flow before.
use Rattle.flows.proofs.Traces.{trace_begin, trace_more, fewer}
use Rattle.flows.proofs.leading.Round.lead_from.Goals as goal

pub loop-cursor-init : goal.loop-cursor-init
loop-cursor-init c = trace_begin _ _ _ c.requires.ready

pub lead_on-requires-clause-number_within : goal.lead_on-requires-clause-number_within
lead_on-requires-clause-number_within c = (c.loop-cursor.invariant.here _ c.in-Some.is).0

pub loop-cursor-smaller : goal.loop-cursor-smaller
loop-cursor-smaller c = fewer _ _ _ c.in-Some.is (λ f is. (c.requires.ready.charted.chained.link_is c.in-Some.number f (c.loop-cursor.invariant.here _ c.in-Some.is).0 is).0)

pub loop-cursor-preserved : goal.loop-cursor-preserved
loop-cursor-preserved c = trace_more _ _ _ _ _ _ _ c.in-Some.is c.loop-cursor.invariant c.lead_on.ensures.ready c.lead_on.ensures.went c.lead_on.ensures.led

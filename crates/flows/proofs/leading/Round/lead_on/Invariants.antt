-- The values that came are led on.
use Rattle.std.proofs.Common.{length}
use Rattle.flows.specs.Charts.{SameMemory}
use Rattle.flows.proofs.Leads.{Leading}
use Rattle.flows.proofs.leading.Round.lead_on.Given as goal

abbrev pub invariant-loop-value : goal.invariant-loop-value
invariant-loop-value l = record {
  same : SameMemory l.initial.wave l.wave;
  lead : Leading l.initial.wave.nodes.now l.wave.nodes.now l.self.chart.flows.now l.self.chart.rows.now (length l.self.chart.head.now) (length l.self.chart.flows.now)
      l.initial.wave.workspace.now l.wave.workspace.now l.self.fresh.now l.initial.wave.next.now l.wave.next.now l.self.distance l.number l.yielded;
}

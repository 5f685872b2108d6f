-- What holds before each round, and the room that is left in the labels.
use Rattle.std.proofs.Common.{◌+◌, ◌-◌, ◌*◌, length}
use Rattle.flows.specs.Charts.{SameMemory}
use Rattle.flows.specs.Rounds.{held_count}
use Rattle.flows.proofs.Spreads.{Running, lit}
use Rattle.flows.proofs.rounds.run.Given as goal

abbrev pub invariant-loop-wave : goal.invariant-loop-wave
invariant-loop-wave l = record {
  same : SameMemory l.initial.wave l.wave;
  run : Running l.initial.wave.nodes.now l.wave.nodes.now l.chart.flows.now l.chart.rows.now (length l.chart.head.now) (length l.chart.flows.now)
      l.initial.wave.workspace.now l.wave.workspace.now l.fresh l.wave.next.now l.distance;
}

abbrev pub decreases-loop-wave : goal.decreases-loop-wave
decreases-loop-wave l = 2 * (64 * length l.chart.head.now - held_count (length l.chart.head.now) l.wave.nodes.now) + lit l.fresh

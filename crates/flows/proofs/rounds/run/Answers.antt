-- Each round that leaves fresh values has put values into labels, so the rounds come to an end.
use Rattle.std.proofs.Common.{◌≡◌, ℕ, ◌^◌, ◌<◌, List, length, sym, ◌∙◌, subst, true≢false, rules, arith}
use Rattle.flows.specs.declared.records.NodeRecord.{NodeRecord}
use Rattle.flows.specs.declared.records.FlowRecord.{FlowRecord}
use Rattle.flows.specs.Charts.{graph_on}
use Rattle.flows.specs.Certificate.{Certified}
use Rattle.flows.proofs.Spreads.{Running, held_most, lit_some, running_more, running_end, round_grows}
use Rattle.flows.proofs.rounds.run.Goals as goal

-- what holds of the lists that the wave has holds of those that were lent to it
along : (P : List NodeRecord → List ℕ → Type 0) {ns ns' : List NodeRecord} {W W' : List ℕ} → P ns' W' → ns ≡ ns' → W ≡ W' → P ns W
along P {ns} {ns'} {W} {W'} p nodes words = subst (λ x. P x W) (sym nodes) (subst (λ x. P ns' x) (sym words) p)

-- there are at most as many rounds as values in the labels
few_rounds : {start ns : List NodeRecord} {fl : List FlowRecord} {rows : List (List ℕ)} {N F : ℕ} {W₀ W fresh next : List ℕ} {d : ℕ}
    → Running start ns fl rows N F W₀ W fresh next d → d < 2 ^ 20
few_rounds {ns = ns} {N = N} run = omega (arith, run.steps, held_most N ns, run.spread.fit.few_nodes)

pub lead-requires : goal.lead-requires
lead-requires c = record { charted = c.requires.charted; near = few_rounds c.loop-wave.invariant.run; spread = c.loop-wave.invariant.run.spread }

pub loop-wave-smaller : goal.loop-wave-smaller
loop-wave-smaller c =
    omega (
      arith,
      lit_some _ c.loop-wave.invariant.run.spread.fresh_long (λ e. true≢false (sym (c.is_empty.ensures.1 e) ∙ c.loop-wave-test.true)),
      held_most (length c.args.chart.head.now) c.lead.new.wave.nodes.now,
      round_grows _ _ _ _ _ _ _ _ c.lead.ensures.went.grown c.loop-wave.invariant.run.empty c.take.ensures.moved,
    )

pub loop-wave-preserved : goal.loop-wave-preserved
loop-wave-preserved c = record {
  same = search rules;
  run = running_more _ _ _ _ _ _ _ _ _ _ _ _ _ _ _ _
      (lit_some _ c.loop-wave.invariant.run.spread.fresh_long (λ e. true≢false (sym (c.is_empty.ensures.1 e) ∙ c.loop-wave-test.true)))
      c.loop-wave.invariant.run c.lead.ensures.ready.spread c.lead.ensures.led c.lead.ensures.went.grown c.take.ensures.long c.take.ensures.moved c.take.ensures.emptied;
}

pub returns-clause-certified : goal.returns-clause-certified
returns-clause-certified c =
    let done : Certified (graph_on c.args.chart c.loop-wave.wave.nodes.now) c.loop-wave.wave.workspace.now =
    running_end _ _ _ _ _ _ _ _ _ _ _ c.loop-wave.invariant.run (c.is_empty.ensures.0 c.loop-wave-test.false) in
    along (λ ns W. Certified (graph_on c.args.chart ns) W) done (search rules) (search rules)

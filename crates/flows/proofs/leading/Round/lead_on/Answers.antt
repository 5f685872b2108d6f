-- Each turn leads the next fresh value on, or finds it there.
use Rattle.std.proofs.Common.{get_or, ◌∙◌, rules}
use Rattle.flows.specs.Graph.{no_flow}
use Rattle.flows.proofs.Sets.{bit_clear, bit_set}
use Rattle.flows.proofs.Leads.{value_came, all_came, lead_end, lead_made, lead_none}
use Rattle.flows.proofs.Relabels.{same_verified}
use Rattle.flows.proofs.Traces.{same_more}
use Rattle.flows.proofs.leading.Round.lead_on.Goals as goal
use Rattle.flows.proofs.leading.Round.lead_on.Goals.{else-made-ne0-via-then-made-ne0+else-wave-flow-eq0, else-made-ne0-via-else-made-ne0}

pub bounds-self-value : goal.bounds-self-value
bounds-self-value c =
    (value_came (get_or c.args.self.now.fresh.now (get_or c.args.self.now.chart.flows.now c.args.number no_flow).«from» 0) _ c.loop-value.yielded _ _ _ (search rules)
    c.loop-value.yielded_by c.next.ensures.steps _ c.in-Some.is).0

pub loop-value-preserved-then-wave-flow-eq0 : goal.loop-value-preserved-then-wave-flow-eq0
loop-value-preserved-then-wave-flow-eq0 c =
    let held = value_came (get_or c.args.self.now.fresh.now (get_or c.args.self.now.chart.flows.now c.args.number no_flow).«from» 0) _ c.loop-value.yielded _ _ _ (search rules)
    c.loop-value.yielded_by c.next.ensures.steps _ c.in-Some.is in
    let lead = c.loop-value.invariant.lead in
    record {
      same = same_more c.loop-value.invariant.same c.put.ensures.same;
      lead = lead_made _ _ _ _ _ _ _ _ _ _ _ _ _ _ lead _ c.requires.number_within _ _ _ held c.put.ensures.nodes c.put.ensures.next c.put.ensures.words
          c.if-made-ne0.true (bit_clear _ c.if-wave-flow-eq0.true) (same_verified _ _ lead.grown.same _ ∙ c.if-wave-flow.false);
    }

pub loop-value-preserved : goal.loop-value-preserved
loop-value-preserved c = record {
  same = c.loop-value.invariant.same;
  lead = lead_none _ _ _ _ _ _ _ _ _ _ _ _ _ _ c.loop-value.invariant.lead _ c.requires.number_within
      (elim c.else-made-ne0.branch [
        | else-made-ne0-via-then-made-ne0+else-wave-flow-eq0 w' ↦ λ _. bit_set _ w'.if-wave-flow-eq0.false
        | else-made-ne0-via-else-made-ne0 w' ↦ λ some. absurd (some w'.if-made-ne0.false)
      ]);
}

pub returns-clause-led : goal.returns-clause-led
returns-clause-led c =
    lead_end _ _ _ _ _ _ _ _ _ _ _ _ _ _ c.loop-value.invariant.lead
    (all_came _ _ c.loop-value.yielded _ _ _ (search rules) c.loop-value.yielded_by c.next.ensures.steps c.in-None.is)

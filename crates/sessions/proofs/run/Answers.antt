use Rattle.std.proofs.Common.{◌≡◌, ℕ, min, List, vec_items, refl, ◌∙◌, subst, arith}
use Rattle.flows.specs.Graph.{no_node, no_flow}
use Rattle.flows.specs.declared.records.NodeRecord.{NodeRecord}
use Rattle.flows.specs.declared.records.FlowRecord.{FlowRecord}
use Rattle.ledger.specs.Ledger.{Ledger}
use Rattle.ledger.specs.Run.{EveryCallAnswered, EveryJudgementRight}
use Rattle.runs.specs.Calls.{DoneBy, events}
use Rattle.inventory.specs.View.{made_new}
use Rattle.sessions.specs.Brought.{node_records, flow_records, workspace_words}
use Rattle.sessions.proofs.Capped.{blank_node, blank_flow, full, same_fresh, written}
use Rattle.sessions.proofs.run.Goals as goal

pub returns : goal.returns
returns g c =
    let orders = g.V.Vocabulary.orders in
    let schemes = c.args.schemes.now in
    let policies = c.args.policies.now in
    let calls = c.args.calls.now in
    let answers = vec_items c.in_ok-answers.answers in
    let given = c.in_ok-answers.ensures in
    let z = c.args.sizes in
    let ns = c.as_mut_slice.result.now in
    let fs = c.as_mut_slice-2.result.now in
    let ws = c.as_mut_slice-3.result.now in
    let en : ns ≡ node_records c.args.rooms.nodes =
    c.as_mut_slice.ensures.value ∙ c.in_ok-nodes.ensures.items_if_clones_equal (λ y e. e)
    ∙ full c.min.result (min c.args.rooms.nodes 4096) c.default.result no_node (omega arith) (blank_node c.default.result c.default.ensures) in
    let ef : fs ≡ flow_records c.args.rooms.flows =
    c.as_mut_slice-2.ensures.value ∙ c.in_ok-flows.ensures.items_if_clones_equal (λ y e. e)
    ∙ full c.min-2.result (min c.args.rooms.flows 16384) c.default-2.result no_flow (omega arith) (blank_flow c.default-2.result c.default-2.ensures) in
    let ew : ws ≡ workspace_words c.args.rooms.words =
    c.as_mut_slice-3.ensures.value ∙ c.in_ok-words.ensures.items_if_clones_equal (λ y e. e)
    ∙ full c.min-3.result (min c.args.rooms.words 524288) 0 0 (omega arith) refl in
    let same = same_fresh z c.args.rooms.nodes c.args.rooms.flows c.args.rooms.words ns fs ws en ef ew in
    let w = given.memory.0 in
    let D : List NodeRecord → List FlowRecord → List ℕ → Type 0 = λ a b d. DoneBy orders schemes policies (made_new z a b d) calls answers w in
    record {
      matched = given.matched;
      memory = (
        w,
        subst (λ a. D a (flow_records c.args.rooms.flows) (workspace_words c.args.rooms.words)) en
            (subst (λ b. D ns b (workspace_words c.args.rooms.words)) ef (subst (λ d. D ns fs d) ew given.memory.1)),
        written c.in_ok-nodes.nodes.len c.run.new.nodes _ w.nodes (c.run.auto.nodes ∙ c.as_mut_slice.ensures.len) given.memory.2,
        written c.in_ok-flows.flows.len c.run.new.flows _ w.flows (c.run.auto.flows ∙ c.as_mut_slice-2.ensures.len) given.memory.3,
      );
      answered = subst (λ (L : Ledger). EveryCallAnswered L (events orders schemes policies calls answers)) same given.answered;
      right = subst (λ (L : Ledger). EveryJudgementRight L (events orders schemes policies calls answers)) same given.right;
    }

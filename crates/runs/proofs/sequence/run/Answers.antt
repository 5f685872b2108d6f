use Rattle.std.proofs.Common.{List, [], length, vec_items, Option, sym, refl, ◌∙◌, subst, rules}
use Rattle.std.proofs.lemmas.List.{take_all}
use Rattle.ledger.specs.Ledger.{Ledger}
use Rattle.ledger.specs.Run.{EveryCallAnswered}
use Rattle.ledger.proofs.Promises.{fresh_runs_keep_the_promise}
use Rattle.runs.specs.declared.calls.Answer.{Answer}
use Rattle.runs.specs.declared.calls.Call.{Call}
use Rattle.runs.specs.declared.calls.Call.TheVariants.{Enter}
use Rattle.runs.specs.Calls.{DoneBy, events}
use Rattle.inventory.specs.Inventories.{view}
use Rattle.inventory.specs.View.{View}
use Rattle.runs.proofs.Sequences.{done_next, done_matched, done_answered, all_bring}
use Rattle.runs.proofs.sequence.run.Goals as goal

pub loop-call-preserved : goal.loop-call-preserved
loop-call-preserved g c =
    let one = c.in_ok-answer.ensures in (
      done_next g.V.Vocabulary.orders c.args.schemes.now c.args.policies.now _ _ _ c.args.calls.now c.loop-call.call-index _ (Enter 0 0 0) _ _ _
          c.loop-call-test.true refl c.in_ok-push.ensures.items c.loop-call.invariant.0 one.one,
      (one.lent.0 ∙ c.loop-call.invariant.1.0, one.lent.1 ∙ c.loop-call.invariant.1.1, one.lent.2 ∙ c.loop-call.invariant.1.2),
    )

pub returns : goal.returns
returns g c =
    let orders = g.V.Vocabulary.orders in
    let schemes = c.args.schemes.now in
    let policies = c.args.policies.now in
    let calls = c.args.calls.now in
    let answers = vec_items c.loop-call.answers in
    let v = view c.new-inventory.result in
    let w = view c.loop-call.inventory in
    let done : DoneBy orders schemes policies v calls answers w =
    subst (λ (cs : List Call). DoneBy orders schemes policies v cs answers w) (take_all c.loop-call.call-index calls c.loop-call-test.false) c.loop-call.invariant.0 in
    let answered = subst (λ (L : Ledger). EveryCallAnswered L (events orders schemes policies calls answers)) c.new-inventory.ensures.ledger
    (done_answered orders schemes policies v w calls answers done) in
    record {
      matched = done_matched orders schemes policies v w calls answers done;
      memory = (
        w,
        subst (λ (u : View). DoneBy orders schemes policies u calls answers w) c.new-inventory.ensures.memory done,
        (let lent = c.loop-call.invariant.1.0 in search rules),
        (let lent = c.loop-call.invariant.1.1 in search rules),
        (let lent = c.loop-call.invariant.1.2 in search rules),
      );
      answered = answered;
      right = fresh_runs_keep_the_promise c.args.sizes (length c.args.nodes.now) (length c.args.flows.now) (length c.args.workspace.now) _
          (all_bring orders schemes policies g.met.V.Vocabulary.lawful calls answers) answered;
    }

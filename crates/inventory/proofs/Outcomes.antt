-- From a call's checks and writes to what it promises.
use Rattle.std.proofs.Common.{◌≡◌, true, IsErrAnd, length, Some, None, Err, Option, Result, sym, ap, ◌∙◌, subst}
use Rattle.std.proofs.lemmas.Result.{err_from_is_err_and}
use Rattle.ledger.specs.Ledger.{Ledger, Call, declined, accepted, changing}
use Rattle.refusals.specs.declared.refusal.Refusal.{Refusal}
use Rattle.ledger.specs.Run.{Answer, refused, Given, Answered}
use Rattle.refusals.specs.declared.refusal.Refusal.{Refusal}
use Rattle.inventory.specs.declared.inventory.Inventory.{Inventory}
use Rattle.inventory.specs.View.{View, ledger_of, stored, written, Called}
use Rattle.inventory.specs.Sound.{Sound, GoodSizes, NodeRoom, FlowRoom, GoodNodes, GoodFlows, Apart, GoodRows, BoundedRows, SilentRows, SettledLabels}
use Rattle.inventory.specs.Inventories.{view}
use Rattle.inventory.specs.Checks.{refusal_of}
use Rattle.inventory.proofs.Declines.{declined_is}
use Rattle.inventory.proofs.Keeps.{keep}
use Rattle.inventory.proofs.Ledgers.{ledger_right}

pub sound : (s : Inventory) → Sound (view s)
sound s = record {
  sized = s.sized;
  node_fits = s.node_fits;
  flow_fits = s.flow_fits;
  nodes_good = s.nodes_good;
  flows_good = s.flows_good;
  flows_apart = s.flows_apart;
  rows_good = s.rows_good;
  rows_bounded = s.rows_bounded;
  rows_silent = s.rows_silent;
  labels_settled = s.labels_settled;
}

-- the ghost fields, as a check asks for them
abbrev pub Parts : View → Type 0
Parts v = record {
  sized : GoodSizes v.sizes;
  node_fits : NodeRoom v.nodes v.workspace v.node_count v.node_room;
  flow_fits : FlowRoom v.flows v.flow_count v.flow_room;
  nodes_good : GoodNodes v.sizes v.nodes v.node_count;
  flows_good : GoodFlows v.node_count (length v.steps) v.flows v.flow_count;
  flows_apart : Apart v.flows v.flow_count;
  rows_good : GoodRows v.sizes.types v.steps;
  rows_bounded : BoundedRows v.sizes.types v.steps;
  rows_silent : SilentRows v.sizes.types v.steps;
  labels_settled : SettledLabels v.nodes v.flows v.steps v.workspace v.node_count v.flow_count v.settled;
}

pub parts : (v : View) → Sound v → Parts v
parts v s = record {
  sized = s.sized;
  node_fits = s.node_fits;
  flow_fits = s.flow_fits;
  nodes_good = s.nodes_good;
  flows_good = s.flows_good;
  flows_apart = s.flows_apart;
  rows_good = s.rows_good;
  rows_bounded = s.rows_bounded;
  rows_silent = s.rows_silent;
  labels_settled = s.labels_settled;
}

-- what the ledger asks of an answer, by why the call is declined
abbrev AnsweredBy : Ledger → Call → Answer → Option Refusal → Type 0
AnsweredBy L c answer o = elim o [ Some r ↦ answer ≡ refused r | None ↦ Given L c answer ]

module _ (v : View) (s : Sound v) (c : Call) where
  pub refused_answer : (answer : Answer) (e : Refusal) → refusal_of v c ≡ Some e → answer ≡ refused e → Answered (ledger_of v) c answer
  refused_answer answer e h is = subst (AnsweredBy (ledger_of v) c answer) (sym (declined_is v s c ∙ h)) is

  pub given_answer : (answer : Answer) → refusal_of v c ≡ None → Given (ledger_of v) c answer → Answered (ledger_of v) c answer
  given_answer answer h is = subst (AnsweredBy (ledger_of v) c answer) (sym (declined_is v s c ∙ h)) is

  -- a declined call
  pub refuse : (answer : Answer) (e : Refusal) → refusal_of v c ≡ Some e → answer ≡ refused e → Called v v c answer
  unfolding written
  refuse answer e h is =
      let d : declined (ledger_of v) c ≡ Some e = declined_is v s c ∙ h in
      record {
        answered = refused_answer answer e h is;
        memory = sym (ap (λ o. elim o [ Some r ↦ v | None ↦ stored v c ]) d);
        ledger = sym (ap (λ o. elim o [ Some r ↦ ledger_of v | None ↦ accepted (ledger_of v) c ]) d);
      }

  -- an accepted one
  pub accept : (answer : Answer) (w : View) → changing c ≡ true → refusal_of v c ≡ None → Given (ledger_of v) c answer → w ≡ stored v c → Called v w c answer
  unfolding written
  accept answer w edits h given is =
      let d : declined (ledger_of v) c ≡ None = declined_is v s c ∙ h in
      record {
        answered = given_answer answer h given;
        memory = is ∙ sym (ap (λ o. elim o [ Some r ↦ v | None ↦ stored v c ]) d);
        ledger = ap ledger_of is ∙ ledger_right v s c edits h ∙ sym (ap (λ o. elim o [ Some r ↦ ledger_of v | None ↦ accepted (ledger_of v) c ]) d);
      }

  -- what it writes keeps the invariant
  pub still_sound : (w : View) → refusal_of v c ≡ None → w ≡ stored v c → Sound w
  still_sound w h is = subst Sound (sym is) (keep v s c h)

-- a call of the inventory i that its check declines: the exit of the `?`
pub exit : (i : Inventory) (c : Call) {A : Type 0} (f : Result A Refusal → Answer) → ((e : Refusal) → f (Err e) ≡ refused e)
    → (e : Refusal) (r : Result A Refusal) → Some e ≡ refusal_of (view i) c → IsErrAnd r (λ y. y ≡ e) → Called (view i) (view i) c (f r)
exit i c f at_err e r h by =
    let p = err_from_is_err_and r by in
    refuse (view i) (sound i) c (f r) e (sym h) (ap f (p.1 ∙ ap Err p.2) ∙ at_err e)

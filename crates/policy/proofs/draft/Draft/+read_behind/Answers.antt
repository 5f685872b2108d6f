use Rattle.std.proofs.Common.{◌-◌, ◌≤◌, length, sym, ◌≡◌, Err, ap, ◌∙◌, rules}
use Rattle.std.proofs.lemmas.Result.{err_from_is_err_and}
use Rattle.policy.specs.Walk.{closed}
use Rattle.policy.proofs.Steps.{along_start, along_none, along_fault, along_except, along_value, along_end, along_head_stops, along_head}
use Rattle.policy.proofs.draft.Draft.+read_behind.Goals as goal

pub loop-left-init : goal.loop-left-init
loop-left-init t c = record {
  shorter = search rules;
  along = along_start _ _ _ _ _ c.requires c.len-number.ensures.value _ c.inside-top.ensures _ c.opened-own.ensures _ c.push.ensures.items;
}

pub returns-in_err-word : goal.returns-in_err-word
returns-in_err-word t c =
    let some : 1 ≤ length c.loop-left.left.now = search rules in
    let p = err_from_is_err_and c.from_residual.result c.from_residual.ensures.1 in
    let e : c.admitted.result ≡ Err c.in_err-word.field-0.0.reason = search rules in
    let r : c.in_err-word.field-0.0 ≡ record { reason = c.in_err-word.field-0.0.reason; place = c.loop-left.self.total - length c.loop-left.left.now } = search rules in
    let h = along_fault _ _ _ _ _ _ _ _ _ c.loop-left.invariant.along some c.in_err-word.field-0.0.reason (sym c.admitted.ensures ∙ e) in
    rw (p.1, p.2, r) h

pub returns-in_err-left-in-Head : goal.returns-in_err-left-in-Head
returns-in_err-left-in-Head t c =
    let some : 1 ≤ length c.loop-left.left.now = search rules in
    let p = err_from_is_err_and c.from_residual-in_err-left-in-Head.result c.from_residual-in_err-left-in-Head.ensures.1 in
    let h = along_head_stops _ _ _ _ _ _ _ _ _ c.loop-left.invariant.along some c.in_ok-word.word (sym c.admitted.ensures ∙ search rules) c.in-Head.inner c.in-Head.is c.in_err-left-in-Head.field-0.0 c.read_behind.new.self c.in_err-left-in-Head.ensures in
    rw (p.1, p.2) h

pub loop-left-preserved-in-Head : goal.loop-left-preserved-in-Head
loop-left-preserved-in-Head t c =
    let some : 1 ≤ length c.loop-left.left.now = search rules in
    let more = along_head _ _ _ _ _ _ _ _ _ c.loop-left.invariant.along some c.in_ok-word.word (sym c.admitted.ensures ∙ search rules) c.in-Head.inner c.in-Head.is c.in_ok-left-in-Head.left.now c.read_behind.new.self c.in_ok-left-in-Head.ensures in
    record { shorter = search rules; along = more }

pub loop-left-preserved-in-Value : goal.loop-left-preserved-in-Value
loop-left-preserved-in-Value t c =
    let some : 1 ≤ length c.loop-left.left.now = search rules in
    record {
      shorter = search rules;
      along = along_value _ _ _ _ _ _ _ _ _ c.loop-left.invariant.along some c.in_ok-word.word (sym c.admitted.ensures ∙ search rules) c.in-Value.value.attribute c.in-Value.value.code c.in-Value.is c.insert.new.self c.insert.ensures;
    }

pub loop-left-preserved : goal.loop-left-preserved
loop-left-preserved t c =
    let some : 1 ≤ length c.loop-left.left.now = search rules in
    record {
      shorter = search rules;
      along = along_except _ _ _ _ _ _ _ _ _ c.loop-left.invariant.along some c.in_ok-word.word (sym c.admitted.ensures ∙ search rules) c.in-Except.is;
    }

pub returns-in-End : goal.returns-in-End
returns-in-End t c =
    let some : 1 ≤ length c.loop-left.left.now = search rules in
    along_end _ _ _ _ _ _ _ _ _ c.loop-left.invariant.along some c.in_ok-word.word (sym c.admitted.ensures ∙ search rules) c.in-End.is c.close.new.self (c.close.ensures ∙ ap (λ n. closed c.loop-left.self.sizes n c.loop-left.own) c.len.ensures.value) c.deref_mut.result.now c.deref_mut.ensures.value

pub returns : goal.returns
returns t c = rw c.at.ensures (along_none _ _ _ _ _ _ _ _ _ c.loop-left.invariant.along (search rules))

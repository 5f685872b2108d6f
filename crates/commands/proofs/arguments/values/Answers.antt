use Rattle.std.proofs.Common.{◌≡◌, ℕ, ◌+◌, true, false, ltb, List, [], ◌∷◌, ◌++◌, length, drop, Some, Ok, Err, Result, vec_items, sym, ap, ◌∙◌, append-nil, rules, arith, length-append, le-ltb, lt-ltb}
use Rattle.std.proofs.lemmas.List.{length_push, drop_all}
use Rattle.std.proofs.lemmas.Result.{err_from_is_err_and}
use Rattle.std.proofs.lemmas.Iterator.Consumers.{YieldsList-from_first, YieldsList-turn, YieldsList-end}
use Rattle.lexer.specs.Words.{words_of}
use Rattle.commands.specs.Values.{kind_at, values_from}
use Rattle.std.specs.Option.{ok_or}
use Rattle.commands.specs.declared.faults.Fault.{Fault}
use Rattle.commands.specs.declared.faults.Fault.TheVariants.{SurplusWord}
use Rattle.commands.specs.declared.verbs.Kind.{Kind}
use Rattle.commands.specs.Verbs.{kinds_of}
use Rattle.commands.proofs.Reading.{behind, behind_push, turn, surplus, faulty, further, missing, whole}
use Rattle.commands.proofs.arguments.values.Goals as goal

pub returns-in_err-kind : goal.returns-in_err-kind
returns-in_err-kind c =
    let items = vec_items c.loop-word.values in
    let all = words_of c.args.words.now in
    let n = length c.loop-word.yielded in
    let len : c.len.result ≡ length items = c.len.ensures ∙ c.loop-word.values.ok.0 in
    let here =
    YieldsList-turn (YieldsList-from_first (λ x. x.now) (λ rest. rest) all (search rules)) c.loop-word.yielded _ c.loop-word.yielded_by _ _ c.in-Some.word c.in-Some.is c.next.ensures.steps in
    let p = err_from_is_err_and c.from_residual.result c.from_residual.ensures.1 in
    let e : ◌≡◌ {A = Result Kind Fault} (Err c.in_err-kind.field-0.0) (Err SurplusWord) = c.in_err-kind.ensures.value ∙ ap (λ o. ok_or o SurplusWord) c.in_err-kind.ensures.ok_part in
    let fault : c.in_err-kind.field-0.0 ≡ SurplusWord = cc in
    rw (p.1, p.2, fault)
    (c.loop-word.invariant
    ∙ ap (behind items) (surplus c.args.verb (length items) _ _ _ (turn all n c.in-Some.word.now here) (sym c.in_err-kind.ensures.ok_part ∙ c.kind_at.ensures ∙ ap (kind_at c.args.verb) len)))

pub returns-in_err-value : goal.returns-in_err-value
returns-in_err-value c =
    let items = vec_items c.loop-word.values in
    let all = words_of c.args.words.now in
    let n = length c.loop-word.yielded in
    let len : c.len.result ≡ length items = c.len.ensures ∙ c.loop-word.values.ok.0 in
    let here =
    YieldsList-turn (YieldsList-from_first (λ x. x.now) (λ rest. rest) all (search rules)) c.loop-word.yielded _ c.loop-word.yielded_by _ _ c.in-Some.word c.in-Some.is c.next.ensures.steps in
    let kind : Some c.in_ok-kind.kind ≡ kind_at c.args.verb (length items) = sym c.in_ok-kind.ensures.ok_part ∙ c.kind_at.ensures ∙ ap (kind_at c.args.verb) len in
    let p = err_from_is_err_and c.from_residual-in_err-value.result c.from_residual-in_err-value.ensures.1 in
    rw (p.1, p.2)
    (c.loop-word.invariant ∙ ap (behind items) (faulty c.args.verb (length items) _ _ _ _ _ (turn all n c.in-Some.word.now here) kind c.in_err-value.ensures))

pub loop-word-preserved : goal.loop-word-preserved
loop-word-preserved c =
    let items = vec_items c.loop-word.values in
    let all = words_of c.args.words.now in
    let n = length c.loop-word.yielded in
    let len : c.len.result ≡ length items = c.len.ensures ∙ c.loop-word.values.ok.0 in
    let here =
    YieldsList-turn (YieldsList-from_first (λ x. x.now) (λ rest. rest) all (search rules)) c.loop-word.yielded _ c.loop-word.yielded_by _ _ c.in-Some.word c.in-Some.is c.next.ensures.steps in
    let kind : Some c.in_ok-kind.kind ≡ kind_at c.args.verb (length items) = sym c.in_ok-kind.ensures.ok_part ∙ c.kind_at.ensures ∙ ap (kind_at c.args.verb) len in
    let v = c.in_ok-value.field-0 in
    let rest = drop (n + 1) all in
    let more : items ++ (v ∷ []) ≡ vec_items c.push.new.self = sym c.in_ok-push.ensures.items in
    rw length_push
    (c.loop-word.invariant
    ∙ ap (behind items) (further c.args.verb (length items) _ _ _ _ v (turn all n c.in-Some.word.now here) kind c.in_ok-value.ensures)
    ∙ behind_push items v _
    ∙ ap (λ (k : ℕ). behind (items ++ (v ∷ [])) (values_from c.args.verb k rest)) (sym (length-append items (v ∷ [])))
    ∙ ap (λ (l : List ℕ). behind l (values_from c.args.verb (length l) rest)) more)

pub returns-then-len-kinds : goal.returns-then-len-kinds
returns-then-len-kinds c =
    let items = vec_items c.loop-word.values in
    let all = words_of c.args.words.now in
    let len : c.len-2.result ≡ length items = c.len-2.ensures ∙ c.loop-word.values.ok.0 in
    let over =
    YieldsList-end (YieldsList-from_first (λ x. x.now) (λ rest. rest) all (search rules)) c.loop-word.yielded _ c.loop-word.yielded_by _ _ c.in-None.is c.next.ensures.steps in
    let none : drop (length c.loop-word.yielded) all ≡ [] = drop_all (length c.loop-word.yielded) all (omega (arith, over.1)) in
    let short : ltb (length items) (length (kinds_of c.args.verb)) ≡ true =
    lt-ltb _ _ (omega (arith, len, c.if-len-kinds.true, ap length c.kinds.ensures)) in
    c.loop-word.invariant ∙ ap (behind items) (missing c.args.verb (length items) _ none short)

pub returns : goal.returns
returns c =
    let items = vec_items c.loop-word.values in
    let all = words_of c.args.words.now in
    let len : c.len-2.result ≡ length items = c.len-2.ensures ∙ c.loop-word.values.ok.0 in
    let over =
    YieldsList-end (YieldsList-from_first (λ x. x.now) (λ rest. rest) all (search rules)) c.loop-word.yielded _ c.loop-word.yielded_by _ _ c.in-None.is c.next.ensures.steps in
    let none : drop (length c.loop-word.yielded) all ≡ [] = drop_all (length c.loop-word.yielded) all (omega (arith, over.1)) in
    let long : ltb (length items) (length (kinds_of c.args.verb)) ≡ false =
    le-ltb _ _ (omega (arith, len, c.if-len-kinds.false, ap length c.kinds.ensures)) in
    c.loop-word.invariant ∙ ap (behind items) (whole c.args.verb (length items) _ none long) ∙ ap (λ (l : List ℕ). Ok l) (append-nil items)

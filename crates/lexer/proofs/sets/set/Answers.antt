-- Each piece goes into the set, or is at fault.
use Rattle.std.proofs.Common.{◌≡◌, ◌*◌, ◌%◌, ◌^◌, ◌≤◌, eqb, true, false, length, Ok, bit_or, rules, sym, ap, ◌∙◌, arith}
use Rattle.std.specs.Cmp.Lexicographic.{pointwise}
use Rattle.std.proofs.lemmas.List.{length_push, drop_all}
use Rattle.std.proofs.lemmas.Result.{err_from_is_err_and}
use Rattle.std.proofs.lemmas.Iterator.Splits.{YieldsList-from_slice_split}
use Rattle.std.proofs.lemmas.Iterator.Consumers.{YieldsList-turn, YieldsList-end}
use borrow.Author.Tests.{tests}
use Rattle.lexer.specs.Numbers.{number_of}
use Rattle.lexer.specs.Sets.{is_dash, set_of, gather, pieces, with_value}
use Rattle.lexer.proofs.Values.{up_to_most}
use Rattle.lexer.proofs.Gathers.{gather_none, dash_is, set_more, set_fault, set_from, set_none}
use Rattle.lexer.proofs.SetLaws.{set_members}
use Rattle.lexer.proofs.sets.set.Goals as goal

pub returns-then-eq : goal.returns-then-eq
returns-then-eq c =
    let word = c.args.word.now in
    let dash : is_dash word ≡ true = sym (dash_is word) ∙ sym (c.if-eq.ensures ∙ ap (pointwise eqb word) c.as_slice.ensures) in
    let e = set_none word dash in record { value = e; members = set_members word _ e }

pub returns-in_err-found : goal.returns-in_err-found
returns-in_err-found c =
    let word = c.args.word.now in
    let plain : is_dash word ≡ false = sym (dash_is word) ∙ sym (c.if-eq.ensures ∙ ap (pointwise eqb word) c.as_slice.ensures) in
    let turn =
    YieldsList-turn (YieldsList-from_slice_split _ (λ b. eqb b 44) word (search rules) (search rules) (search rules) (λ x b q k. search (rules, tests)))
    c.loop-piece.yielded _ c.loop-piece.yielded_by _ _ c.in-Some.piece c.in-Some.is c.next.ensures.steps in
    let p = err_from_is_err_and c.from_residual.result c.from_residual.ensures.1 in
    let e : c.from_residual.result ≡ set_of word =
    rw (p.1, p.2)
    (set_from word _ plain
    (set_fault c.loop-piece.found (length c.loop-piece.yielded) (pieces word) c.in-Some.piece.now turn c.in_err-found.field-0.0 c.in_err-found.ensures ∙ c.loop-piece.invariant)) in
    record { value = e; members = set_members word c.from_residual.result e }

pub loop-piece-preserved : goal.loop-piece-preserved
loop-piece-preserved c =
    let word = c.args.word.now in
    let v = c.in_ok-found.field-0 in
    let turn =
    YieldsList-turn (YieldsList-from_slice_split _ (λ b. eqb b 44) word (search rules) (search rules) (search rules) (λ x b q k. search (rules, tests)))
    c.loop-piece.yielded _ c.loop-piece.yielded_by _ _ c.in-Some.piece c.in-Some.is c.next.ensures.steps in
    let small : v ≤ 63 = up_to_most 63 v (number_of c.in-Some.piece.now) c.in_ok-found.ensures in
    let shifted : bit_or c.loop-piece.found (1 * 2 ^ v % 18446744073709551616) ≡ with_value c.loop-piece.found v = search rules in
    rw length_push
    (set_more c.loop-piece.found (length c.loop-piece.yielded) (pieces word) c.in-Some.piece.now turn v _ shifted c.in_ok-found.ensures ∙ c.loop-piece.invariant)

pub returns : goal.returns
returns c =
    let word = c.args.word.now in
    let found = c.loop-piece.found in
    let plain : is_dash word ≡ false = sym (dash_is word) ∙ sym (c.if-eq.ensures ∙ ap (pointwise eqb word) c.as_slice.ensures) in
    let over =
    YieldsList-end (YieldsList-from_slice_split _ (λ b. eqb b 44) word (search rules) (search rules) (search rules) (λ x b q k. search (rules, tests)))
    c.loop-piece.yielded _ c.loop-piece.yielded_by _ _ c.in-None.is c.next.ensures.steps in
    let e : Ok found ≡ set_of word =
    set_from word _ plain
    (sym (gather_none found) ∙ sym (ap (gather found) (drop_all (length c.loop-piece.yielded) (pieces word) (omega (arith, over.1)))) ∙ c.loop-piece.invariant) in
    record { value = e; members = set_members word _ e }

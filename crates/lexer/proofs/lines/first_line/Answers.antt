-- The first line ends before the first newline, or at the end of the text.
use Rattle.std.proofs.Common.{◌≡◌, eqb, rules, sym, arith}
use Rattle.std.specs.List.{position}
use Rattle.std.proofs.lemmas.Iterator.{YieldsList-from_slice}
use Rattle.std.proofs.lemmas.Iterator.Search.{position_from_yields_List}
use Rattle.std.proofs.lemmas.List.{take_rest, nil_from_length}
use Rattle.std.proofs.lemmas.Bool.{eqb-true, eqb-false}
use borrow.Author.Tests.{tests}
use Rattle.lexer.proofs.Positions.{found, missed}
use Rattle.lexer.proofs.LineCuts.{line_none, line_cut, line_whole}
use Rattle.lexer.proofs.lines.first_line.Goals as goal

pub returns-then-is_empty-clause-line : goal.returns-then-is_empty-clause-line
returns-then-is_empty-clause-line c = rw (nil_from_length _ (eqb-true _ 0 (sym c.if-is_empty.ensures))) line_none

pub returns-in-Some-clause-line : goal.returns-in-Some-clause-line
returns-in-Some-clause-line c =
    let is : c.position.result ≡ position (λ b. eqb b 10) c.args.text.now =
    position_from_yields_List (λ b. eqb b 10) _ _ c.position.result c.position.ensures.ran (YieldsList-from_slice c.args.text.now cc) (λ x b q k. search (rules, tests)) in
    let h = found (λ b. eqb b 10) c.args.text.now c.position.result is c.in-Some.end c.in-Some.is in
    rw (take_rest) (line_cut c.args.text.now c.in-Some.end h.0 h.1)

pub returns-in-None-clause-line : goal.returns-in-None-clause-line
returns-in-None-clause-line c =
    let is : c.position.result ≡ position (λ b. eqb b 10) c.args.text.now =
    position_from_yields_List (λ b. eqb b 10) _ _ c.position.result c.position.ensures.ran (YieldsList-from_slice c.args.text.now cc) (λ x b q k. search (rules, tests)) in
    line_whole c.args.text.now (omega (arith, eqb-false _ 0 (sym c.if-is_empty.ensures))) (missed (λ b. eqb b 10) c.args.text.now c.position.result is c.in-None.is)

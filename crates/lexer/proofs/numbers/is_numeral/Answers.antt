use Rattle.std.proofs.Common.{◌≡◌, ltb, length, rules, sym, ◌∙◌, arith}
use Rattle.std.specs.Char.{digit_value}
use Rattle.std.specs.List.{list_all}
use Rattle.std.proofs.lemmas.Iterator.{YieldsList-from_slice}
use Rattle.std.proofs.lemmas.Iterator.Search.{all_from_yields_List}
use Rattle.std.proofs.lemmas.Bool.{eqb-false, lt-ltb}
use borrow.Author.Tests.{tests}
use Rattle.lexer.proofs.numbers.is_numeral.Goals as goal

pub returns-then-not-is_empty : goal.returns-then-not-is_empty
returns-then-not-is_empty c =
    let ds = c.args.digits.now in
    let is : c.all.result ≡ list_all (λ d. ltb (digit_value d) c.args.base) ds =
    all_from_yields_List (λ d. ltb (digit_value d) c.args.base) _ _ c.all.result c.all.ensures.ran (YieldsList-from_slice ds cc) (λ x b q k. search (rules, tests)) in
    rw (lt-ltb 0 (length ds) (omega (arith, eqb-false _ 0 (sym c.is_empty.ensures ∙ c.if-not-is_empty.true)))) is

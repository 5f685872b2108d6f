-- A word is read in the base that its front marks.
use Rattle.std.proofs.Common.{sym, ap, ◌∙◌}
use Rattle.lexer.specs.Numbers.{in_base, up_to}
use Rattle.lexer.proofs.Values.{mark_is, marked_number, plain_number}
use Rattle.lexer.proofs.numbers.number.Goals as goal

pub returns-in-Some : goal.returns-in-Some
returns-in-Some c =
    marked_number c.args.word.now c.args.most _ (sym (mark_is c.args.word.now) ∙ c.in-Some.ensures.cases.0)
    (c.number_in.ensures ∙ ap (λ ds. up_to c.args.most (in_base 16 ds)) c.in-Some.ensures.cases.1)

pub returns-in-None : goal.returns-in-None
returns-in-None c =
    plain_number c.args.word.now c.args.most _ (sym (mark_is c.args.word.now) ∙ c.in-None.ensures.cases) c.number_in-in-None.ensures

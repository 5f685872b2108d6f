-- The library's number is the number that the digits write.
use Rattle.std.proofs.Common.{sym, arith}
use Rattle.lexer.proofs.Values.{digits_text, read_fits, read_passes, read_fails}
use Rattle.lexer.proofs.numbers.number_in.Goals as goal

pub returns-in_default : goal.returns-in_default
returns-in_default c =
    absurd (c.in_default.ensures.cases.0 (digits_text c.args.base c.requires.greatest c.args.digits.now (sym c.if-not-is_numeral.ensures)))

pub returns-in-Ok-from_str_radix : goal.returns-in-Ok-from_str_radix
returns-in-Ok-from_str_radix c =
    read_fits c.args.base c.requires.greatest c.args.digits.now (sym c.if-not-is_numeral.ensures) c.args.most c.in-Ok.text.now c.in-Ok.ensures.cases.0
    c.in-Ok-from_str_radix.number c.in-Ok-from_str_radix.ensures.value.1 c.if-number-most.true

pub returns-in_default-from_str_radix : goal.returns-in_default-from_str_radix
returns-in_default-from_str_radix c =
    read_passes c.args.base c.requires.greatest c.args.digits.now (sym c.if-not-is_numeral.ensures) c.args.most c.in-Ok.text.now c.in-Ok.ensures.cases.0
    c.in-Ok-from_str_radix.number c.in-Ok-from_str_radix.ensures.value.1 c.if-number-most.false

pub returns-in_default-from_str_radix-2 : goal.returns-in_default-from_str_radix-2
returns-in_default-from_str_radix-2 c =
    read_fails c.args.base c.requires.greatest c.args.digits.now (sym c.if-not-is_numeral.ensures) c.args.most c.in-Ok.text.now c.in-Ok.ensures.cases.0
    (omega (arith, c.ranges.most)) c.in_default-from_str_radix.ensures.value

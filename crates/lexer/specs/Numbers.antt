-- Numbers: number_of, up_to, fault_words.
use Rattle.std.specs.Prelude.{ℕ, Bool, cond, ◌&&◌, List, drop, Some, None, Ok, Err, codes, Option, Result, ◌==◌, nat_le, nat_lt, slice_index}
use Rattle.std.specs.Str.Parse.{digits_value}
use Rattle.std.specs.Char.{digit_value}
use Rattle.lexer.specs.Classes.{one_or_more}
use Rattle.lexer.specs.declared.numbers.NumberFault.{NumberFault}
use Rattle.lexer.specs.declared.numbers.NumberFault.TheVariants.{NotANumber, TooLarge}

-- the fault in plain words
abbrev pub fault_words : NumberFault → List ℕ
fault_words NotANumber = codes "a word is not a number"
fault_words TooLarge = codes "a number is too large"

-- the number that one or more digits of a base write, of any size
abbrev pub in_base : ℕ → List ℕ → Option ℕ
in_base base digits = cond (one_or_more (λ d. nat_lt (digit_value d) base) digits) (Some (digits_value base digits)) None

-- a '0' (48) and an 'x' (120) stand in front
abbrev pub is_marked : List ℕ → Bool
is_marked word = slice_index word 0 == 48 && slice_index word 1 == 120

-- hexadecimal digits after 0x, or decimal digits
unfoldable pub number_of : List ℕ → Option ℕ
number_of word = cond (is_marked word) (in_base 16 (drop 2 word)) (in_base 10 word)

-- a number of at most `most`, or what is wrong with it
abbrev pub up_to : ℕ → Option ℕ → Result ℕ NumberFault
up_to most None = Err NotANumber
up_to most (Some n) = cond (nat_le n most) (Ok n) (Err TooLarge)

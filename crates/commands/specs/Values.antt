-- The arguments of a command, by the words after it. Assumes nothing.
--   value_of    the value of a word as an argument of a kind, or what is wrong with it
--   kind_at     the kind of an argument, by its number
--   values_of   the values of all words, or the fault of the first word at fault
use Rattle.std.specs.Prelude.{ℕ, ◌+◌, cond, List, [], ◌∷◌, length, Some, None, Ok, Err, codes, Option, Result, nat_lt, slice_index_or}
use Rattle.std.specs.Str.{bytes_eq}
use Rattle.lexer.specs.declared.numbers.NumberFault.{NumberFault}
use Rattle.lexer.specs.declared.numbers.NumberFault.TheVariants as number_faults
use Rattle.lexer.specs.Names.{name_is}
use Rattle.lexer.specs.Numbers.{number_of, up_to}
use Rattle.lexer.specs.Sets.{set_of}
use Rattle.commands.specs.declared.faults.Fault.{Fault}
use Rattle.commands.specs.declared.faults.Fault.TheVariants.{TooLarge, NotAName, NotASet, NotYesOrNo, MissingWord, SurplusWord}
use Rattle.commands.specs.Faults.{no_number}
use Rattle.commands.specs.declared.verbs.Verb.{Verb}
use Rattle.commands.specs.declared.verbs.Kind.{Kind}
use Rattle.commands.specs.declared.verbs.Kind.TheVariants.{Name, Number, Word, Byte, Room, Set, YesOrNo}
use Rattle.commands.specs.Verbs.{kinds_of, more_of}

-- what is wrong with a word that should be a set
abbrev pub no_set : NumberFault → Fault
no_set number_faults.NotANumber = NotASet
no_set number_faults.TooLarge = TooLarge

abbrev pub faulted : (NumberFault → Fault) → Result ℕ NumberFault → Result ℕ Fault
faulted f (Ok n) = Ok n
faulted f (Err e) = Err (f e)

abbrev pub numeric : ℕ → List ℕ → Result ℕ Fault
numeric most word = faulted no_number (up_to most (number_of word))

-- a name has the value 0, yes 1 and no 0
abbrev pub value_of : Kind → List ℕ → Result ℕ Fault
value_of Name word = cond (name_is word) (Ok 0) (Err NotAName)
value_of Number word = numeric 18446744073709551615 word
value_of Word word = numeric 4294967295 word
value_of Byte word = numeric 255 word
value_of Room word = numeric 262144 word
value_of Set word = faulted no_set (set_of word)
value_of YesOrNo word = cond (bytes_eq word (codes "yes")) (Ok 1) (cond (bytes_eq word (codes "no")) (Ok 0) (Err NotYesOrNo))

abbrev pub kind_at : Verb → ℕ → Option Kind
kind_at verb at = cond (nat_lt at (length (kinds_of verb))) (Some (slice_index_or (kinds_of verb) at Name)) (more_of verb at)

abbrev pub in_front : ℕ → Result (List ℕ) Fault → Result (List ℕ) Fault
in_front n (Ok ns) = Ok (n ∷ ns)
in_front n (Err f) = Err f

-- the arguments from number `at` on
unfoldable pub values_from : Verb → ℕ → List (List ℕ) → Result (List ℕ) Fault
values_from verb at [] = cond (nat_lt at (length (kinds_of verb))) (Err MissingWord) (Ok [])
values_from verb at (word ∷ words) =
    elim (kind_at verb at) [
      | None ↦ Err SurplusWord
      | Some kind ↦ elim (value_of kind word) [ Err f ↦ Err f | Ok n ↦ in_front n (values_from verb (at + 1) words) ]
    ]

abbrev pub values_of : Verb → List (List ℕ) → Result (List ℕ) Fault
values_of verb words = values_from verb 0 words

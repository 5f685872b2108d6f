-- Sets of values below 64: has_value, with_value, pieces, gather, set_of, Members.
use Rattle.std.specs.Prelude.{◌≡◌, ℕ, ◌/◌, ◌%◌, ◌^◌, Bool, cond, ◌&&◌, ◌⊎◌, List, [], ◌∷◌, length, Some, Ok, Err, Decides, Result, ◌==◌, bit_or, slice_index}
use Rattle.std.specs.List.{slice_split}
use Rattle.lexer.specs.Numbers.{number_of, up_to}
use Rattle.lexer.specs.declared.numbers.NumberFault.{NumberFault}

-- A set is a number: bit v is set where value v is in the set.
abbrev pub has_value : ℕ → ℕ → Bool
has_value found v = found / 2 ^ v % 2 == 1

-- value v is put in
abbrev pub with_value : ℕ → ℕ → ℕ
with_value found v = bit_or found (2 ^ v)

-- what stands between commas (44)
abbrev pub pieces : List ℕ → List (List ℕ)
pieces word = slice_split (λ b. b == 44) word

-- the numbers of the pieces, put into a set; or what is wrong with the first piece that is no number of at most 63
unfoldable pub gather : ℕ → List (List ℕ) → Result ℕ NumberFault
gather found [] = Ok found
gather found (piece ∷ rest) = elim (up_to 63 (number_of piece)) [ Ok v ↦ gather (with_value found v) rest | Err fault ↦ Err fault ]

-- the word is '-' (45)
abbrev pub is_dash : List ℕ → Bool
is_dash word = length word == 1 && slice_index word 0 == 45

unfoldable pub set_of : List ℕ → Result ℕ NumberFault
set_of word = cond (is_dash word) (Ok 0) (gather 0 (pieces word))

-- v is the number of one of the pieces
abbrev pub Among : ℕ → List (List ℕ) → Type 0
Among v [] = ⊥
Among v (piece ∷ rest) = (number_of piece ≡ Some v) ⊎ Among v rest

-- the values of the set are the numbers that stand between the commas of the word ('-' is no number)
abbrev pub Members : ℕ → List ℕ → Type 0
Members found word = (v : ℕ) → Decides (has_value found v) (Among v (pieces word))

-- The words of a line: words_of, IsWord.
use Rattle.std.specs.Prelude.{ℕ, ◌<◌, Bool, false, cond, ◌≢◌, List, [], ◌∷◌, length, ◌==◌}
use Rattle.std.specs.List.{AllByRecursion, onto_first}
use Rattle.lexer.specs.Classes.{in_word}

abbrev pub begins_word : List ℕ → Bool
begins_word [] = false
begins_word (b ∷ bs) = in_word b

-- A byte of a word goes in front of the first word of what follows, where that goes on at once, and else is a word of its own.
-- A '#' (35) ends the line, and a blank is passed over.
unfoldable pub words_of : List ℕ → List (List ℕ)
words_of [] = []
words_of (b ∷ bs) =
    cond (in_word b) (cond (begins_word bs) (onto_first b (words_of bs)) ((b ∷ []) ∷ words_of bs)) (cond (b == 35) [] (words_of bs))

-- not empty, and without space, tab, carriage return and '#'
abbrev pub IsWord : List ℕ → Type 0
IsWord word = (0 < length word) × AllByRecursion (λ b. (b ≢ 32) × (b ≢ 9) × (b ≢ 13) × (b ≢ 35)) word

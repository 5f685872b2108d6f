-- What a number of 32 bits says as a word, if it is one. Assumes nothing.
use Rattle.std.specs.Prelude.{ℕ, ◌/◌, ◌%◌, ◌^◌, cond, Some, None, Option, ◌==◌}
use Rattle.policy.specs.declared.clause.Kind.TheVariants.{Allow, Deny}
use Rattle.policy.specs.declared.word.Word.{Word}
use Rattle.policy.specs.declared.word.Word.TheVariants.{Head, Value, Except, End}

abbrev pub plain : ℕ → Word → Option Word
plain w x = cond (w % 2 ^ 28 == 0) (Some x) None

abbrev pub value : ℕ → ℕ → Word
value a c = Value (record { attribute = a; code = c })

abbrev pub value_word_of : ℕ → Option Word
value_word_of w = cond ((w / 2 ^ 8) % 2 ^ 16 == 0) (Some (value ((w / 2 ^ 24) % 2 ^ 4) (w % 2 ^ 8))) None

abbrev pub word_of : ℕ → Option Word
word_of w =
    cond (w / 2 ^ 28 == 1) (plain w (Head Allow))
    (cond (w / 2 ^ 28 == 2) (plain w (Head Deny))
    (cond (w / 2 ^ 28 == 3) (value_word_of w)
    (cond (w / 2 ^ 28 == 4) (plain w Except)
    (cond (w / 2 ^ 28 == 5) (plain w End) None))))

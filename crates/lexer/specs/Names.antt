-- Names: name_is.
use Rattle.std.specs.Prelude.{ℕ, Bool, List}
use Rattle.lexer.specs.Classes.{in_name, one_or_more}

-- one or more letters, digits and '-'
abbrev pub name_is : List ℕ → Bool
name_is word = one_or_more in_name word

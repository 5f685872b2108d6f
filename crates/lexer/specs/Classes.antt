-- Kinds of bytes: is_blank, in_word, in_name, one_or_more.
use Rattle.std.specs.Prelude.{ℕ, Bool, not, ◌&&◌, ◌||◌, List, length, ◌==◌, nat_lt}
use Rattle.std.specs.Char.{digit_value}
use Rattle.std.specs.List.{list_all}

-- space, tab and carriage return
abbrev pub is_blank : ℕ → Bool
is_blank b = b == 32 || (b == 9 || b == 13)

-- neither blank nor '#'
abbrev pub in_word : ℕ → Bool
in_word b = not (is_blank b || b == 35)

-- a letter, a digit or '-' (the value of a digit or a letter is below 36, and that of no other byte is)
abbrev pub in_name : ℕ → Bool
in_name b = nat_lt (digit_value b) 36 || b == 45

abbrev pub one_or_more : (ℕ → Bool) → List ℕ → Bool
one_or_more p bs = nat_lt 0 (length bs) && list_all p bs

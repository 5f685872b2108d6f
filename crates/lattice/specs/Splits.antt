-- The parts of two values of a pair. Assumes nothing.
use Rattle.std.specs.Prelude.{ℕ, ◌-◌, ◌&&◌, cond, Some, None, Option, nat_lt}
use Rattle.lattice.specs.Order.{Order}
use Rattle.lattice.specs.Codes.{left_part, right_part}
use Rattle.lattice.specs.declared.pair.Parts.{Parts}

abbrev pub parts_of : Order → ℕ → Parts
parts_of second c = record { left = left_part (second.size - 1) c; right = right_part (second.size - 1) c }

-- absent where one is not below the size
abbrev pub split_of : Order → ℕ → ℕ → ℕ → Option (Parts × Parts)
split_of second size a b = cond (nat_lt a size && nat_lt b size) (Some (parts_of second a, parts_of second b)) None

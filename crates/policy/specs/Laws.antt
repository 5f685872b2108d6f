-- The words that the laws of clauses are stated in. Assumes nothing.
use Rattle.std.specs.Prelude.{◌≡◌, ℕ, ◌<◌, true}
use Rattle.lattice.specs.Sets.{has}

-- each value of d is in e
abbrev pub Subset : ℕ → ℕ → Type 0
Subset d e = (v : ℕ) → v < 64 → has d v ≡ true → has e v ≡ true

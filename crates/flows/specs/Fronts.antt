-- The nodes whose sets of values are not empty, listed.
use Rattle.std.specs.Prelude.{◌≡◌, ℕ, zero, suc, ◌<◌, ◌≢◌, List, length, sum_by, slice_index}

-- 1 for a set that has values, and 0 for one that has none
abbrev pub some : ℕ → ℕ
some zero = 0
some (suc s) = 1

-- all nodes have the empty set
pub record Empty (sets : List ℕ) : Type 0 where
  pub long : length sets ≡ 4096
  pub none : (n : ℕ) → slice_index sets n ≡ 0

-- the nodes in the list are those whose sets are not empty
pub record Lists (sets nodes : List ℕ) : Type 0 where
  pub long : length sets ≡ 4096
  pub there : (n : ℕ) → slice_index sets n ≢ 0 → (j : ℕ) × (j < length nodes) × (slice_index nodes j ≡ n)
  pub within : (j : ℕ) → j < length nodes → slice_index sets (slice_index nodes j) ≢ 0

-- the same, and each stands there once
pub record Listed (sets nodes : List ℕ) : Type 0 where
  pub lists : Lists sets nodes
  pub once : length nodes ≡ sum_by some sets

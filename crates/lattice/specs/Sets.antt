-- Sets of values as numbers: bit v of the number says that value v is in the set. Assumes nothing.
use Rattle.std.specs.Prelude.{ℕ, zero, suc, ◌+◌, ◌-◌, ◌/◌, ◌%◌, ◌^◌, Bool, true, false, cond, not, ◌&&◌, ◌||◌, Some, None, Option, ◌==◌, nat_lt, List}
use Rattle.std.specs.List.{filter, range_with_len}

-- value v is in the set s
unfoldable pub has : ℕ → ℕ → Bool
has s v = (s / 2 ^ v) % 2 == 1

-- s with v in it, and s without it
unfoldable pub with : ℕ → ℕ → ℕ
with s v = cond (has s v) s (s + 2 ^ v)

unfoldable pub without : ℕ → ℕ → ℕ
without s v = cond (has s v) (s - 2 ^ v) s

-- s with v in it where a set can have v: no set has a value at or above 64
abbrev pub inserted : ℕ → ℕ → ℕ
inserted s v = cond (nat_lt v 64) (with s v) s

-- the values of s, rising
unfoldable pub values_of : ℕ → List ℕ
values_of s = filter (has s) (range_with_len 0 64)

-- the test p holds of every number below n; of some number below n
unfoldable pub every : (ℕ → Bool) → ℕ → Bool
every p zero = true
every p (suc n) = every p n && p n

unfoldable pub some_below : (ℕ → Bool) → ℕ → Bool
some_below p zero = false
some_below p (suc n) = some_below p n || p n

-- the least number below n of which p holds
unfoldable pub least : (ℕ → Bool) → ℕ → Option ℕ
least p zero = None
least p (suc n) = elim (least p n) [ Some k ↦ Some k | None ↦ cond (p n) (Some n) None ]

-- every value of the set s passes the test p; some value does.
unfoldable pub all_of : ℕ → (ℕ → Bool) → Bool
all_of s p = every (λ v. not (has s v) || p v) 64

unfoldable pub some_of : ℕ → (ℕ → Bool) → Bool
some_of s p = some_below (λ v. has s v && p v) 64

-- the values of s below n, taken in rising order into the result by f
unfoldable pub gather : {A : Type 0} → (A → ℕ → A) → A → ℕ → ℕ → A
gather f start s zero = start
gather f start s (suc n) = let before = gather f start s n in cond (has s n) (f before n) before

-- the set of f v for each v of s
unfoldable pub image : (ℕ → ℕ) → ℕ → ℕ
image f s = gather (λ made v. with made (f v)) 0 s 64

-- Sums of a function over the numbers below a bound.
use Rattle.std.proofs.Common.{◌≡◌, ℕ, zero, suc, ◌*◌, ◌<◌, ◌≤◌, ◌≢◌, refl, ap, mul-suc, arith}
use native.Mathlib.Decide.{ℕ_discrete}
use Rattle.flows.specs.Rounds.{sum_below}

pub sum_same : (g h : ℕ → ℕ) (k : ℕ) → ((i : ℕ) → i < k → h i ≡ g i) → sum_below k h ≡ sum_below k g
sum_same g h zero same = refl
sum_same g h (suc k) same = omega (arith, sum_same g h k (λ i l. same i (omega arith)), same k (omega arith))

-- one more at one place
pub sum_more : (g h : ℕ → ℕ) (k b : ℕ) → b < k → h b ≡ suc (g b) → ((i : ℕ) → i ≢ b → h i ≡ g i)
    → sum_below k h ≡ suc (sum_below k g)
sum_more g h zero b l here same = absurd (omega arith)
sum_more g h (suc k) b l here same = go (λ below. sum_more g h k b below here same) (ℕ_discrete b k)
  where
    go : (b < k → sum_below k h ≡ suc (sum_below k g)) → Dec (b ≡ k) → sum_below (suc k) h ≡ suc (sum_below (suc k) g)
    go rest (yes e) = omega (arith, sum_same g h k (λ i below. same i (omega arith)), here, ap h e, ap g e)
    go rest (no ne) = omega (arith, rest (omega arith), same k (omega arith))

pub sum_bound : (g : ℕ → ℕ) (k m : ℕ) → ((i : ℕ) → i < k → g i ≤ m) → sum_below k g ≤ m * k
sum_bound g zero m each = omega arith
sum_bound g (suc k) m each = omega (arith, mul-suc m k, sum_bound g k m (λ i l. each i (omega arith)), each k (omega arith))

-- What a policy in memory means, and what reading words does to it. Assumes nothing.
--   Policy      the sizes that a policy is for, and its clause
--   policy_of   what a policy in memory means
--   starting    the policy before any words are read: one DENY without values, for lattices of two values
--   Spells      the words are those of this clause, and of no other
--   Takes       what reading words does
use Rattle.std.specs.Prelude.{◌≡◌, ℕ, List, Some, None, Ok, Err, Result, ◌≢◌}
use Rattle.lattice.specs.declared.sizes.Sizes.{Sizes}
use Rattle.refusals.specs.declared.refusal.Refusal.{Refusal}
use Rattle.policy.specs.declared.policy.Policy.{Policy as Held}
use Rattle.policy.specs.Clauses.{Clause, deny, none}
use Rattle.policy.specs.Records.{tree}
use Rattle.policy.specs.Words.{Written, spelled, meaning, words_fault}
use Rattle.policy.specs.Walk.{empty}

pub record Policy : Type 0 where
  pub sizes : Sizes
  pub clause : Clause

abbrev pub policy_of : Held → Policy
policy_of p = record { sizes = p.sizes; clause = tree p.clauses.items 0 }

abbrev pub twos : Sizes
twos = record { store = 2; purpose = 2; role = 2; types = 2 }

abbrev pub starting : Policy
starting = record { sizes = twos; clause = meaning twos (deny empty none) }

pub record Spells (z : Sizes) (ws : List ℕ) (c : Clause) : Type 0 where
  pub written : Written z c
  pub words : spelled c ≡ ws
  pub only : (d : Clause) → Written z d → spelled d ≡ ws → d ≡ c

-- Words are taken exactly where they spell a policy, and then the policy is what they mean.
-- They are refused exactly where they spell none, with the first fault's reason and place, and then the policy is as it was.
abbrev pub Takes : Sizes → List ℕ → Held → Result (Unit {0}) Refusal → Held → Type 0
Takes z ws p (Ok _) q = (words_fault z ws ≡ None) × ((c : Clause) × Spells z ws c × (policy_of q ≡ record { sizes = z; clause = meaning z c }))
Takes z ws p (Err x) q = (words_fault z ws ≡ Some x) × ((c : Clause) → Written z c → spelled c ≢ ws) × (q ≡ p)

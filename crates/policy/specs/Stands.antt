-- What a policy's records are, once its words are read. Assumes nothing.
use Rattle.std.specs.Prelude.{◌≡◌, ℕ, List, length, Some, None, Ok, Err, Result}
use Rattle.lattice.specs.declared.sizes.Sizes.{Sizes}
use Rattle.policy.specs.declared.clause.ClauseRecord.{ClauseRecord}
use Rattle.policy.specs.declared.draft.Draft.{Draft}
use Rattle.refusals.specs.declared.refusal.Refusal.{Refusal}
use Rattle.policy.specs.Clauses.{Clause, clause_count}
use Rattle.policy.specs.Words.{Written, spelled, meaning, words_fault}
use Rattle.policy.specs.Laid.{LaidClause}

-- the records stand for the clause that the words spell
pub record Stands (z : Sizes) (ws : List ℕ) (rs : List ClauseRecord) : Type 0 where
  pub clause : Clause
  pub written : Written z clause
  pub words : spelled clause ≡ ws
  pub laid : LaidClause rs 0 (meaning z clause)
  pub count : length rs ≡ clause_count clause

abbrev pub Drafted : Sizes → List ℕ → Result Draft Refusal → Type 0
Drafted z ws (Ok d) = Stands z ws d.clauses.items × (words_fault z ws ≡ None) × (d.sizes ≡ z)
Drafted z ws (Err x) = words_fault z ws ≡ Some x

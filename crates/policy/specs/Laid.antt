-- When a clause stands in records, numbered by their heads. Assumes nothing.
use Rattle.std.specs.Prelude.{◌≡◌, ℕ, ◌+◌, List}
use Rattle.policy.specs.declared.clause.Kind.TheVariants.{Allow, Deny}
use Rattle.policy.specs.declared.clause.ClauseRecord.{ClauseRecord}
use Rattle.policy.specs.Clauses.{Clause, Clauses, allow, deny, none, more, clause_count, clauses_count}
use Rattle.policy.specs.Records.{record_at}

-- the clause stands in the records from number n on
abbrev mutual
  pub LaidClause : List ClauseRecord → ℕ → Clause → Type 0
  LaidClause rs n (allow l es) = (record_at rs n ≡ record { kind = Allow; list = l; end = n + 1 + clauses_count es }) × Laid rs (n + 1) es
  LaidClause rs n (deny l es) = (record_at rs n ≡ record { kind = Deny; list = l; end = n + 1 + clauses_count es }) × Laid rs (n + 1) es

  pub Laid : List ClauseRecord → ℕ → Clauses → Type 0
  Laid rs n none = Unit {0}
  Laid rs n (more c cs) = LaidClause rs n c × Laid rs (n + clause_count c) cs

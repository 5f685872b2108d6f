-- Clauses as records in a row. The exceptions of a clause are the records from its number + 1 on, each next one at the end of the one
-- before, up to its own end. Assumes nothing.
use Rattle.std.specs.Prelude.{◌≡◌, ℕ, ◌+◌, ◌<◌, ◌≤◌, Bool, true, false, cond, not, Some, None, Option, List, [], ◌∷◌, length, slice_index_or, ◌==◌, nat_lt}
use Rattle.std.specs.Bool.{beq}
use Rattle.lattice.specs.Schemes.{Scheme}
use Rattle.policy.specs.Clauses.{Label, Clause, Clauses, allow, deny, none, more, allows, all_allow, some_allows, decider, first_denying, first_allowing}
use Rattle.policy.specs.declared.clause.Kind.{Kind}
use Rattle.policy.specs.declared.clause.Kind.TheVariants.{Allow, Deny}
use Rattle.policy.specs.declared.clause.ClauseRecord.{ClauseRecord}

abbrev pub is_allow : Kind → Bool
is_allow Allow = true
is_allow Deny = false

abbrev pub clause_of : Kind → Label → Clauses → Clause
clause_of Allow l es = allow l es
clause_of Deny l es = deny l es

-- the clause that a record begins, with the exceptions es
abbrev pub begun : ClauseRecord → Clauses → Clause
begun r es = clause_of r.kind r.list es

-- of records whose first has the number k: the clauses that begin at the number i, one behind the other, up to the number e
unfoldable pub clauses_from : ℕ → List ClauseRecord → ℕ → ℕ → Clauses
clauses_from k [] i e = none
clauses_from k (r ∷ rs) i e =
    elim (k == i) [
      | true ↦ elim (nat_lt i e) [ true ↦ more (begun r (clauses_from (k + 1) rs (k + 1) r.end)) (clauses_from (k + 1) rs r.end e) | false ↦ none ]
      | false ↦ clauses_from (k + 1) rs i e
    ]

abbrev pub no_record : ClauseRecord
no_record = record { kind = Allow; list = record { store = 0; purpose = 0; role = 0; types = 0 }; end = 0 }

abbrev pub record_at : List ClauseRecord → ℕ → ClauseRecord
record_at rs i = slice_index_or rs i no_record

-- the clause of the record with the number i
abbrev pub tree : List ClauseRecord → ℕ → Clause
tree rs i = begun (slice_index_or rs i no_record) (clauses_from 0 rs (i + 1) (slice_index_or rs i no_record).end)

-- each record ends behind its own number and inside the row, and those that begin inside a clause end inside it
pub record NestedAt (rs : List ClauseRecord) (i : ℕ) : Type 0 where
  pub behind : i < (slice_index_or rs i no_record).end
  pub within : (slice_index_or rs i no_record).end ≤ length rs
  pub inner : (j : ℕ) → i < j → j < (slice_index_or rs i no_record).end → (slice_index_or rs j no_record).end ≤ (slice_index_or rs i no_record).end

abbrev pub Nested : List ClauseRecord → Type 0
Nested rs = (i : ℕ) → i < length rs → NestedAt rs i

-- what a clause makes of its exceptions: an ALLOW passes where all do, a DENY where some does. `usual` is the answer without exceptions
abbrev pub exceptions : Scheme → Bool → Clauses → Label → Bool
exceptions s usual es t = cond usual (all_allow s es t) (some_allows s es t)

-- the decider of the first exception that answers otherwise, where the exceptions are numbered from n on
abbrev pub first_other : Scheme → Bool → ℕ → Clauses → Label → ℕ
first_other s usual n es t = cond usual (first_denying s n es t) (first_allowing s n es t)

-- what a clause asks its exceptions about a label. Where it asks them nothing it decides itself, otherwise than it usually does
abbrev pub Opens : Scheme → ClauseRecord → Label → Option Label → Type 0
Opens s r t None = (es : Clauses) (n : ℕ) → (allows s (begun r es) t ≡ not (is_allow r.kind)) × (decider s n (begun r es) t ≡ n)
Opens s r t (Some u) =
    (es : Clauses) (n : ℕ) → (allows s (begun r es) t ≡ exceptions s (is_allow r.kind) es u) ×
    (decider s n (begun r es) t ≡ cond (beq (exceptions s (is_allow r.kind) es u) (is_allow r.kind)) n (first_other s (is_allow r.kind) (n + 1) es u))

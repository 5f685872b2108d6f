-- Records that stand for a clause give that clause as their tree, and nest.
use Rattle.std.proofs.Common.{◌≡◌, ℕ, ◌+◌, ◌<◌, ◌≤◌, List, length, refl, ap, ◌∙◌, ap₂, inl, inr, arith}
use Rattle.std.proofs.lemmas.Bool.{cases_lt, cases_eq}
use Rattle.policy.specs.declared.label.Label.{Label}
use Rattle.policy.specs.declared.clause.Kind.{Kind}
use Rattle.policy.specs.declared.clause.Kind.TheVariants.{Allow, Deny}
use Rattle.policy.specs.declared.clause.ClauseRecord.{ClauseRecord}
use Rattle.policy.specs.Clauses.{Clause, Clauses, allow, deny, none, more, clause_count, clauses_count}
use Rattle.policy.specs.Records.{clause_of, begun, record_at, clauses_from, tree, NestedAt, Nested}
use Rattle.policy.specs.Laid.{LaidClause, Laid}
use Rattle.policy.proofs.Records.{clauses_from_end, clauses_from_next}

pub count_pos : (c : Clause) → 1 ≤ clause_count c
count_pos (allow l es) = omega arith
count_pos (deny l es) = omega arith

-- records that agree where a clause stands
mutual
  pub laid_clause_same : (rs ts : List ClauseRecord) (n : ℕ) (c : Clause) → ((j : ℕ) → n ≤ j → j < n + clause_count c → record_at ts j ≡ record_at rs j) → LaidClause rs n c → LaidClause ts n c
  laid_clause_same rs ts n (allow l es) f h = (f n (omega arith) (omega arith) ∙ h.0, laid_same rs ts (n + 1) es (λ j p q. f j (omega arith) (omega arith)) h.1)
  laid_clause_same rs ts n (deny l es) f h = (f n (omega arith) (omega arith) ∙ h.0, laid_same rs ts (n + 1) es (λ j p q. f j (omega arith) (omega arith)) h.1)

  pub laid_same : (rs ts : List ClauseRecord) (n : ℕ) (cs : Clauses) → ((j : ℕ) → n ≤ j → j < n + clauses_count cs → record_at ts j ≡ record_at rs j) → Laid rs n cs → Laid ts n cs
  laid_same rs ts n none f h = tt
  laid_same rs ts n (more c cs) f h = (
    laid_clause_same rs ts n c (λ j p q. f j p (omega arith)) h.0,
    laid_same rs ts (n + clause_count c) cs (λ j p q. f j (omega arith) (omega arith)) h.1,
  )

module _ (rs : List ClauseRecord) where
  laid_end : (n : ℕ) (c : Clause) → LaidClause rs n c → (record_at rs n).end ≡ n + clause_count c
  laid_end n (allow l es) h = ap (λ r. r.end) h.0 ∙ omega arith
  laid_end n (deny l es) h = ap (λ r. r.end) h.0 ∙ omega arith

  tree_by : (n m : ℕ) (k : Kind) (l : Label) (es : Clauses) → record_at rs n ≡ record { kind = k; list = l; end = m } → clauses_from 0 rs (n + 1) m ≡ es →
      tree rs n ≡ clause_of k l es
  tree_by n m k l es r p = ap (λ x. begun x (clauses_from 0 rs (n + 1) x.end)) r ∙ ap (clause_of k l) p

  mutual
    clauses_laid : (n e : ℕ) (cs : Clauses) → e ≡ n + clauses_count cs → e ≤ length rs → Laid rs n cs → clauses_from 0 rs n e ≡ cs
    clauses_laid n e none h b d = clauses_from_end 0 rs n e (omega arith)
    clauses_laid n e (more c cs) h b d =
        let end : (record_at rs n).end ≡ n + clause_count c = laid_end n c d.0 in
        let some : 1 ≤ clause_count c = count_pos c in
        clauses_from_next rs n e (omega arith) (omega arith) (omega arith)
        ∙ ap₂ more (tree_laid n c (omega arith) d.0)
        (ap (λ m. clauses_from 0 rs m e) end ∙ clauses_laid (n + clause_count c) e cs (omega arith) b d.1)

    pub tree_laid : (n : ℕ) (c : Clause) → n + clause_count c ≤ length rs → LaidClause rs n c → tree rs n ≡ c
    tree_laid n (allow l es) b h =
        tree_by n (n + 1 + clauses_count es) Allow l es h.0 (clauses_laid (n + 1) (n + 1 + clauses_count es) es refl (omega arith) h.1)
    tree_laid n (deny l es) b h =
        tree_by n (n + 1 + clauses_count es) Deny l es h.0 (clauses_laid (n + 1) (n + 1 + clauses_count es) es refl (omega arith) h.1)

  -- the record with the number i nests, and ends at e or before
  abbrev Nests : ℕ → ℕ → Type 0
  Nests i e = NestedAt rs i × ((record_at rs i).end ≤ e)

  -- a clause nests where its exceptions do
  nest_head : (n e i : ℕ) → (record_at rs n).end ≡ e → n < e → e ≤ length rs → ((j : ℕ) → n + 1 ≤ j → j < e → Nests j e) → n ≤ i → i < e → Nests i e
  nest_head n e i end some b inner low high =
      elim (cases_eq i n) [
        | inl same ↦
            let here : (record_at rs i).end ≡ e = ap (λ k. (record_at rs k).end) same ∙ end in
            (record { behind = omega arith; within = omega arith; inner = λ j up down. omega (arith, here, (inner j (omega arith) (omega arith)).1) }, omega arith)
        | inr other ↦ inner i (omega arith) high
      ]

  mutual
    nest_clauses : (n e : ℕ) (cs : Clauses) → e ≡ n + clauses_count cs → e ≤ length rs → Laid rs n cs → (i : ℕ) → n ≤ i → i < e → Nests i e
    nest_clauses n e none h b d i low high = absurd (omega arith)
    nest_clauses n e (more c cs) h b d i low high =
        elim (cases_lt i (n + clause_count c)) [
          | inl inside ↦ let found : Nests i (n + clause_count c) = nest_clause n c (omega arith) d.0 i low inside in (found.0, omega (arith, found.1))
          | inr behind ↦ nest_clauses (n + clause_count c) e cs (omega arith) b d.1 i behind high
        ]

    nest_clause : (n : ℕ) (c : Clause) → n + clause_count c ≤ length rs → LaidClause rs n c → (i : ℕ) → n ≤ i → i < n + clause_count c → Nests i (n + clause_count c)
    nest_clause n (allow l es) b h =
        λ i. nest_head n (n + (1 + clauses_count es)) i (laid_end n (allow l es) h) (omega arith) b
        (nest_clauses (n + 1) (n + (1 + clauses_count es)) es (omega arith) b h.1)
    nest_clause n (deny l es) b h =
        λ i. nest_head n (n + (1 + clauses_count es)) i (laid_end n (deny l es) h) (omega arith) b
        (nest_clauses (n + 1) (n + (1 + clauses_count es)) es (omega arith) b h.1)

  -- records that are all of one clause nest
  pub nested_laid : (c : Clause) → length rs ≡ clause_count c → LaidClause rs 0 c → Nested rs
  nested_laid c all h i inside = (nest_clause 0 c (omega arith) h i (omega arith) (omega arith)).0

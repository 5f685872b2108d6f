-- How clauses are read off a row of records, one turn after another. Assumes nothing.
use Rattle.std.proofs.Common.{◌≡◌, ℕ, zero, suc, ◌+◌, ◌<◌, ◌≤◌, Bool, true, false, cond, not, ◌&&◌, ◌||◌, eqb, ltb, ◌⊎◌, List, [], ◌∷◌, length, get_or, drop, Some, sym, refl, ap, ◌∙◌, ap₂, inl, inr, add-one, arith, drop-cons}
use mathlib.Core.Bool.{beq}
use Rattle.std.proofs.lemmas.Bool.{both_ways, cases_eq, cond-true, cond-false, eq-eqb, ne_eqb, lt-ltb, le-ltb}
use Rattle.lattice.specs.Schemes.{Scheme}
use Rattle.policy.specs.Clauses.{Label, Clause, Clauses, none, more, allows, all_allow, some_allows, clause_count, clauses_count, decider, first_denying, first_allowing}
use Rattle.policy.specs.declared.clause.Kind.{Kind}
use Rattle.policy.specs.declared.clause.Kind.TheVariants.{Allow, Deny}
use Rattle.policy.specs.declared.clause.ClauseRecord.{ClauseRecord}
use Rattle.policy.specs.Records.{is_allow, clause_of, begun, clauses_from, no_record, tree, NestedAt, Nested, exceptions, first_other, Opens}

-- ---- the clauses from a number on

branch_true : {A : Type 0} (b : Bool) (x y : A) → b ≡ true → ◌≡◌ {A = A} (elim b [ true ↦ x | false ↦ y ]) x
branch_true true x y e = refl
branch_true false x y e = absurd (both_ways false refl e)

branch_false : {A : Type 0} (b : Bool) (x y : A) → b ≡ false → ◌≡◌ {A = A} (elim b [ true ↦ x | false ↦ y ]) y
branch_false true x y e = absurd (both_ways true e refl)
branch_false false x y e = refl

-- the clauses where the first record has the number asked for
abbrev begins : ℕ → ClauseRecord → List ClauseRecord → ℕ → Clauses
begins k r rs e = more (begun r (clauses_from (k + 1) rs (k + 1) r.end)) (clauses_from (k + 1) rs r.end e)

abbrev at_number : ℕ → ClauseRecord → List ClauseRecord → ℕ → ℕ → Clauses
at_number k r rs i e = elim (ltb i e) [ true ↦ begins k r rs e | false ↦ none ]

clauses_from_here : (k : ℕ) (r : ClauseRecord) (rs : List ClauseRecord) (i e : ℕ) → k ≡ i → i < e → clauses_from k (r ∷ rs) i e ≡ begins k r rs e
unfolding clauses_from
clauses_from_here k r rs i e same low =
    branch_true (eqb k i) (at_number k r rs i e) (clauses_from (k + 1) rs i e) (eq-eqb k i same)
    ∙ branch_true (ltb i e) (begins k r rs e) none (lt-ltb i e low)

clauses_from_past : (k : ℕ) (r : ClauseRecord) (rs : List ClauseRecord) (i e : ℕ) → (k ≡ i → ⊥) → clauses_from k (r ∷ rs) i e ≡ clauses_from (k + 1) rs i e
unfolding clauses_from
clauses_from_past k r rs i e other = branch_false (eqb k i) (at_number k r rs i e) (clauses_from (k + 1) rs i e) (ne_eqb k i other)

-- there are none where the end is reached
pub clauses_from_end : (k : ℕ) (rs : List ClauseRecord) (i e : ℕ) → e ≤ i → clauses_from k rs i e ≡ none
unfolding clauses_from
clauses_from_end k [] i e low = refl
clauses_from_end k (r ∷ rs) i e low =
    go (clauses_from_end (k + 1) rs i e low) (cases_eq k i)
  where
    go : clauses_from (k + 1) rs i e ≡ none → (k ≡ i) ⊎ (k ≡ i → ⊥) → clauses_from k (r ∷ rs) i e ≡ none
    go rest (inl same) =
        branch_true (eqb k i) (at_number k r rs i e) (clauses_from (k + 1) rs i e) (eq-eqb k i same)
        ∙ branch_false (ltb i e) (begins k r rs e) none (le-ltb i e low)
    go rest (inr other) = clauses_from_past k r rs i e other ∙ rest

-- records before the number are passed over
pub clauses_from_drop : (n k : ℕ) (rs : List ClauseRecord) (i e : ℕ) → k + n ≤ i → clauses_from k rs i e ≡ clauses_from (k + n) (drop n rs) i e
unfolding clauses_from
clauses_from_drop zero k rs i e low = ap (λ (x : ℕ). clauses_from x rs i e) (omega arith)
clauses_from_drop (suc n) k [] i e low = refl
clauses_from_drop (suc n) k (r ∷ rs) i e low =
    clauses_from_past k r rs i e (λ same. omega arith)
    ∙ clauses_from_drop n (k + 1) rs i e (omega arith)
    ∙ ap (λ (x : ℕ). clauses_from x (drop n rs) i e) (omega arith)

-- of a whole row: the clauses from the number n on stand in what is left behind the first n records
clauses_from_behind : (n : ℕ) (rs : List ClauseRecord) (i e : ℕ) → n ≤ i → clauses_from n (drop n rs) i e ≡ clauses_from 0 rs i e
clauses_from_behind n rs i e low =
    ap (λ (x : ℕ). clauses_from x (drop n rs) i e) (omega arith) ∙ sym (clauses_from_drop n 0 rs i e (omega arith))

-- the clause at the number i comes first, then those from its end on
pub clauses_from_next : (rs : List ClauseRecord) (i e : ℕ) → i < length rs → i < (get_or rs i no_record).end → i < e →
    clauses_from 0 rs i e ≡ more (tree rs i) (clauses_from 0 rs (get_or rs i no_record).end e)
clauses_from_next rs i e inside ends low =
    let r : ClauseRecord = get_or rs i no_record in
    let left : List ClauseRecord = drop (suc i) rs in
    let behind : (j d : ℕ) → i < j → clauses_from (i + 1) left j d ≡ clauses_from 0 rs j d =
    λ j d up. ap (λ (x : ℕ). clauses_from x left j d) (add-one i) ∙ clauses_from_behind (suc i) rs j d up in
    sym (clauses_from_behind i rs i e (omega arith))
    ∙ ap (λ (x : List ClauseRecord). clauses_from i x i e) (drop-cons rs i no_record inside)
    ∙ clauses_from_here i r left i e refl low
    ∙ ap₂ (λ (x y : Clauses). more (begun r x) y) (behind (i + 1) r.end (omega arith)) (behind r.end e ends)

-- ---- how many clauses a record begins

clause_count_of : (r : ClauseRecord) (es : Clauses) → clause_count (begun r es) ≡ 1 + clauses_count es
clause_count_of r es = go r.kind
  where
    go : (k : Kind) → clause_count (clause_of k r.list es) ≡ 1 + clauses_count es
    go Allow = refl
    go Deny = refl

-- the clauses from j up to e fill the numbers between, where each that begins there ends there. d bounds how many numbers that are
count_between : (d : ℕ) (rs : List ClauseRecord) (nested : Nested rs) (j e : ℕ) → e ≤ j + d → j ≤ e → e ≤ length rs →
    ((k : ℕ) → j ≤ k → k < e → (get_or rs k no_record).end ≤ e) → clauses_count (clauses_from 0 rs j e) + j ≡ e
count_between zero rs nested j e bound low high closed =
    let count : clauses_count (clauses_from 0 rs j e) ≡ 0 = ap clauses_count (clauses_from_end 0 rs j e (omega arith)) in
    omega arith
count_between (suc d) rs nested j e bound low high closed = go (count_between d rs nested) (cases_eq j e)
  where
    go : ((j e : ℕ) → e ≤ j + d → j ≤ e → e ≤ length rs → ((k : ℕ) → j ≤ k → k < e → (get_or rs k no_record).end ≤ e) → clauses_count (clauses_from 0 rs j e) + j ≡ e) →
        (j ≡ e) ⊎ (j ≡ e → ⊥) → clauses_count (clauses_from 0 rs j e) + j ≡ e
    go shorter (inl same) =
        let count : clauses_count (clauses_from 0 rs j e) ≡ 0 = ap clauses_count (clauses_from_end 0 rs j e (omega arith)) in
        omega arith
    go shorter (inr other) =
        let here : NestedAt rs j = nested j (omega arith) in
        let end : ℕ = (get_or rs j no_record).end in
        let behind : j < end = here.behind in
        let ends : end ≤ e = closed j (omega arith) (omega arith) in
        let inner : clauses_count (clauses_from 0 rs (j + 1) end) + (j + 1) ≡ end =
        shorter (j + 1) end (omega arith) (omega arith) (omega arith) (λ k up down. here.inner k (omega arith) down) in
        let outer : clauses_count (clauses_from 0 rs end e) + end ≡ e =
        shorter end e (omega arith) ends high (λ k up down. closed k (omega arith) down) in
        let whole : clauses_count (clauses_from 0 rs j e) ≡ clause_count (tree rs j) + clauses_count (clauses_from 0 rs end e) =
        ap clauses_count (clauses_from_next rs j e (omega arith) behind (omega arith)) in
        omega (arith, clause_count_of (get_or rs j no_record) (clauses_from 0 rs (j + 1) end))

-- a clause ends behind as many numbers as it has clauses
pub tree_count : (rs : List ClauseRecord) → Nested rs → (i : ℕ) → i < length rs → i + clause_count (tree rs i) ≡ (get_or rs i no_record).end
tree_count rs nested i inside =
    let here : NestedAt rs i = nested i inside in
    let end : ℕ = (get_or rs i no_record).end in
    let behind : i < end = here.behind in
    let inner : clauses_count (clauses_from 0 rs (i + 1) end) + (i + 1) ≡ end =
    count_between end rs nested (i + 1) end (omega arith) (omega arith) here.within (λ k up down. here.inner k (omega arith) down) in
    omega (arith, clause_count_of (get_or rs i no_record) (clauses_from 0 rs (i + 1) end))

-- ---- one exception more

module _ (s : Scheme) where
  pub exceptions_none : (usual : Bool) (t : Label) → exceptions s usual none t ≡ usual
  exceptions_none true t = refl
  exceptions_none false t = refl

  -- an exception that answers as usual changes nothing
  pub exceptions_same : (usual : Bool) (e : Clause) (es : Clauses) (t : Label) → allows s e t ≡ usual → exceptions s usual (more e es) t ≡ exceptions s usual es t
  exceptions_same true e es t h = ap (λ (b : Bool). b && all_allow s es t) h
  exceptions_same false e es t h = ap (λ (b : Bool). b || some_allows s es t) h

  pub first_other_same : (usual : Bool) (n : ℕ) (e : Clause) (es : Clauses) (t : Label) → allows s e t ≡ usual →
      first_other s usual n (more e es) t ≡ first_other s usual (n + clause_count e) es t
  first_other_same true n e es t h = cond-true (allows s e t) (first_denying s (n + clause_count e) es t) (decider s n e t) h
  first_other_same false n e es t h = cond-false (allows s e t) (decider s n e t) (first_allowing s (n + clause_count e) es t) h

  -- one that answers otherwise decides
  pub exceptions_other : (usual : Bool) (e : Clause) (es : Clauses) (t : Label) → allows s e t ≡ not usual → exceptions s usual (more e es) t ≡ not usual
  exceptions_other true e es t h = ap (λ (b : Bool). b && all_allow s es t) h
  exceptions_other false e es t h = ap (λ (b : Bool). b || some_allows s es t) h

  pub first_other_other : (usual : Bool) (n : ℕ) (e : Clause) (es : Clauses) (t : Label) → allows s e t ≡ not usual → first_other s usual n (more e es) t ≡ decider s n e t
  first_other_other true n e es t h = cond-false (allows s e t) (first_denying s (n + clause_count e) es t) (decider s n e t) h
  first_other_other false n e es t h = cond-true (allows s e t) (decider s n e t) (first_allowing s (n + clause_count e) es t) h

-- ---- the loop over the exceptions of the clause at the number i

differs : (a b : Bool) → not (beq a b) ≡ true → a ≡ not b
differs true true h = absurd (both_ways false refl h)
differs true false h = refl
differs false true h = refl
differs false false h = absurd (both_ways false refl h)

agrees : (a b : Bool) → not (beq a b) ≡ false → a ≡ b
agrees true true h = refl
agrees true false h = absurd (both_ways true h refl)
agrees false true h = absurd (both_ways true h refl)
agrees false false h = refl

beq_same : (a b : Bool) → a ≡ b → beq a b ≡ true
beq_same true true h = refl
beq_same true false h = absurd (both_ways true h refl)
beq_same false true h = absurd (both_ways false refl h)
beq_same false false h = refl

beq_other : (a b : Bool) → a ≡ not b → beq a b ≡ false
beq_other true true h = absurd (both_ways true h refl)
beq_other true false h = refl
beq_other false true h = refl
beq_other false false h = absurd (both_ways false refl h)

-- the exceptions are asked about the label t, and the clause answers `usual` unless one of them answers otherwise
pub record Asked (s : Scheme) (rs : List ClauseRecord) (i : ℕ) (label t : Label) (usual : Bool) : Type 0 where
  pub nested : Nested rs
  pub inside : i < length rs
  pub opened : Opens s (get_or rs i no_record) label (Some t)
  pub usual_is : usual ≡ is_allow (get_or rs i no_record).kind

-- what the exceptions from the number j on come to, and which clause decides
abbrev pub rest : Scheme → List ClauseRecord → ℕ → Label → Bool → ℕ → Bool
rest s rs i t usual j = exceptions s usual (clauses_from 0 rs j (get_or rs i no_record).end) t

abbrev pub rest_by : Scheme → List ClauseRecord → ℕ → Label → Bool → ℕ → ℕ
rest_by s rs i t usual j = first_other s usual j (clauses_from 0 rs j (get_or rs i no_record).end) t

-- the exceptions before the number j changed nothing
pub record Passed (s : Scheme) (rs : List ClauseRecord) (i : ℕ) (t : Label) (usual : Bool) (j : ℕ) : Type 0 where
  pub above : i < j
  pub same : rest s rs i t usual (i + 1) ≡ rest s rs i t usual j
  pub same_by : rest_by s rs i t usual (i + 1) ≡ rest_by s rs i t usual j

pub passed_none : (s : Scheme) (rs : List ClauseRecord) (i : ℕ) (t : Label) (usual : Bool) → Passed s rs i t usual (i + 1)
passed_none s rs i t usual = record { above = omega arith; same = refl; same_by = refl }

module _ (s : Scheme) (rs : List ClauseRecord) (i : ℕ) (label t : Label) (usual : Bool) (asked : Asked s rs i label t usual) where
  answer_is : allows s (tree rs i) label ≡ rest s rs i t usual (i + 1)
  answer_is =
      (asked.opened (clauses_from 0 rs (i + 1) (get_or rs i no_record).end) i).0
      ∙ ap (λ (b : Bool). rest s rs i t b (i + 1)) (sym asked.usual_is)

  decider_is : decider s i (tree rs i) label ≡ cond (beq (rest s rs i t usual (i + 1)) usual) i (rest_by s rs i t usual (i + 1))
  decider_is =
      (asked.opened (clauses_from 0 rs (i + 1) (get_or rs i no_record).end) i).1
      ∙ ap (λ (b : Bool). cond (beq (rest s rs i t b (i + 1)) b) i (rest_by s rs i t b (i + 1))) (sym asked.usual_is)

  next_is : (j : ℕ) → j < (get_or rs i no_record).end →
      clauses_from 0 rs j (get_or rs i no_record).end ≡ more (tree rs j) (clauses_from 0 rs (get_or rs j no_record).end (get_or rs i no_record).end)
  next_is j low =
      let within : j < length rs = omega (arith, (asked.nested i asked.inside).within) in
      clauses_from_next rs j (get_or rs i no_record).end within (asked.nested j within).behind low

  -- an exception that answers otherwise decides
  pub turn_decides : (j by : ℕ) (answer : Bool) → Passed s rs i t usual j → j < (get_or rs i no_record).end →
      answer ≡ allows s (tree rs j) t → by ≡ decider s j (tree rs j) t → not (beq answer usual) ≡ true →
      (answer ≡ allows s (tree rs i) label) × (by ≡ decider s i (tree rs i) label)
  turn_decides j by answer before low is by_is other =
      let after : Clauses = clauses_from 0 rs (get_or rs j no_record).end (get_or rs i no_record).end in
      let differs_here : allows s (tree rs j) t ≡ not usual = sym is ∙ differs answer usual other in
      let rest_is : rest s rs i t usual (i + 1) ≡ not usual =
      before.same ∙ ap (λ (es : Clauses). exceptions s usual es t) (next_is j low) ∙ exceptions_other s usual (tree rs j) after t differs_here in (
        differs answer usual other ∙ sym (answer_is ∙ rest_is),
        by_is
            ∙ sym (first_other_other s usual j (tree rs j) after t differs_here)
            ∙ ap (λ (es : Clauses). first_other s usual j es t) (sym (next_is j low))
            ∙ sym before.same_by
            ∙ sym (cond-false (beq (rest s rs i t usual (i + 1)) usual) i (rest_by s rs i t usual (i + 1)) (beq_other (rest s rs i t usual (i + 1)) usual rest_is))
            ∙ sym decider_is,
      )

  -- one that answers as usual is passed over
  pub turn_passes : (j next : ℕ) (answer : Bool) → Passed s rs i t usual j → j < (get_or rs i no_record).end →
      answer ≡ allows s (tree rs j) t → not (beq answer usual) ≡ false → next ≡ (get_or rs j no_record).end → Passed s rs i t usual next
  turn_passes j next answer before low is same ends =
      let within : j < length rs = omega (arith, (asked.nested i asked.inside).within) in
      let after : Clauses = clauses_from 0 rs (get_or rs j no_record).end (get_or rs i no_record).end in
      let agrees_here : allows s (tree rs j) t ≡ usual = sym is ∙ agrees answer usual same in
      record {
        above = omega (arith, before.above, (asked.nested j within).behind, ends);
        same =
            before.same ∙ ap (λ (es : Clauses). exceptions s usual es t) (next_is j low)
            ∙ exceptions_same s usual (tree rs j) after t agrees_here ∙ ap (rest s rs i t usual) (sym ends);
        same_by =
            before.same_by ∙ ap (λ (es : Clauses). first_other s usual j es t) (next_is j low)
            ∙ first_other_same s usual j (tree rs j) after t agrees_here
            ∙ ap (λ (n : ℕ). first_other s usual n after t) (tree_count rs asked.nested j within) ∙ ap (rest_by s rs i t usual) (sym ends);
      }

  -- where none is left the clause decides itself
  pub turn_ends : (j : ℕ) → Passed s rs i t usual j → (get_or rs i no_record).end ≤ j →
      (usual ≡ allows s (tree rs i) label) × (i ≡ decider s i (tree rs i) label)
  turn_ends j before high =
      let rest_is : rest s rs i t usual (i + 1) ≡ usual =
      before.same ∙ ap (λ (es : Clauses). exceptions s usual es t) (clauses_from_end 0 rs j (get_or rs i no_record).end high) ∙ exceptions_none s usual t in (
        sym (answer_is ∙ rest_is),
        sym (decider_is ∙ cond-true (beq (rest s rs i t usual (i + 1)) usual) i (rest_by s rs i t usual (i + 1)) (beq_same (rest s rs i t usual (i + 1)) usual rest_is)),
      )

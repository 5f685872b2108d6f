-- The records that are made of words stand for the clause that the words spell.
use Rattle.std.proofs.Common.{◌≡◌, ℕ, ◌+◌, ◌<◌, ◌≤◌, Bool, true, false, cond, eqb, List, [], ◌∷◌, ◌++◌, length, set, Some, None, Ok, Err, Option, Result, sym, refl, ap, ◌∙◌, subst, arith, length-append, length-set, get_or-set_other, get_or-set_same}
use Rattle.std.proofs.lemmas.List.{get_or_append_left}
use Rattle.policy.specs.declared.label.Label.{Label}
use Rattle.lattice.specs.declared.sizes.Sizes.{Sizes}
use Rattle.policy.specs.declared.clause.Kind.{Kind}
use Rattle.policy.specs.declared.clause.Kind.TheVariants.{Allow, Deny}
use Rattle.policy.specs.declared.clause.ClauseRecord.{ClauseRecord}
use Rattle.refusals.specs.declared.refusal.Reason.{Reason}
use Rattle.refusals.specs.declared.refusal.Reason.TheVariants.{MisplacedWord}
use Rattle.refusals.specs.declared.refusal.Refusal.{Refusal}
use Rattle.policy.specs.declared.word.Word.{Word}
use Rattle.policy.specs.declared.word.Word.TheVariants.{Head, Value, Except, End}
use Rattle.policy.specs.Clauses.{Clause, Clauses, allow, deny, none, more, clause_count, clauses_count}
use Rattle.policy.specs.Decode.{word_of}
use Rattle.policy.specs.Labels.{filled}
use Rattle.policy.specs.Words.{Frame, Reading, fault, admitted, advanced, ended, meaning, meanings}
use Rattle.policy.specs.Walk.{walk, listed, fresh, closed, Slot, Records, recorded, top_ended}
use Rattle.policy.specs.Records.{clause_of, record_at}
use Rattle.policy.specs.Laid.{LaidClause, Laid}
use Rattle.policy.proofs.Trees.{laid_same}
use Rattle.policy.proofs.Sound.{count_snoc, count_of}
use Rattle.policy.proofs.Grown.{Node, snoc, shut, grown, checked_parts, walk_on, walk_stop}

mutual
  pub count_meaning : (z : Sizes) (c : Clause) → clause_count (meaning z c) ≡ clause_count c
  count_meaning z (allow l es) = ap (λ n. 1 + n) (count_meanings z es)
  count_meaning z (deny l es) = ap (λ n. 1 + n) (count_meanings z es)

  pub count_meanings : (z : Sizes) (es : Clauses) → clauses_count (meanings z es) ≡ clauses_count es
  count_meanings z none = refl
  count_meanings z (more c es) = omega (arith, count_meaning z c, count_meanings z es)

meanings_snoc : (z : Sizes) (es : Clauses) (c : Clause) → meanings z (snoc es c) ≡ snoc (meanings z es) (meaning z c)
meanings_snoc z none c = refl
meanings_snoc z (more e es) c = ap (more (meaning z e)) (meanings_snoc z es c)

laid_snoc : (rs : List ClauseRecord) (n m : ℕ) (es : Clauses) (c : Clause) → m ≡ n + clauses_count es → Laid rs n es → LaidClause rs m c → Laid rs n (snoc es c)
laid_snoc rs n m none c e h k = (let p : m ≡ n = omega arith in subst (λ i. LaidClause rs i c) p k, tt)
laid_snoc rs n m (more d ds) c e h k = (h.0, laid_snoc rs (n + clause_count d) m ds c (omega arith) h.1 k)

-- a clause that ended stands in its records
laid_of : (z : Sizes) (rs : List ClauseRecord) (n e : ℕ) (k : Kind) (l : Label) (es : Clauses) → record_at rs n ≡ record { kind = k; list = filled z l; end = e } → e ≡ n + 1 + clauses_count es
    → Laid rs (n + 1) (meanings z es) → LaidClause rs n (meaning z (clause_of k l es))
laid_of z rs n e Allow l es r q h = (r ∙ ap (λ m. record { kind = Allow; list = filled z l; end = m }) (q ∙ ap (λ m. n + 1 + m) (sym (count_meanings z es))), h)
laid_of z rs n e Deny l es r q h = (r ∙ ap (λ m. record { kind = Deny; list = filled z l; end = m }) (q ∙ ap (λ m. n + 1 + m) (sym (count_meanings z es))), h)

-- an open clause's record, with the exceptions read so far in the records after its number, up to number n
pub record Held (z : Sizes) (f : Frame) (y : Node) (s : Slot) (n : ℕ) (rs : List ClauseRecord) : Type 0 where
  pub kind : s.filling.kind ≡ f.kind
  pub list : s.filling.list ≡ y.list
  pub inside : Laid rs (s.number + 1) (meanings z y.exceptions)
  pub upto : n ≡ s.number + 1 + clauses_count y.exceptions

abbrev pub Sim : Sizes → List Frame → List Node → List Slot → ℕ → List ClauseRecord → Type 0
Sim z [] [] ss n rs = ⊥
Sim z [] (y ∷ []) [] n rs = Laid rs 0 (meanings z y.exceptions) × (n ≡ clauses_count y.exceptions)
Sim z [] (y ∷ []) (s ∷ ss) n rs = ⊥
Sim z [] (y ∷ x ∷ ys) ss n rs = ⊥
Sim z (f ∷ fs) [] ss n rs = ⊥
Sim z (f ∷ fs) (y ∷ ys) [] n rs = ⊥
Sim z (f ∷ fs) (y ∷ ys) (s ∷ ss) n rs = Held z f y s n rs × Sim z fs ys ss s.number rs

held_same : (z : Sizes) (f : Frame) (y : Node) (s : Slot) (n : ℕ) (rs ts : List ClauseRecord) → ((j : ℕ) → j < n → record_at ts j ≡ record_at rs j) → Held z f y s n rs → Held z f y s n ts
held_same z f y s n rs ts e h =
    record {
      kind = h.kind;
      list = h.list;
      inside = laid_same rs ts (s.number + 1) (meanings z y.exceptions) (λ j p q. e j (omega (arith, h.upto, count_meanings z y.exceptions))) h.inside;
      upto = h.upto;
    }

sim_same : (z : Sizes) (fs : List Frame) (ys : List Node) (ss : List Slot) (n : ℕ) (rs ts : List ClauseRecord) → ((j : ℕ) → j < n → record_at ts j ≡ record_at rs j) → Sim z fs ys ss n rs → Sim z fs ys ss n ts
sim_same z [] [] ss n rs ts e h = absurd h
sim_same z [] (y ∷ []) [] n rs ts e h = (laid_same rs ts 0 (meanings z y.exceptions) (λ j p q. e j (omega (arith, h.1, count_meanings z y.exceptions))) h.0, h.1)
sim_same z [] (y ∷ []) (s ∷ ss) n rs ts e h = absurd h
sim_same z [] (y ∷ x ∷ ys) ss n rs ts e h = absurd h
sim_same z (f ∷ fs) [] ss n rs ts e h = absurd h
sim_same z (f ∷ fs) (y ∷ ys) [] n rs ts e h = absurd h
sim_same z (f ∷ fs) (y ∷ ys) (s ∷ ss) n rs ts e h =
    (held_same z f y s n rs ts e h.0, sim_same z fs ys ss s.number rs ts (λ j p. e j (omega (arith, h.0.upto))) h.1)

at_set : (rs : List ClauseRecord) (k : ℕ) (r : ClauseRecord) → k < length rs → record_at (set rs k r) k ≡ r
at_set rs k r h = get_or-set_same rs k r (fresh Allow) h

off_set : (rs : List ClauseRecord) (k j : ℕ) (r : ClauseRecord) → (j ≡ k → ⊥) → record_at (set rs k r) j ≡ record_at rs j
off_set rs k j r h = get_or-set_other rs k j r (fresh Allow) h

module _ (z : Sizes) where
  -- the clause that ends, in its records
  module _ (f : Frame) (y : Node) (s : Slot) (heads : ℕ) (rs : List ClauseRecord) (le : heads ≤ length rs) (h : Held z f y s heads rs) where
    abbrev k : ℕ
    k = s.number

    abbrev r : ClauseRecord
    r = closed z heads s.filling

    abbrev c : Clause
    c = clause_of f.kind y.list y.exceptions

    end_laid : LaidClause (set rs k r) k (meaning z c)
    end_laid =
        let lt : k < length rs = omega (arith, h.upto) in
        let here : record_at (set rs k r) k ≡ record { kind = f.kind; list = filled z y.list; end = heads } =
        at_set rs k r lt ∙ ap (λ q. record { kind = q; list = filled z s.filling.list; end = heads }) h.kind ∙ ap (λ q. record { kind = f.kind; list = filled z q; end = heads }) h.list in
        laid_of z (set rs k r) k heads f.kind y.list y.exceptions here h.upto
        (laid_same rs (set rs k r) (k + 1) (meanings z y.exceptions) (λ j p q. off_set rs k j r (λ e. omega arith)) h.inside)

    end_inside : (m : ℕ) (es : Clauses) → m + clauses_count es ≡ k → Laid rs m (meanings z es) → Laid (set rs k r) m (meanings z (snoc es c))
    end_inside m es e p =
        let q : Laid (set rs k r) m (meanings z es) = laid_same rs (set rs k r) m (meanings z es) (λ j a b. off_set rs k j r (λ d. omega (arith, count_meanings z es))) p in
        subst (λ cs. Laid (set rs k r) m cs) (sym (meanings_snoc z es c)) (laid_snoc (set rs k r) m k (meanings z es) (meaning z c) (omega (arith, count_meanings z es)) q end_laid)

    end_count : (m : ℕ) (es : Clauses) → m + clauses_count es ≡ k → heads ≡ m + clauses_count (snoc es c)
    end_count m es e = omega (arith, count_snoc es c, count_of f.kind y.list y.exceptions, h.upto)

    end_step : (fs : List Frame) (ys : List Node) (ss : List Slot) → Sim z fs ys ss k rs → Sim z (ended fs) (shut f.kind (y ∷ ys)) ss heads (set rs k r)
    end_step [] [] ss p = absurd p
    end_step [] (x ∷ []) [] p = (end_inside 0 x.exceptions (omega (arith, p.1)) p.0, let q = end_count 0 x.exceptions (omega (arith, p.1)) in omega arith)
    end_step [] (x ∷ []) (m ∷ ss) p = absurd p
    end_step [] (x ∷ x' ∷ ys) ss p = absurd p
    end_step (g ∷ fs) [] ss p = absurd p
    end_step (g ∷ fs) (x ∷ ys) [] p = absurd p
    end_step (g ∷ fs) (x ∷ ys) (m ∷ ss) (hx, p) = (
      record {
        kind = hx.kind;
        list = hx.list;
        inside = end_inside (m.number + 1) x.exceptions (omega (arith, hx.upto)) hx.inside;
        upto = end_count (m.number + 1) x.exceptions (omega (arith, hx.upto));
      },
      sim_same z fs ys ss m.number rs (set rs k r) (λ j p. off_set rs k j r (λ e. omega (arith, hx.upto))) p,
    )

  impossible : {r : Reason} → ◌≡◌ {A = Option Reason} (Some r) None → ⊥
  impossible e = let z : ◌≡◌ {A = ℕ} 0 1 = cc in omega arith

  abbrev Simulates : List Frame → List Node → ℕ → Records → Word → Type 0
  Simulates fs ys heads x v =
      Sim z (advanced (record { open_clauses = fs; heads = heads }) v).open_clauses (grown (record { open_clauses = fs; heads = heads }) v ys)
      (recorded z (record { open_clauses = fs; heads = heads }) v x).opens (advanced (record { open_clauses = fs; heads = heads }) v).heads
      (recorded z (record { open_clauses = fs; heads = heads }) v x).clauses

  top_step : (fs : List Frame) (ys : List Node) (ss : List Slot) (heads : ℕ) (rs : List ClauseRecord) → length rs ≡ heads → Sim z fs ys ss heads rs
      → (v : Word) → fault z (record { open_clauses = fs; heads = heads }) v ≡ None → Simulates fs ys heads (record { opens = ss; clauses = rs }) v
  top_step fs ys ss heads rs len p (Head k) e = (
    record { kind = refl; list = refl; inside = tt; upto = omega arith },
    sim_same z fs ys ss heads rs (rs ++ fresh k ∷ []) (λ j low. get_or_append_left rs (fresh k ∷ []) (fresh Allow) j (omega arith)) p,
  )
  top_step [] ys ss heads rs len p (Value v) e = absurd (impossible e)
  top_step (f ∷ fs) [] ss heads rs len p (Value v) e = absurd p
  top_step (f ∷ fs) (y ∷ ys) [] heads rs len p (Value v) e = absurd p
  top_step (f ∷ fs) (y ∷ ys) (s ∷ ss) heads rs len p (Value v) e = (record { kind = p.0.kind; list = ap (listed v.attribute v.code) p.0.list; inside = p.0.inside; upto = p.0.upto }, p.1)
  top_step [] ys ss heads rs len p Except e = absurd (impossible e)
  top_step (f ∷ fs) [] ss heads rs len p Except e = absurd p
  top_step (f ∷ fs) (y ∷ ys) [] heads rs len p Except e = absurd p
  top_step (f ∷ fs) (y ∷ ys) (s ∷ ss) heads rs len p Except e = (record { kind = p.0.kind; list = p.0.list; inside = p.0.inside; upto = p.0.upto }, p.1)
  top_step [] ys ss heads rs len p End e = absurd (impossible e)
  top_step (f ∷ fs) [] ss heads rs len p End e = absurd p
  top_step (f ∷ fs) (y ∷ ys) [] heads rs len p End e = absurd p
  top_step (f ∷ fs) (y ∷ ys) (s ∷ ss) heads rs len p End e = end_step f y s heads rs (omega arith) p.0 fs ys ss p.1

  ended_length : (n : ℕ) (ss : List Slot) (rs : List ClauseRecord) → length (top_ended z n ss rs) ≡ length rs
  ended_length n [] rs = refl
  ended_length n (s ∷ ss) rs = length-set rs s.number (closed z n s.filling)

  recorded_length : (r : Reading) (v : Word) (x : Records) → length x.clauses ≡ r.heads → length (recorded z r v x).clauses ≡ (advanced r v).heads
  recorded_length r (Head k) x e = length-append x.clauses (fresh k ∷ []) ∙ ap (λ n. n + 1) e
  recorded_length r (Value v) x e = e
  recorded_length r Except x e = e
  recorded_length r End x e = ended_length r.heads x.opens x.clauses ∙ e

  ends_here : (fs : List Frame) (ys : List Node) (heads : ℕ) (x₀ : Records) (i : ℕ) (out : List Node) (x : Records) → Sim z fs ys x₀.opens heads x₀.clauses → length x₀.clauses ≡ heads
      → walk grown z (record { open_clauses = fs; heads = heads }) ys i [] ≡ Ok out → walk (recorded z) z (record { open_clauses = fs; heads = heads }) x₀ i [] ≡ Ok x
      → Sim z [] out x.opens (length x.clauses) x.clauses
  unfolding walk
  ends_here [] ys heads x₀ i out x s c p q = by (eqb heads 0) p q
    where
      by : (b : Bool) → ◌≡◌ {A = Result (List Node) Refusal} (cond b (Err (record { reason = MisplacedWord; place = i })) (Ok ys)) (Ok out)
          → ◌≡◌ {A = Result Records Refusal} (cond b (Err (record { reason = MisplacedWord; place = i })) (Ok x₀)) (Ok x) → Sim z [] out x.opens (length x.clauses) x.clauses
      by true p q = absurd (let z : ◌≡◌ {A = ℕ} 0 1 = cc in omega arith)
      by false p q =
          let e₁ : ys ≡ out = cc in
          let e₂ : x₀ ≡ x = cc in
          let s₁ : Sim z [] out x₀.opens heads x₀.clauses = subst (λ o. Sim z [] o x₀.opens heads x₀.clauses) e₁ s in
          let s₂ : Sim z [] out x₀.opens (length x₀.clauses) x₀.clauses = subst (λ n. Sim z [] out x₀.opens n x₀.clauses) (sym c) s₁ in
          subst (λ y. Sim z [] out y.opens (length y.clauses) y.clauses) e₂ s₂
  ends_here (f ∷ fs) ys heads x₀ i out x s c p q = absurd (let z : ◌≡◌ {A = ℕ} 0 1 = cc in omega arith)

  pub simulates : (ws : List ℕ) (fs : List Frame) (ys : List Node) (heads : ℕ) (x₀ : Records) (i : ℕ) (out : List Node) (x : Records) → Sim z fs ys x₀.opens heads x₀.clauses → length x₀.clauses ≡ heads
      → walk grown z (record { open_clauses = fs; heads = heads }) ys i ws ≡ Ok out → walk (recorded z) z (record { open_clauses = fs; heads = heads }) x₀ i ws ≡ Ok x
      → Sim z [] out x.opens (length x.clauses) x.clauses
  simulates [] fs ys heads x₀ i out x s c p q = ends_here fs ys heads x₀ i out x s c p q
  simulates (w ∷ ws) fs ys heads x₀ i out x s c p q =
      by (admitted z now_reading w) refl (λ v f.
      simulates ws (advanced now_reading v).open_clauses (grown now_reading v ys) (advanced now_reading v).heads (recorded z now_reading v x₀) (i + 1) out x
      (top_step fs ys x₀.opens heads x₀.clauses c s v (checked_parts (word_of w) (fault z now_reading) v f).1) (recorded_length now_reading v x₀ c))
    where
      now_reading : Reading
      now_reading = record { open_clauses = fs; heads = heads }

      by : (o : Result Word Reason) → admitted z now_reading w ≡ o
          → ((v : Word) → admitted z now_reading w ≡ Ok v → walk grown z (advanced now_reading v) (grown now_reading v ys) (i + 1) ws ≡ Ok out
          → walk (recorded z) z (advanced now_reading v) (recorded z now_reading v x₀) (i + 1) ws ≡ Ok x → Sim z [] out x.opens (length x.clauses) x.clauses)
          → Sim z [] out x.opens (length x.clauses) x.clauses
      by (Err y) f ih = absurd (let t = walk_stop grown z now_reading ys i w ws y f in let z : ◌≡◌ {A = ℕ} 0 1 = cc in omega arith)
      by (Ok v) f ih = ih v f (sym (walk_on grown z now_reading ys i w ws v f) ∙ p) (sym (walk_on (recorded z) z now_reading x₀ i w ws v f) ∙ q)

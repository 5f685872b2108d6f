-- The evidence of a denied label: data types of it that are denied, and of which none can be left out. Assumes nothing.
use Rattle.std.proofs.Common.{◌≡◌, ℕ, suc, ◌<◌, Bool, true, false, cond, sym, refl, ◌∙◌, subst, inl, inr, arith}
use Rattle.std.proofs.lemmas.Bool.{both_ways, cases_eq, cond-true, cond-false}
use Rattle.lattice.specs.Sets.{has, without, gather}
use Rattle.lattice.specs.Schemes.{Scheme}
use Rattle.policy.specs.Clauses.{Label, Clause, allows, with_types, evidence}
use Rattle.lattice.specs.Schemes.{Lattices}
use Rattle.policy.specs.Laws.{Subset}
use Rattle.policy.specs.Verdicts.{left_after}
use Rattle.lattice.proofs.Members.{has_without_same, has_without_other, has_before_without}
use Rattle.policy.proofs.Sets.{gather_keeps}
use Rattle.policy.proofs.Antitone.{allows_subset}

pub subset_without : (a b v : ℕ) → Subset a b → Subset (without a v) (without b v)
subset_without a b v sub w inside h =
    elim (cases_eq v w) [
      | inl same ↦ absurd (both_ways (has (without a v) w) (subst (λ (x : ℕ). has (without a v) x ≡ false) same (has_without_same a v)) h)
      | inr other ↦ has_without_other b v w other ∙ sub w inside (sym (has_without_other a v w other) ∙ h)
    ]

-- a set with v left out is a subset
pub without_subset : (a v : ℕ) → Subset (without a v) a
without_subset a v w inside h = has_before_without a v w h

-- an allowed label has none
pub evidence_none : (s : Scheme) (c : Clause) (t : Label) → allows s c t ≡ true → evidence s c t ≡ 0
unfolding evidence
evidence_none s c t h = cond-true (allows s c t) 0 (gather (left_after s c t) t.types t.types 64) h

-- of a denied label it is what is left once all values have been tried
pub evidence_gathered : (s : Scheme) (c : Clause) (t : Label) → allows s c t ≡ false → evidence s c t ≡ gather (left_after s c t) t.types t.types 64
unfolding evidence
evidence_gathered s c t h = cond-false (allows s c t) 0 (gather (left_after s c t) t.types t.types 64) h

module _ (s : Scheme) (laws : Lattices s) (c : Clause) (t : Label) where
  -- what is kept while the values below n have been tried
  pub record Tried (n left : ℕ) : Type 0 where
    pub within : Subset left t.types
    pub denied : allows s c (with_types t left) ≡ false
    pub needed : (v : ℕ) → v < 64 → v < n → has left v ≡ true → allows s c (with_types t (without left v)) ≡ true

  tried_one : (k left : ℕ) → k < 64 → Tried k left → (b : Bool) → allows s c (with_types t (without left k)) ≡ b →
      Tried (suc k) (cond b left (without left k))
  tried_one k left inside before true e = record {
    within = before.within;
    denied = before.denied;
    needed = λ v low below holds. elim (cases_eq k v) [
      | inl same ↦ subst (λ (x : ℕ). allows s c (with_types t (without left x)) ≡ true) same e
      | inr apart ↦ before.needed v low (omega arith) holds
    ];
  }
  tried_one k left inside before false e = record {
    within = λ v low holds. before.within v low (has_before_without left k v holds);
    denied = e;
    needed = λ v low below holds. elim (cases_eq k v) [
      | inl same ↦ absurd (both_ways (has (without left k) v) (subst (λ (x : ℕ). has (without left k) x ≡ false) same (has_without_same left k)) holds)
      | inr apart ↦ allows_subset s laws c t (without (without left k) v) (without left v) (subset_without (without left k) left v (without_subset left k))
          (before.needed v low (omega arith) (has_before_without left k v holds))
    ];
  }

  passed_over : (k left : ℕ) → k < 64 → has t.types k ≡ false → Tried k left → Tried (suc k) left
  passed_over k left inside absent before = record {
    within = before.within;
    denied = before.denied;
    needed = λ v low below holds. elim (cases_eq k v) [
      | inl same ↦ absurd (both_ways (has t.types k) absent (before.within k inside (subst (λ (x : ℕ). has left x ≡ true) (sym same) holds)))
      | inr apart ↦ before.needed v low (omega arith) holds
    ];
  }

  tried_all : allows s c t ≡ false → Tried 64 (evidence s c t)
  tried_all h =
      subst (Tried 64) (sym (evidence_gathered s c t h))
      (gather_keeps (left_after s c t) t.types t.types Tried 64
      (record { within = λ v inside holds. holds; denied = h; needed = λ v low below holds. absurd (omega arith) })
      (λ k left inside holds before. tried_one k left inside before (allows s c (with_types t (without left k))) refl)
      (λ k left inside absent before. passed_over k left inside absent before))

  -- the evidence is among the data types of the denied label
  pub evidence_within : allows s c t ≡ false → Subset (evidence s c t) t.types
  evidence_within h = (tried_all h).within

  -- with the evidence as its data types the label is denied
  pub evidence_denied : allows s c t ≡ false → allows s c (with_types t (evidence s c t)) ≡ false
  evidence_denied h = (tried_all h).denied

  -- and allowed once any one value of the evidence is left out
  pub evidence_needed : allows s c t ≡ false → (v : ℕ) → v < 64 → has (evidence s c t) v ≡ true →
      allows s c (with_types t (without (evidence s c t) v)) ≡ true
  evidence_needed h v inside holds = (tried_all h).needed v inside inside holds

-- What the computed answer, decider and evidence come to, in the words of specs/Verdicts.antt. Assumes nothing.
use Rattle.std.proofs.Common.{◌≡◌, ℕ, Bool, true, false, not, sym, refl, ap, ◌∙◌, subst}
use Rattle.std.proofs.lemmas.Bool.{both_ways}
use Rattle.lattice.specs.Schemes.{Scheme}
use Rattle.policy.specs.Clauses.{Label, Clause, allows, decider, evidence}
use Rattle.lattice.specs.Schemes.{Lattices}
use Rattle.policy.specs.Verdicts.{Minimal, Just}
use Rattle.policy.proofs.Antitone.{allows_antitone, allows_subset}
use Rattle.policy.proofs.Evidence.{evidence_none, evidence_within, evidence_denied, evidence_needed}
use Rattle.policy.proofs.Rules.{allows_derived, allows_sound, denies_derived, denies_sound}

-- ---- the verdict

not_true : (b : Bool) → not b ≡ true → b ≡ false
not_true true h = absurd (both_ways false refl h)
not_true false h = refl

pub minimal_evidence : (s : Scheme) → Lattices s → (c : Clause) (t : Label) → allows s c t ≡ false → Minimal s c t (evidence s c t)
minimal_evidence s laws c t h = record {
  within = evidence_within s laws c t h;
  denied = evidence_denied s laws c t h;
  needed = evidence_needed s laws c t h;
}

pub just_verdict : (s : Scheme) → Lattices s → (c : Clause) (t : Label) (passed : Bool) (by left : ℕ) →
    passed ≡ allows s c t → by ≡ decider s 0 c t → left ≡ evidence s c t → Just s c t passed by left
just_verdict s laws c t passed by left passed_is by_is left_is = record {
  allowed = (λ h. allows_derived s c t (sym passed_is ∙ h), λ derived. passed_is ∙ allows_sound s c t derived);
  denied = (λ h. denies_derived s c t (sym passed_is ∙ not_true passed h), λ derived. ap not (passed_is ∙ denies_sound s c t derived));
  covers = λ h u under. allows_antitone s laws c u t under (sym passed_is ∙ h);
  fewer = λ h d sub. allows_subset s laws c t d t.types sub (sym passed_is ∙ h);
  decided = by_is;
  none_left = λ h. left_is ∙ evidence_none s c t (sym passed_is ∙ h);
  minimal = λ h. subst (Minimal s c t) (sym left_is) (minimal_evidence s laws c t (sym passed_is ∙ h));
}

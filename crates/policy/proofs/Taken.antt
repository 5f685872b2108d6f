-- What words leave of a policy: the one clause that they spell, or a reason why they spell none.
use Rattle.std.proofs.Common.{◌≡◌, ℕ, ◌≤◌, List, length, Some, None, sym, ◌∙◌, subst, ap₂, arith}
use Rattle.refusals.specs.declared.refusal.Refusal.{Refusal}
use Rattle.lattice.specs.declared.sizes.Sizes.{Sizes}
use Rattle.lattice.specs.SetsLemmas.{none_some}
use Rattle.policy.specs.declared.clause.ClauseRecord.{ClauseRecord}
use Rattle.policy.specs.Clauses.{Clause}
use Rattle.policy.specs.Policies.{Policy, Spells}
use Rattle.policy.specs.Records.{tree, Nested}
use Rattle.policy.specs.Sized.{Sized}
use Rattle.policy.specs.Stands.{Stands}
use Rattle.policy.specs.Words.{Written, spelled, meaning, words_fault}
use Rattle.policy.proofs.Exact.{accepts, spelled_once}
use Rattle.policy.proofs.First.{sized_small}
use Rattle.policy.proofs.Trees.{count_pos, nested_laid, tree_laid}
use Rattle.policy.proofs.Whole.{stands_count}

pub refused : (z : Sizes) → Sized z → (ws : List ℕ) (x : Refusal) → words_fault z ws ≡ Some x → (c : Clause) → Written z c → spelled c ≡ ws → ⊥
refused z small ws x fault c w e = none_some (words_fault z ws) x (accepts z (sized_small z small) ws (c, w, e)) fault

spells : (z : Sizes) → Sized z → (ws : List ℕ) (rs : List ClauseRecord) (s : Stands z ws rs) → Spells z ws s.clause
spells z small ws rs s = record {
  written = s.written;
  words = s.words;
  only = λ d w e. spelled_once z (sized_small z small) d s.clause w s.written (e ∙ sym s.words);
}

-- the policy that the records are
abbrev kept : Sizes → List ClauseRecord → Policy
kept d rs = record { sizes = d; clause = tree rs 0 }

abbrev Taken : Sizes → List ℕ → Policy → Type 0
Taken z ws p = (words_fault z ws ≡ None) × ((c : Clause) × Spells z ws c × (p ≡ record { sizes = z; clause = meaning z c }))

module _ (z : Sizes) (ws : List ℕ) (rs : List ClauseRecord) (s : Stands z ws rs) where
  pub stands_nested : Nested rs
  stands_nested = nested_laid rs (meaning z s.clause) (stands_count z ws rs s) s.laid

  pub stands_some : 1 ≤ length rs
  stands_some = omega (arith, s.count, count_pos s.clause)

  pub taken : (y d : Sizes) → z ≡ y → Sized y → words_fault z ws ≡ None → d ≡ z → Taken y ws (kept d rs)
  taken y d e small none own =
      subst (λ (x : Sizes). Taken x ws (kept d rs)) e (
        none,
        (
          s.clause,
          spells z (subst Sized (sym e) small) ws rs s,
          ap₂ (λ (a : Sizes) (b : Clause). record { sizes = a; clause = b }) own (tree_laid rs 0 (meaning z s.clause) (omega (arith, stands_count z ws rs s)) s.laid),
        ),
      )

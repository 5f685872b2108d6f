-- The clause that words spell, made word by word.
use Rattle.std.proofs.Common.{◌≡◌, ℕ, ◌+◌, Bool, true, false, cond, eqb, List, [], ◌∷◌, Some, None, Ok, Err, Option, Result, sym, refl, ap, ◌∙◌}
use Rattle.policy.specs.declared.label.Label.{Label}
use Rattle.lattice.specs.declared.sizes.Sizes.{Sizes}
use Rattle.policy.specs.declared.clause.Kind.{Kind}
use Rattle.refusals.specs.declared.refusal.Reason.{Reason}
use Rattle.refusals.specs.declared.refusal.Reason.TheVariants.{MisplacedWord}
use Rattle.refusals.specs.declared.refusal.Refusal.{Refusal}
use Rattle.policy.specs.declared.word.Word.{Word}
use Rattle.policy.specs.declared.word.Word.TheVariants.{Head, Value, Except, End}
use Rattle.policy.specs.Clauses.{Clause, Clauses, none, more}
use Rattle.policy.specs.Words.{Frame, Reading, checked, admitted, advanced, fault_from}
use Rattle.policy.specs.Walk.{walk, listed, empty}
use Rattle.policy.specs.Records.{clause_of}

-- an open clause as far as it is read; the last node of a row stands outside every clause
pub record Node : Type 0 where
  pub list : Label
  pub exceptions : Clauses

abbrev pub snoc : Clauses → Clause → Clauses
snoc none c = more c none
snoc (more e es) c = more e (snoc es c)

abbrev pub shut : Kind → List Node → List Node
shut k [] = []
shut k (y ∷ []) = []
shut k (y ∷ x ∷ ys) = record { list = x.list; exceptions = snoc x.exceptions (clause_of k y.list y.exceptions) } ∷ ys

abbrev pub shut_top : List Frame → List Node → List Node
shut_top [] ys = ys
shut_top (f ∷ fs) ys = shut f.kind ys

abbrev pub valued : ℕ → ℕ → List Node → List Node
valued a c [] = []
valued a c (y ∷ ys) = record { list = listed a c y.list; exceptions = y.exceptions } ∷ ys

abbrev pub grown : Reading → Word → List Node → List Node
grown r (Head k) ys = record { list = empty; exceptions = none } ∷ ys
grown r (Value v) ys = valued v.attribute v.code ys
grown r Except ys = ys
grown r End ys = shut_top r.open_clauses ys

-- a word that is admitted is one, and has no fault
pub checked_parts : (o : Option Word) (f : Word → Option Reason) (v : Word) → checked o f ≡ Ok v → (o ≡ Some v) × (f v ≡ None)
checked_parts None f v e = absurd (cc)
checked_parts (Some u) f v e = by (f u) refl e
  where
    by : (p : Option Reason) → f u ≡ p → ◌≡◌ {A = Result Word Reason} (elim p [ Some y ↦ Err y | None ↦ Ok u ]) (Ok v) → (Some u ≡ Some v) × (f v ≡ None)
    by (Some y) q h = absurd (cc)
    by None q h = let s : u ≡ v = cc in (ap Some s, ap f (sym s) ∙ q)

pub checked_on : (o : Option Word) (f : Word → Option Reason) (v : Word) → o ≡ Some v → f v ≡ None → checked o f ≡ Ok v
checked_on o f v e c = ap (λ q. checked q f) e ∙ ap (λ q. elim q [ Some y ↦ Err y | None ↦ Ok v ]) c

-- one step of a walk
module _ {X : Type 0} (f : Reading → Word → X → X) (z : Sizes) (r : Reading) (x : X) (i w : ℕ) (ws : List ℕ) where
  pub walk_on : (v : Word) → admitted z r w ≡ Ok v → walk f z r x i (w ∷ ws) ≡ walk f z (advanced r v) (f r v x) (i + 1) ws
  unfolding walk
  walk_on v e = ap (λ o. elim o [ Err y ↦ Err (record { reason = y; place = i }) | Ok u ↦ walk f z (advanced r u) (f r u x) (i + 1) ws ]) e

  pub walk_stop : (y : Reason) → admitted z r w ≡ Err y → walk f z r x i (w ∷ ws) ≡ Err (record { reason = y; place = i })
  unfolding walk
  walk_stop y e = ap (λ o. elim o [ Err y ↦ Err (record { reason = y; place = i }) | Ok u ↦ walk f z (advanced r u) (f r u x) (i + 1) ws ]) e

module _ (z : Sizes) (r : Reading) (i w : ℕ) (ws : List ℕ) where
  pub fault_on : (v : Word) → admitted z r w ≡ Ok v → fault_from z r i (w ∷ ws) ≡ fault_from z (advanced r v) (i + 1) ws
  unfolding fault_from
  fault_on v e = ap (λ o. elim o [ Err y ↦ Some (record { reason = y; place = i }) | Ok u ↦ fault_from z (advanced r u) (i + 1) ws ]) e

  pub fault_stop : (y : Reason) → admitted z r w ≡ Err y → fault_from z r i (w ∷ ws) ≡ Some (record { reason = y; place = i })
  unfolding fault_from
  fault_stop y e = ap (λ o. elim o [ Err y ↦ Some (record { reason = y; place = i }) | Ok u ↦ fault_from z (advanced r u) (i + 1) ws ]) e

-- whatever is made on the way, the words are declined where `fault_from` says
abbrev pub Agrees : {X : Type 0} → Option Refusal → Result X Refusal → Type 0
Agrees (Some e) (Ok x) = ⊥
Agrees (Some e) (Err d) = d ≡ e
Agrees None (Ok x) = Unit {0}
Agrees None (Err d) = ⊥

module _ {X : Type 0} (f : Reading → Word → X → X) (z : Sizes) where
  none_left : (fs : List Frame) (h : ℕ) (x : X) (i : ℕ) → Agrees (fault_from z (record { open_clauses = fs; heads = h }) i []) (walk f z (record { open_clauses = fs; heads = h }) x i [])
  unfolding fault_from walk
  none_left [] h x i = both (eqb h 0)
    where
      both : (b : Bool) → Agrees (cond b (Some (record { reason = MisplacedWord; place = i })) None) (cond b (Err (record { reason = MisplacedWord; place = i })) (Ok x))
      both true = refl
      both false = tt
  none_left (g ∷ fs) h x i = refl

  pub agrees : (ws : List ℕ) (r : Reading) (x : X) (i : ℕ) → Agrees (fault_from z r i ws) (walk f z r x i ws)
  agrees [] r x i = none_left r.open_clauses r.heads x i
  agrees (w ∷ ws) r x i = by (admitted z r w) refl (λ v. agrees ws (advanced r v) (f r v x) (i + 1))
    where
      by : (o : Result Word Reason) → admitted z r w ≡ o → ((v : Word) → Agrees (fault_from z (advanced r v) (i + 1) ws) (walk f z (advanced r v) (f r v x) (i + 1) ws))
          → Agrees (fault_from z r i (w ∷ ws)) (walk f z r x i (w ∷ ws))
      by (Err y) e ih = rw (fault_stop z r i w ws y e, walk_stop f z r x i w ws y e) refl
      by (Ok v) e ih = rw (fault_on z r i w ws v e, walk_on f z r x i w ws v e) (ih v)

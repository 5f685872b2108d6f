-- The laws above the reader.
use Rattle.std.proofs.Common.{◌≡◌, ℕ, ◌≤◌, Bool, true, false, cond, ◌||◌, eqb, ltb, List, [], ◌∷◌, length, Some, None, Ok, Err, Option, Result, sym, refl, ap, ◌∙◌, arith}
use Rattle.std.proofs.lemmas.Bool.{ltb-false, le-ltb, ne_eqb, or_parts, or_from}
use Rattle.std.proofs.lemmas.Float.{T_from_true}
use Rattle.lattice.specs.declared.sizes.Sizes.{Sizes}
use Rattle.refusals.specs.declared.refusal.Reason.TheVariants.{WordCount}
use Rattle.refusals.specs.declared.refusal.Refusal.{Refusal}
use Rattle.policy.specs.Clauses.{Clause, Clauses, allow, deny, none, more}
use Rattle.policy.specs.Words.{Small, Written, spelled, fault_from, words_fault, nothing_read, AcceptedExactly, SpelledOnce}
use Rattle.policy.specs.Walk.{walk, empty}
use Rattle.policy.proofs.Bounds.{true_from_T}
use Rattle.policy.proofs.Grown.{Node, grown, Agrees, agrees}
use Rattle.policy.proofs.Sound.{Spelt, sound}
use Rattle.policy.proofs.Complete.{complete, node}

-- a walk without faults gives something
walked : {X : Type 0} (o : Option Refusal) (r : Result X Refusal) → Agrees o r → o ≡ None → (x : X) × (r ≡ Ok x)
walked None (Ok x) a e = (x, refl)
walked None (Err d) a e = absurd a
walked (Some y) r a e = absurd (let z : ◌≡◌ {A = ℕ} 0 1 = cc in omega arith)

pub clean : {X : Type 0} (o : Option Refusal) (r : Result X Refusal) (x : X) → Agrees o r → r ≡ Ok x → o ≡ None
clean None r x a e = refl
clean (Some y) (Ok z) x a e = absurd a
clean (Some y) (Err d) x a e = absurd (let z : ◌≡◌ {A = ℕ} 0 1 = cc in omega arith)

pub stopped : {X : Type 0} (o : Option Refusal) (r : Result X Refusal) (d : Refusal) → Agrees o r → r ≡ Err d → o ≡ Some d
stopped None (Ok x) d a e = absurd (let z : ◌≡◌ {A = ℕ} 0 1 = cc in omega arith)
stopped None (Err x) d a e = absurd a
stopped (Some y) (Ok x) d a e = absurd a
stopped (Some y) (Err x) d a e = ap Some (sym a ∙ (let q : x ≡ d = cc in q))

-- words without a fault spell a policy
pub spelt : (z : Sizes) → Small z → (ws : List ℕ) → fault_from z nothing_read 0 ws ≡ None → (out : List Node) × (walk grown z nothing_read (node empty none ∷ []) 0 ws ≡ Ok out) × Spelt z ws out
spelt z small ws e =
    let w = walked (fault_from z nothing_read 0 ws) (walk grown z nothing_read (node empty none ∷ []) 0 ws) (agrees grown z ws nothing_read (node empty none ∷ []) 0) e in
    (w.0, w.1, sound z small ws ws [] (node empty none ∷ []) 0 0 w.0 tt refl (omega arith) refl w.1)

-- the count of the words is no fault
pub counted : (z : Sizes) (ws : List ℕ) → words_fault z ws ≡ None → (length ws ≤ 4096) × (fault_from z nothing_read 0 ws ≡ None)
counted z ws e = by (eqb (length ws) 0 || ltb 4096 (length ws)) refl e
  where
    by : (b : Bool) → (eqb (length ws) 0 || ltb 4096 (length ws)) ≡ b → cond b (Some (record { reason = WordCount; place = 0 })) (fault_from z nothing_read 0 ws) ≡ None → (length ws ≤ 4096) × (fault_from z nothing_read 0 ws ≡ None)
    by true q e = absurd (let z : ◌≡◌ {A = ℕ} 0 1 = cc in omega arith)
    by false q e = (ltb-false 4096 (length ws) (or_parts _ _ q).1, e)

pub within : (z : Sizes) (ws : List ℕ) → 1 ≤ length ws → length ws ≤ 4096 → words_fault z ws ≡ fault_from z nothing_read 0 ws
within z ws lo hi =
    let q : (eqb (length ws) 0 || ltb 4096 (length ws)) ≡ false = or_from _ _ (ne_eqb (length ws) 0 (λ e. omega arith)) (le-ltb 4096 (length ws) hi) in
    ap (λ b. cond b (Some (record { reason = WordCount; place = 0 })) (fault_from z nothing_read 0 ws)) q

some_words : (c : Clause) → 1 ≤ length (spelled c)
some_words (allow l es) = omega arith
some_words (deny l es) = omega arith

pub written_of : (z : Sizes) (ws : List ℕ) (out : List Node) (s : Spelt z ws out) → length ws ≤ 4096 → Written z s.clause
written_of z ws out s h = (T_from_true _ s.well, s.deep, s.few, omega (arith, ap length s.words))

pub accepted : (z : Sizes) → Small z → (ws : List ℕ) → words_fault z ws ≡ None → (c : Clause) × Written z c × (spelled c ≡ ws)
accepted z small ws e =
    let p = counted z ws e in
    let s = (spelt z small ws p.1).2 in
    (s.clause, written_of z ws _ s p.0, s.words)

pub accepts : (z : Sizes) → Small z → (ws : List ℕ) → ((c : Clause) × Written z c × (spelled c ≡ ws)) → words_fault z ws ≡ None
accepts z small ws (c, w, e) =
    let d = complete z small c (true_from_T _ w.0) w.1 w.2 in
    let none_here : fault_from z nothing_read 0 (spelled c) ≡ None = clean (fault_from z nothing_read 0 (spelled c)) (walk grown z nothing_read (node empty none ∷ []) 0 (spelled c)) _ (agrees grown z (spelled c) nothing_read (node empty none ∷ []) 0) d in
    ap (words_fault z) (sym e) ∙ within z (spelled c) (some_words c) w.3 ∙ none_here

pub accepted_exactly : AcceptedExactly
accepted_exactly z small ws = (accepted z small ws, accepts z small ws)

pub spelled_once : SpelledOnce
spelled_once z small c d w v e =
    let p = complete z small c (true_from_T _ w.0) w.1 w.2 in
    let q = complete z small d (true_from_T _ v.0) v.1 v.2 in
    let both : ◌≡◌ {A = Result (List Node) Refusal} (Ok (node empty (more c none) ∷ [])) (Ok (node empty (more d none) ∷ [])) = sym p ∙ ap (λ ws. walk grown z nothing_read (node empty none ∷ []) 0 ws) e ∙ q in
    let lists : node empty (more c none) ∷ [] ≡ node empty (more d none) ∷ [] = cc in
    let firsts = ap (λ ys. head_exceptions ys) lists in
    ap first_clause firsts
  where
    head_exceptions : List Node → Clauses
    head_exceptions [] = more c none
    head_exceptions (y ∷ ys) = y.exceptions

    first_clause : Clauses → Clause
    first_clause none = c
    first_clause (more x xs) = x

-- The first clause of a policy's words, and what comes after it.
use Rattle.std.proofs.Common.{MatchResult, ◌≡◌, ℕ, ◌+◌, ◌-◌, ◌<◌, ◌≤◌, cond, List, [], ◌∷◌, length, get_or, drop, Some, None, Option, Ok, Err, Result, sym, refl, ap, ◌∙◌, subst, arith, length-drop, length-append, length-set}
use Rattle.std.proofs.lemmas.Bool.{eq-eqb, ne_eqb, or_left, or_right, lt-ltb}
use Rattle.arrayvec.specs.ArrayVec.{ArrayVec}
use Rattle.lattice.specs.declared.sizes.Sizes.{Sizes}
use Rattle.policy.specs.declared.clause.Kind.{Kind}
use Rattle.policy.specs.declared.draft.Phase.TheVariants.{Listing}
use Rattle.policy.specs.declared.draft.Draft.{Draft}
use Rattle.policy.specs.declared.clause.ClauseRecord.{ClauseRecord}
use Rattle.refusals.specs.declared.refusal.Reason.{Reason}
use Rattle.refusals.specs.declared.refusal.Reason.TheVariants.{MisplacedWord, WordCount}
use Rattle.refusals.specs.declared.refusal.Refusal.{Refusal}
use Rattle.policy.specs.declared.word.Word.{Word}
use Rattle.policy.specs.declared.word.Word.TheVariants.{Head, Value, Except, End}
use Rattle.policy.specs.Clauses.{Clause, none, more, clause_count}
use Rattle.policy.specs.Decode.{word_of}
use Rattle.policy.specs.Words.{Reading, checked, fault, fault_outside, fault_from, advanced, opened, words_fault, nothing_read, Small, meaning}
use Rattle.policy.specs.Walk.{walk, Slot, Records, recorded, fresh, empty}
use Rattle.policy.specs.Laid.{LaidClause}
use Rattle.policy.specs.Sized.{Sized}
use Rattle.policy.specs.Reads.{slot, goes, stored, numbered, just_open, Closes, Stops, Behind, Begins, Begun, Firsts, stray_reason}
use Rattle.policy.specs.Stands.{Drafted}
use Rattle.policy.proofs.Steps.{tail, tail_is}
use Rattle.policy.proofs.Grown.{Node, agrees, checked_on, walk_on, walk_stop}
use Rattle.policy.proofs.Recorded.{Sim, simulates}
use Rattle.policy.proofs.Complete.{node}
use Rattle.policy.proofs.Exact.{clean, stopped, spelt, within, written_of}

-- a word outside every clause
outside_stop : (d : Draft) (ws : List ℕ) → 1 ≤ length ws → (x : Reason) → checked (word_of (get_or ws 0 0)) (fault_outside (length d.clauses.items)) ≡ Err x → goes d [] [] ws ≡ Err (record { reason = x; place = d.total - length ws })
outside_stop d [] h x e = absurd (omega arith)
outside_stop d (w ∷ ws) h x e =
    walk_stop (recorded d.sizes) d.sizes (record { open_clauses = []; heads = (length d.clauses.items) }) (record { opens = []; clauses = d.clauses.items }) (d.total - length (w ∷ ws)) w ws x e

outside_head : (d : Draft) (ws : List ℕ) → 1 ≤ length ws → length ws ≤ d.total → d.clauses.items ≡ [] → (k : Kind) → word_of (get_or ws 0 0) ≡ Some (Head k)
    → goes d [] [] ws ≡ goes (numbered k d) (record { kind = k; phase = Listing; last = 0 } ∷ []) (slot (length d.clauses.items) (fresh k) ∷ []) (drop 1 ws)
outside_head d [] h t c k e = absurd (omega arith)
outside_head d (w ∷ ws) h t c k e =
    let r : Reading = record { open_clauses = []; heads = (length d.clauses.items) } in
    let x : Records = record { opens = []; clauses = d.clauses.items } in
    let none_here : fault d.sizes r (Head k) ≡ None = ap (λ b. cond b None (Some MisplacedWord)) (eq-eqb (length d.clauses.items) 0 (ap length c)) in
    let p : d.total - length (w ∷ ws) + 1 ≡ d.total - length ws = omega arith in
    walk_on (recorded d.sizes) d.sizes r x (d.total - length (w ∷ ws)) w ws (Head k) (checked_on (word_of w) (fault d.sizes r) (Head k) e none_here)
    ∙ ap (λ i. walk (recorded d.sizes) d.sizes (advanced r (Head k)) (recorded d.sizes r (Head k) x) i ws) p
    ∙ ap (λ h. walk (recorded d.sizes) d.sizes (record { open_clauses = opened k ∷ []; heads = h }) (recorded d.sizes r (Head k) x) (d.total - length ws) ws)
    (sym (length-append d.clauses.items (fresh k ∷ [])))

module _ (d : Draft) (ws : List ℕ) (some : 1 ≤ length ws) (count : d.clauses.items ≡ []) (total : d.total ≡ length ws) (w : Option Word) (ew : w ≡ word_of (get_or ws 0 0)) where
  pub begun_stray : (x : Reason) → x ≡ stray_reason w → ((k : Kind) → w ≡ Some (Head k) → ⊥) → goes d [] [] ws ≡ Err (record { reason = x; place = 0 })
  begun_stray x ex no_head =
      let f : checked w (fault_outside (length d.clauses.items)) ≡ Err x = by w no_head ex in
      let p : d.total - length ws ≡ 0 = omega arith in
      outside_stop d ws some x (ap (λ o. checked o (fault_outside (length d.clauses.items))) (sym ew) ∙ f) ∙ ap (λ i. Err (record { reason = x; place = i })) p
    where
      by : (v : Option Word) → ((k : Kind) → v ≡ Some (Head k) → ⊥) → x ≡ stray_reason v → checked v (fault_outside (length d.clauses.items)) ≡ Err x
      by (Some (Head k)) n e = absurd (n k refl)
      by (Some (Value v)) n e = ap Err (sym e)
      by (Some Except) n e = ap Err (sym e)
      by (Some End) n e = ap Err (sym e)
      by None n e = ap Err (sym e)

  module _ (k : Kind) (is : w ≡ Some (Head k)) where
    pub begun_on : (rest : List ℕ) (e : Draft) (y : ClauseRecord) → Closes (just_open k 0) (numbered k d) (fresh k) (tail ws) rest e y → Begins d ws rest (stored e (length d.clauses.items) y)
    begun_on rest e y h =
        let c : Closes (just_open k 0) (numbered k d) (fresh k) (drop 1 ws) rest e y = subst (λ q. Closes (just_open k 0) (numbered k d) (fresh k) q rest e y) (tail_is ws) h in
        record {
          shorter = omega (arith, c.shorter, length-drop 1 ws);
          some = omega (arith, c.grows, length-append d.clauses.items (fresh k ∷ []), length-set e.clauses.items (length d.clauses.items) y);
          sizes = c.sizes;
          total = c.total;
          on = outside_head d ws some (omega arith) count k (sym ew ∙ is) ∙ c.on [] [] (length d.clauses.items) refl;
        }

    pub begun_stops : (r : Refusal) → Stops (just_open k 0) (numbered k d) (fresh k) (tail ws) r → goes d [] [] ws ≡ Err r
    begun_stops r h =
        let c : Stops (just_open k 0) (numbered k d) (fresh k) (drop 1 ws) r = subst (λ q. Stops (just_open k 0) (numbered k d) (fresh k) q r) (tail_is ws) h in
        outside_head d ws some (omega arith) count k (sym ew ∙ is) ∙ c [] [] (length d.clauses.items) refl

    begun_behind : (r : Result (List ℕ) Refusal) (e : Draft) → Behind k 0 d (tail ws) r e → Begun d ws r e
    begun_behind (Ok rest) e (g, (y, (c, q))) = subst (λ f. Begins d ws rest f) (sym q) (begun_on rest g y c)
    begun_behind (Err r) e h = begun_stops r h

    -- the same, where what is left is lent
    pub begun_lent : {R : Type 0} (r : Result R Refusal) (words_of : R → List ℕ) (e : Draft) → MatchResult r (λ x. Behind k 0 d (tail ws) (Ok (words_of x)) e) (λ x. Behind k 0 d (tail ws) (Err x) e)
        → MatchResult r (λ x. Begun d ws (Ok (words_of x)) e) (λ x. Begun d ws (Err x) e)
    begun_lent (Ok x) words_of e h = begun_behind (Ok (words_of x)) e h
    begun_lent (Err x) words_of e h = begun_behind (Err x) e h

pub begun_none : (d : Draft) (ws : List ℕ) → length ws < 1 → d.clauses.items ≡ [] → d.total ≡ length ws → goes d [] [] ws ≡ Err (record { reason = MisplacedWord; place = 0 })
unfolding walk
begun_none d [] h c t =
    let p : d.total - 0 ≡ 0 = omega arith in
    ap (λ b. cond b (Err (record { reason = MisplacedWord; place = d.total - 0 })) (Ok (record { opens = []; clauses = d.clauses.items }))) (eq-eqb (length d.clauses.items) 0 (ap length c)) ∙ ap (λ i. Err (record { reason = MisplacedWord; place = i })) p
begun_none d (w ∷ ws) h c t = absurd (omega arith)

-- after the first clause
goes_end : (e : Draft) → 1 ≤ (length e.clauses.items) → goes e [] [] [] ≡ Ok (record { opens = []; clauses = e.clauses.items })
unfolding walk
goes_end e h = ap (λ b. cond b (Err (record { reason = MisplacedWord; place = e.total - 0 })) (Ok (record { opens = []; clauses = e.clauses.items }))) (ne_eqb (length e.clauses.items) 0 (λ q. omega arith))

pub first_whole : (d e : Draft) (ws rest : List ℕ) → Begins d ws rest e → length rest < 1 → Firsts d ws (Ok tt) e
first_whole d e ws [] b z = (b.on ∙ goes_end e b.some, b.sizes)
first_whole d e ws (w ∷ rest) b z = absurd (omega arith)

stray_fault : (n : ℕ) → 1 ≤ n → (w : Option Word) → checked w (fault_outside n) ≡ Err (stray_reason w)
stray_fault n h (Some (Head k)) = ap (λ b. elim (cond b None (Some MisplacedWord)) [ Some y ↦ Err y | None ↦ Ok (Head k) ]) (ne_eqb n 0 (λ e. omega arith))
stray_fault n h (Some (Value v)) = refl
stray_fault n h (Some Except) = refl
stray_fault n h (Some End) = refl
stray_fault n h None = refl

pub first_stray : (d e : Draft) (ws rest : List ℕ) → d.total ≡ length ws → Begins d ws rest e → 1 ≤ length rest → (w : Option Word) → w ≡ word_of (get_or rest 0 0) → (x : Reason) → x ≡ stray_reason w
    → goes d [] [] ws ≡ Err (record { reason = x; place = length ws - length rest })
first_stray d e ws rest t b some w ew x ex =
    let f : checked (word_of (get_or rest 0 0)) (fault_outside (length e.clauses.items)) ≡ Err x =
    ap (λ o. checked o (fault_outside (length e.clauses.items))) (sym ew) ∙ stray_fault (length e.clauses.items) b.some w ∙ ap Err (sym ex) in
    let et = b.total in
    let p : e.total - length rest ≡ length ws - length rest = omega arith in
    b.on ∙ outside_stop e rest some x f ∙ ap (λ j. Err (record { reason = x; place = j })) p

-- the whole draft
pub sized_small : (z : Sizes) → Sized z → Small z
sized_small z s = ((s.store_high, s.purpose_high), (s.role_high, s.types_high))

abbrev blank : Sizes → ArrayVec ClauseRecord → List ℕ → Draft
blank z v ws = record { clauses = v; sizes = z; total = length ws }

abbrev unread : Records
unread = record { opens = []; clauses = [] }

from_zero : (z : Sizes) (v : ArrayVec ClauseRecord) → v.items ≡ [] → (ws : List ℕ) → goes (blank z v ws) [] [] ws ≡ walk (recorded z) z nothing_read unread 0 ws
from_zero z v e ws =
    let p : length ws - length ws ≡ 0 = omega arith in
    ap (λ i. walk (recorded z) z (record { open_clauses = []; heads = length v.items }) (record { opens = []; clauses = v.items }) i ws) p
    ∙ ap (λ xs. walk (recorded z) z (record { open_clauses = []; heads = length xs }) (record { opens = []; clauses = xs }) 0 ws) e

laid_from : (z : Sizes) (out : List Node) (c : Clause) (l : Rattle.policy.specs.declared.label.Label.Label) (ss : List Slot) (n : ℕ) (rs : List ClauseRecord) → out ≡ record { list = l; exceptions = more c none } ∷ [] → Sim z [] out ss n rs
    → LaidClause rs 0 (meaning z c) × (n ≡ clause_count c)
laid_from z out c l ss n rs e s = by ss (subst (λ o. Sim z [] o ss n rs) e s)
  where
    by : (ss : List Slot) → Sim z [] (record { list = l; exceptions = more c none } ∷ []) ss n rs → LaidClause rs 0 (meaning z c) × (n ≡ clause_count c)
    by [] h = (h.0.0, let q = h.1 in omega arith)
    by (k ∷ ks) h = absurd h

pub drafted : (z : Sizes) → Sized z → (v : ArrayVec ClauseRecord) → v.items ≡ [] → (ws : List ℕ) → 1 ≤ length ws → length ws ≤ 4096 → (e : Draft) → Firsts (blank z v ws) ws (Ok tt) e → Drafted z ws (Ok e)
drafted z sized v ev ws lo hi e f =
    let x : Records = record { opens = []; clauses = e.clauses.items } in
    let w : walk (recorded z) z nothing_read unread 0 ws ≡ Ok x = sym (from_zero z v ev ws) ∙ f.0 in
    let no_fault : fault_from z nothing_read 0 ws ≡ None = clean (fault_from z nothing_read 0 ws) (walk (recorded z) z nothing_read unread 0 ws) x (agrees (recorded z) z ws nothing_read unread 0) w in
    let s = spelt z (sized_small z sized) ws no_fault in
    let sim = simulates z ws [] (node empty none ∷ []) 0 unread 0 s.0 x (tt, refl) refl s.1 w in
    let t = s.2 in
    let both = laid_from z s.0 t.clause t.outside [] (length e.clauses.items) e.clauses.items t.is sim in (
      record { clause = t.clause; written = written_of z ws s.0 t hi; words = t.words; laid = both.0; count = both.1 },
      within z ws lo hi ∙ no_fault,
      f.1,
    )

pub draft_stops : (z : Sizes) (v : ArrayVec ClauseRecord) → v.items ≡ [] → (ws : List ℕ) → 1 ≤ length ws → length ws ≤ 4096 → (x : Refusal) → goes (blank z v ws) [] [] ws ≡ Err x → words_fault z ws ≡ Some x
draft_stops z v ev ws lo hi x e =
    within z ws lo hi ∙ stopped (fault_from z nothing_read 0 ws) (walk (recorded z) z nothing_read unread 0 ws) x (agrees (recorded z) z ws nothing_read unread 0) (sym (from_zero z v ev ws) ∙ e)

pub none_given : (z : Sizes) (ws : List ℕ) → length ws ≡ 0 → words_fault z ws ≡ Some (record { reason = WordCount; place = 0 })
none_given z ws e = ap (λ b. cond b (Some (record { reason = WordCount; place = 0 })) (fault_from z nothing_read 0 ws)) (or_left _ _ (eq-eqb (length ws) 0 e))

pub too_many : (z : Sizes) (ws : List ℕ) → 4096 < length ws → words_fault z ws ≡ Some (record { reason = WordCount; place = 0 })
too_many z ws h = ap (λ b. cond b (Some (record { reason = WordCount; place = 0 })) (fault_from z nothing_read 0 ws)) (or_right _ _ (lt-ltb 4096 (length ws) h))

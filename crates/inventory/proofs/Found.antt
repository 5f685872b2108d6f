-- Where a flow stands in a list of flows.
use Rattle.std.proofs.Common.{◌≡◌, ℕ, ◌<◌, Bool, true, false, not, ltb, List, [], ◌∷◌, map, length, get_or, is_some, Some, None, Option, sym, refl, ap, ◌∙◌, ⊎_elim, arith, cond, ◌+◌}
use Rattle.std.specs.List.{position, position_or_len, prefix_len}
use Rattle.std.proofs.lemmas.Bool.{cond-true, cond-false, eq-eqb, and_from, cases_lt, lt-ltb, le-ltb}
use Rattle.std.proofs.lemmas.Option.{none-some}
use Rattle.std.proofs.lemmas.List.{length-map, get_or_default}
use Rattle.std.proofs.lemmas.List.Quantifiers.{position-Some}
use Rattle.std.proofs.lemmas.List.Sums.{fails_before_first, position_or_len_is}
use Rattle.flows.specs.declared.records.FlowRecord.{FlowRecord}
use Rattle.flows.specs.Graph.{no_flow}
use Rattle.inventory.proofs.Lists.{get_or_of_map}
use Rattle.ledger.specs.Ledger.{Flow, flow_number, same_flow}
use Rattle.inventory.specs.View.{flow_of, no_flow_yet}

pub not_standing : (o : Option ℕ) → is_some o ≡ false → o ≡ None
not_standing (Some k) h = cc
not_standing None h = refl

module _ {A B : Type 0} (f : A → B) (p : B → Bool) where
  prefix_map : (xs : List A) → prefix_len (λ x. not (p (f x))) xs ≡ prefix_len (λ y. not (p y)) (map f xs)
  prefix_map [] = refl
  prefix_map (x ∷ xs) = ap (λ k. cond (not (p (f x))) (1 + k) 0) (prefix_map xs)

  -- where each item is made anew, the same number is found
  pub position_map : (xs : List A) → position (λ x. p (f x)) xs ≡ position p (map f xs)
  position_map xs =
      ap (λ k. cond (ltb k (length xs)) (Some k) None) (prefix_map xs)
      ∙ ap (λ n. cond (ltb (position_or_len p (map f xs)) n) (Some (position_or_len p (map f xs))) None) (sym (length-map xs f))

module _ (a b s : ℕ) where
  -- no flow is the one that is not found
  pub none_same : (fs : List Flow) → flow_number fs a b s ≡ None → (j : ℕ) → j < length fs → same_flow (get_or fs j no_flow_yet) a b s ≡ false
  none_same fs h j l =
      let p : Flow → Bool = λ f. same_flow f a b s in
      let n = position_or_len p fs in
      ⊎_elim (λ low. absurd (none-some n (sym h ∙ cond-true (ltb n (length fs)) (Some n) None (lt-ltb n (length fs) low))))
      (λ past. fails_before_first p fs j no_flow_yet (omega arith))
      (cases_lt n (length fs))

  -- and if no flow is the one, it is not found
  pub same_none : (fs : List Flow) → ((j : ℕ) → j < length fs → same_flow (get_or fs j no_flow_yet) a b s ≡ false) → flow_number fs a b s ≡ None
  same_none fs h =
      let p : Flow → Bool = λ f. same_flow f a b s in
      let n = position_or_len p fs in
      let e : n ≡ length fs = position_or_len_is p fs (length fs) no_flow_yet (omega arith) h (λ low. absurd (omega arith)) in
      cond-false (ltb n (length fs)) (Some n) None (le-ltb n (length fs) (omega (arith, e)))

  -- the first that is the one is found
  pub same_first : (fs : List Flow) (i : ℕ) → i < length fs → ((j : ℕ) → j < i → same_flow (get_or fs j no_flow_yet) a b s ≡ false)
      → same_flow (get_or fs i no_flow_yet) a b s ≡ true → flow_number fs a b s ≡ Some i
  same_first fs i l h t =
      let p : Flow → Bool = λ f. same_flow f a b s in
      let n = position_or_len p fs in
      let e : n ≡ i = position_or_len_is p fs i no_flow_yet (omega arith) h (λ low. t) in
      cond-true (ltb n (length fs)) (Some n) None (lt-ltb n (length fs) (omega (arith, e))) ∙ ap Some e

  -- a flow that is found is there
  pub found_within : (fs : List Flow) (k : ℕ) → flow_number fs a b s ≡ Some k → k < length fs
  found_within fs k h = (position-Some (λ f. same_flow f a b s) fs k no_flow_yet h).0

  -- a flow is the same as itself
  pub same_self : same_flow (record { from = a; to = b; step = s }) a b s ≡ true
  same_self = and_from _ _ (and_from _ _ (eq-eqb a a refl) (eq-eqb b b refl)) (eq-eqb s s refl)

  -- the test of a record, in the ledger's words
  pub same_at : (fs : List FlowRecord) (i : ℕ) (d : FlowRecord) (t : Bool) → i < length fs → t ≡ same_flow (flow_of (get_or fs i d)) a b s
      → same_flow (get_or (map flow_of fs) i no_flow_yet) a b s ≡ t
  same_at fs i d t l h =
      ap (λ f. same_flow f a b s) (get_or_of_map flow_of fs i no_flow ∙ ap flow_of (get_or_default fs i no_flow d l)) ∙ sym h

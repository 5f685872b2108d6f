-- The worked examples, computed by the definitions.
use Rattle.std.proofs.Common.{◌≡◌, ℕ, zero, suc, ◌^◌, ◌<◌, ◌≤◌, Bool, true, false, cond, T, eqb, List, [], ◌∷◌, sym, refl, ◌∙◌, subst, inl, inr, arith, lit<, lit≤}
use Rattle.std.proofs.lemmas.Bool.{true≢false}
use Rattle.lattice.specs.Sets.{has, with, without, every, some_below, least, all_of, some_of, gather, image}
use Rattle.lattice.specs.Order.{is_meet, is_join, meet, join}
use Rattle.lattice.proofs.Members.{has_empty}
use Rattle.policy.specs.declared.label.Label.{Label}
use Rattle.policy.specs.Clauses.{Clause, allow, deny, none, more, covered_in, overlap, narrowed_in, evidence}
use Rattle.policy.specs.Policies.{Spells}
use Rattle.policy.specs.Words.{values_below, spelled, Written}
use Rattle.policy.proofs.Exact.{spelled_once}
use Rattle.ledger.specs.Ledger.{Ledger, Node, Flow, node_at, flow_at, carried, IsFlowPath, Brought, Shortest}
use Rattle.ledger.specs.Run.{LabelOf}
use Rattle.ledger.specs.Labelling.{Carries, Closed, Apart}
use Rattle.ledger.proofs.Labellings.{closed_labellings_are_labels, near_paths_are_shortest}
use Rattle.ledger.proofs.Ranges.{has_below}
use Rattle.examples.specs.Worked.{sizes, adverts_words, together_words, WorkedExamples}

-- naming this one unfolds what an example computes with
unfoldable computing : Unit {0}
unfolding has with without every some_below least all_of some_of gather image is_meet is_join meet join covered_in overlap narrowed_in evidence values_below
computing = tt

-- ---- the two policies

abbrev written : ℕ → ℕ → Label
written p d = record { store = 0; purpose = p; role = 0; types = d }

abbrev adverts : Clause
adverts = deny (written 0b100 0b100) (more (allow (written 0 0b10) none) none)

abbrev together : Clause
together = allow (written 0 0) (more (deny (written 0 0b10100) none) none)

spells : (words : List ℕ) (c : Clause) → Written sizes c → spelled c ≡ words → Spells sizes words c
spells words c w e = record {
  written = w;
  words = e;
  only = λ d v f. spelled_once sizes ((lit≤ tt, lit≤ tt), (lit≤ tt, lit≤ tt)) d c v w (f ∙ sym e);
}

adverts_spelt : Spells sizes adverts_words adverts
unfolding computing
adverts_spelt = spells adverts_words adverts (tt, lit≤ tt, lit≤ tt, lit≤ tt) refl

together_spelt : Spells sizes together_words together
unfolding computing
together_spelt = spells together_words together (tt, lit≤ tt, lit≤ tt, lit≤ tt) refl

-- ---- the ledger written out

abbrev node : ℕ → Bool → Node
node m b = record { store = 0; purpose = 0; role = 0; marks = m; verified = b }

abbrev flow : ℕ → ℕ → ℕ → Flow
flow a b s = record { from = a; to = b; step = s }

-- b: node 2 is verified
abbrev plain : Bool → Ledger
plain b = record {
  sizes = record { store = 2; purpose = 4; role = 2; types = 7 };
  node_room = 3;
  flow_room = 3;
  nodes = node 4 false ∷ node 0 false ∷ node 0 b ∷ [];
  steps = (0 ∷ 1 ∷ 2 ∷ 3 ∷ 4 ∷ 5 ∷ 6 ∷ []) ∷ (0 ∷ 1 ∷ 1 ∷ 3 ∷ 3 ∷ 5 ∷ 5 ∷ []) ∷ [];
  flows = flow 0 1 0 ∷ flow 1 2 1 ∷ flow 2 1 0 ∷ [];
  settled = true;
}

-- ---- the values of a small set

each_of : (s : ℕ) (P : ℕ → Type 0) → s < 8 → (T (has s 0) → P 0) → (T (has s 1) → P 1) → (T (has s 2) → P 2) → (v : ℕ) → T (has s v) → P v
each_of s P small nil one two zero h = nil h
each_of s P small nil one two (suc zero) h = one h
each_of s P small nil one two (suc (suc zero)) h = two h
each_of s P small nil one two (suc (suc (suc v))) h = absurd (omega (arith, has_below s 3 (suc (suc (suc v))) small h))

empty : (v : ℕ) → T (has 0 v) → ⊥
empty v h = subst T (has_empty v) h

-- ---- node 2 not verified: the labels are {2}, {1, 2} and {1}

abbrev label : ℕ → ℕ
label zero = 4
label (suc zero) = 6
label (suc (suc zero)) = 2
label (suc (suc (suc n))) = 0

label_small : (n : ℕ) → label n < 2 ^ 64
label_small zero = lit< tt
label_small (suc zero) = lit< tt
label_small (suc (suc zero)) = lit< tt
label_small (suc (suc (suc n))) = lit< tt

only_two : (P : ℕ → Type 0) → P 2 → (v : ℕ) → T (has 4 v) → P v
unfolding has
only_two P two = each_of 4 P (lit< tt) (λ h. absurd h) (λ h. absurd h) (λ h. two)

only_one : (P : ℕ → Type 0) → P 1 → (v : ℕ) → T (has 2 v) → P v
unfolding has
only_one P one = each_of 2 P (lit< tt) (λ h. absurd h) (λ h. one) (λ h. absurd h)

one_or_two : (P : ℕ → Type 0) → P 1 → P 2 → (v : ℕ) → T (has 6 v) → P v
unfolding has
one_or_two P one two = each_of 6 P (lit< tt) (λ h. absurd h) (λ h. one) (λ h. two)

label_closed : Closed (plain false) label
unfolding has
label_closed = record { marks = marks; flows = flows }
  where
    marks : (n v : ℕ) → n < 3 → T (has (node_at (plain false) n).marks v) → T (has (label n) v)
    marks zero v inside h = h
    marks (suc zero) v inside h = absurd (empty v h)
    marks (suc (suc zero)) v inside h = absurd (empty v h)
    marks (suc (suc (suc n))) v inside h = absurd (omega arith)

    flows : (f v : ℕ) → Carries (plain false) f v → T (has (label (flow_at (plain false) f).from) v) →
        T (has (label (flow_at (plain false) f).to) (carried (plain false) (flow_at (plain false) f).step v))
    flows zero v ways h = only_two (λ v. T (has 6 (carried (plain false) 0 v))) tt v h
    flows (suc zero) v ways h = one_or_two (λ v. T (has 2 (carried (plain false) 1 v))) tt tt v h
    flows (suc (suc zero)) v ways h = only_one (λ v. T (has 6 (carried (plain false) 0 v))) tt v h
    flows (suc (suc (suc f))) v ways h = absurd (omega (arith, ways.0))

path_0_2 : (b : Bool) → IsFlowPath (plain b) [] 0 2
unfolding has
path_0_2 b = (0, 2, lit< tt, tt, (refl, refl))

path_1_2 : (b : Bool) → IsFlowPath (plain b) (0 ∷ []) 1 2
unfolding has
path_1_2 b = (0, 2, lit< tt, tt, (lit< tt, refl, lit< tt, refl, (refl, refl)))

path_2_1 : IsFlowPath (plain false) (0 ∷ 1 ∷ []) 2 1
unfolding has
path_2_1 = (0, 2, lit< tt, tt, (lit< tt, refl, lit< tt, refl, (lit< tt, refl, lit< tt, refl, (refl, refl))))

path_1_1 : IsFlowPath (plain false) (0 ∷ 1 ∷ 2 ∷ []) 1 1
unfolding has
path_1_1 = (0, 2, lit< tt, tt, (lit< tt, refl, lit< tt, refl, (lit< tt, refl, lit< tt, refl, (lit< tt, refl, lit< tt, refl, (refl, refl)))))

label_brought : (n v : ℕ) → T (has (label n) v) → Brought (plain false) n v
label_brought zero v h = only_two (Brought (plain false) 0) ∣ ([], path_0_2 false) ∣₁ v h
label_brought (suc zero) v h = one_or_two (Brought (plain false) 1) ∣ (0 ∷ 1 ∷ 2 ∷ [], path_1_1) ∣₁ ∣ (0 ∷ [], path_1_2 false) ∣₁ v h
label_brought (suc (suc zero)) v h = only_one (Brought (plain false) 2) ∣ (0 ∷ 1 ∷ [], path_2_1) ∣₁ v h
label_brought (suc (suc (suc n))) v h = absurd (empty v h)

plain_label : (n : ℕ) → LabelOf (plain false) n (label n)
plain_label = closed_labellings_are_labels (plain false) label label_closed label_small label_brought

-- ---- how far each value is from its mark

abbrev far : ℕ → ℕ → ℕ
far n v = cond (eqb n 1) (cond (eqb v 1) 3 1) (cond (eqb n 2) 2 0)

label_apart : Apart (plain false) label far
unfolding has
label_apart = record { marks = marks; flows = flows }
  where
    marks : (n v : ℕ) → n < 3 → T (has (node_at (plain false) n).marks v) → far n v ≡ 0
    marks zero v inside h = refl
    marks (suc zero) v inside h = absurd (empty v h)
    marks (suc (suc zero)) v inside h = absurd (empty v h)
    marks (suc (suc (suc n))) v inside h = absurd (omega arith)

    flows : (f v : ℕ) → Carries (plain false) f v → T (has (label (flow_at (plain false) f).from) v) →
        far (flow_at (plain false) f).to (carried (plain false) (flow_at (plain false) f).step v) ≤ suc (far (flow_at (plain false) f).from v)
    flows zero v ways h = only_two (λ v. far 1 (carried (plain false) 0 v) ≤ suc (far 0 v)) (lit≤ tt) v h
    flows (suc zero) v ways h = one_or_two (λ v. far 2 (carried (plain false) 1 v) ≤ suc (far 1 v)) (lit≤ tt) (lit≤ tt) v h
    flows (suc (suc zero)) v ways h = only_one (λ v. far 1 (carried (plain false) 0 v) ≤ suc (far 2 v)) (lit≤ tt) v h
    flows (suc (suc (suc f))) v ways h = absurd (omega (arith, ways.0))

shortest_plain : Shortest (plain false) (0 ∷ 1 ∷ 2 ∷ []) 1 1
shortest_plain = near_paths_are_shortest (plain false) label far label_closed label_apart (0 ∷ 1 ∷ 2 ∷ []) 1 1 path_1_1 (lit≤ tt)

-- ---- node 2 verified: the labels are {2}, {2} and none

abbrev verified_label : ℕ → ℕ
verified_label zero = 4
verified_label (suc zero) = 4
verified_label (suc (suc n)) = 0

verified_small : (n : ℕ) → verified_label n < 2 ^ 64
verified_small zero = lit< tt
verified_small (suc zero) = lit< tt
verified_small (suc (suc n)) = lit< tt

verified_closed : Closed (plain true) verified_label
unfolding has
verified_closed = record { marks = marks; flows = flows }
  where
    marks : (n v : ℕ) → n < 3 → T (has (node_at (plain true) n).marks v) → T (has (verified_label n) v)
    marks zero v inside h = h
    marks (suc zero) v inside h = absurd (empty v h)
    marks (suc (suc zero)) v inside h = absurd (empty v h)
    marks (suc (suc (suc n))) v inside h = absurd (omega arith)

    flows : (f v : ℕ) → Carries (plain true) f v → T (has (verified_label (flow_at (plain true) f).from) v) →
        T (has (verified_label (flow_at (plain true) f).to) (carried (plain true) (flow_at (plain true) f).step v))
    flows zero v ways h = only_two (λ v. T (has 4 (carried (plain true) 0 v))) tt v h
    flows (suc zero) v ways h = absurd (true≢false ways.2)
    flows (suc (suc zero)) v ways h = absurd (empty v h)
    flows (suc (suc (suc f))) v ways h = absurd (omega (arith, ways.0))

verified_brought : (n v : ℕ) → T (has (verified_label n) v) → Brought (plain true) n v
verified_brought zero v h = only_two (Brought (plain true) 0) ∣ ([], path_0_2 true) ∣₁ v h
verified_brought (suc zero) v h = only_two (Brought (plain true) 1) ∣ (0 ∷ [], path_1_2 true) ∣₁ v h
verified_brought (suc (suc n)) v h = absurd (empty v h)

plain_verified_label : (n : ℕ) → LabelOf (plain true) n (verified_label n)
plain_verified_label = closed_labellings_are_labels (plain true) verified_label verified_closed verified_small verified_brought

-- ---- the table

-- a row of a policy that is spelt, its three numbers computed
pub worked_examples : WorkedExamples
unfolding computing
worked_examples = record {
  full_identity_and_full_turns_meet_in_nothing = refl;
  full_identity_and_full_turns_join_in_full_anything = refl;
  full_identity_meets_coarse_anything_in_coarse_identity = refl;
  full_identity_is_refused_for_adverts = record { clause = adverts; spelt = adverts_spelt; verdict = refl; decided = refl; rests = refl };
  coarse_identity_passes_for_adverts = record { clause = adverts; spelt = adverts_spelt; verdict = refl; decided = refl; rests = refl };
  full_beside_coarse_identity_is_refused_for_the_full = record { clause = adverts; spelt = adverts_spelt; verdict = refl; decided = refl; rests = refl };
  coarse_identity_beside_full_turns_passes = record { clause = adverts; spelt = adverts_spelt; verdict = refl; decided = refl; rests = refl };
  full_turns_pass_for_adverts = record { clause = adverts; spelt = adverts_spelt; verdict = refl; decided = refl; rests = refl };
  a_purpose_left_out_is_any_purpose = record { clause = adverts; spelt = adverts_spelt; verdict = refl; decided = refl; rests = refl };
  full_identity_passes_for_royalties = record { clause = adverts; spelt = adverts_spelt; verdict = refl; decided = refl; rests = refl };
  identity_alone_passes = record { clause = together; spelt = together_spelt; verdict = refl; decided = refl; rests = refl };
  identity_together_with_turns_is_refused = record { clause = together; spelt = together_spelt; verdict = refl; decided = refl; rests = refl };
  one_value_above_both_is_evidence_enough = record { clause = together; spelt = together_spelt; verdict = refl; decided = refl; rests = refl };
  no_data_passes = record { clause = together; spelt = together_spelt; verdict = refl; decided = refl; rests = refl };
  the_mark_stays_at_the_first_node = plain_label 0;
  the_second_node_has_full_and_coarse_identity = plain_label 1;
  the_third_node_has_coarse_identity = plain_label 2;
  verified_the_first_node_has_its_mark = plain_verified_label 0;
  verified_nothing_comes_back_to_the_second_node = plain_verified_label 1;
  verified_nothing_comes_to_the_third_node = plain_verified_label 2;
  coarse_identity_comes_back_by_three_flows = shortest_plain;
  a_piece_of_three_shows_them = inr (0 ∷ 1 ∷ 2 ∷ [], shortest_plain, inr (lit≤ tt, refl));
  a_piece_of_two_is_too_short = inr (0 ∷ 1 ∷ 2 ∷ [], shortest_plain, inl (lit< tt, refl));
}

-- The worked examples, as one table. Assumes nothing.
-- Kinds of data are a table of 4 (reader identity 1, page turns 2, anything 3, the first two unrelated), states a ladder of 3 (coarse 1, full 2), and
-- data types their pair: identity coarse 1 and full 2, turns coarse 3 and full 4, anything coarse 5 and full 6. Purposes have the kinds' shape:
-- royalties 1, adverts 2, any 3. Stores and roles are ladders of 2.
use Rattle.std.specs.Prelude.{◌≡◌, ℕ, Bool, true, false, List, [], ◌∷◌, Some}
use Rattle.lattice.specs.Order.{Order, meet, join, table, ladder, pair}
use Rattle.lattice.specs.Schemes.{Scheme, scheme_sizes}
use Rattle.lattice.specs.declared.sizes.Sizes.{Sizes}
use Rattle.refusals.specs.declared.refusal.Reason.TheVariants.{ShortPiece}
use Rattle.policy.specs.declared.label.Label.{Label}
use Rattle.policy.specs.Labels.{declared}
use Rattle.policy.specs.Clauses.{Clause, allows, decider, evidence}
use Rattle.policy.specs.Policies.{Spells}
use Rattle.policy.specs.Words.{meaning}
use Rattle.ledger.specs.Ledger.{Ledger, Call, enter, step, mark, verify, draw, settle, path, fresh, after, Shortest}
use Rattle.ledger.specs.Run.{Answered, LabelOf, refused, shown}

abbrev pub kinds : Order
kinds = table (0b1111 ∷ 0b1010 ∷ 0b1100 ∷ 0b1000 ∷ [])

abbrev pub data_types : Order
data_types = pair kinds (ladder 3)

abbrev pub scheme : Scheme
scheme = record { store = ladder 2; purpose = kinds; role = ladder 2; types = data_types }

abbrev pub sizes : Sizes
sizes = scheme_sizes scheme

-- no full reader identity for adverts, coarse excepted
abbrev pub adverts_words : List ℕ
adverts_words = 0x20000000 ∷ 0x31000002 ∷ 0x33000002 ∷ 0x40000000 ∷ 0x10000000 ∷ 0x33000001 ∷ 0x50000000 ∷ 0x50000000 ∷ []

-- anything, except reader identity and page turns together in full
abbrev pub together_words : List ℕ
together_words = 0x10000000 ∷ 0x40000000 ∷ 0x20000000 ∷ 0x33000002 ∷ 0x33000004 ∷ 0x50000000 ∷ 0x50000000 ∷ []

-- a label with this purpose, left out where it is empty, and these data types
abbrev pub held : ℕ → ℕ → Label
held p d = declared sizes (record { store = 0; purpose = p; role = 0; types = d })

-- under the policy that the words spell: passed or not, the deciding clause, the evidence
pub record Judged (words : List ℕ) (p d : ℕ) (passed : Bool) (by left : ℕ) : Type 0 where
  pub clause : Clause
  pub spelt : Spells sizes words clause
  pub verdict : allows scheme (meaning sizes clause) (held p d) ≡ passed
  pub decided : decider scheme 0 (meaning sizes clause) (held p d) ≡ by
  pub rests : evidence scheme (meaning sizes clause) (held p d) ≡ left

-- calls one after another
abbrev pub fed : Ledger → List Call → Ledger
fed L [] = L
fed L (c ∷ cs) = fed (after L c) cs

-- three nodes, full identity marked at the first; a copy to the second, all made coarse to the third, and a copy back to the second
abbrev pub cycle : Ledger
cycle = fed (fresh sizes 3 3 384)
    (enter 0 0 0 ∷ enter 0 0 0 ∷ enter 0 0 0 ∷ step (0 ∷ 1 ∷ 1 ∷ 3 ∷ 3 ∷ 5 ∷ 5 ∷ []) ∷ mark 0 2 ∷ draw 0 1 0 ∷ draw 1 2 1 ∷ draw 2 1 0 ∷ settle ∷ [])

abbrev pub cycle_verified : Ledger
cycle_verified = fed cycle (verify 2 true ∷ settle ∷ [])

pub record WorkedExamples : Type 0 where
  pub full_identity_and_full_turns_meet_in_nothing : meet data_types 2 4 ≡ Some 0
  pub full_identity_and_full_turns_join_in_full_anything : join data_types 2 4 ≡ Some 6
  pub full_identity_meets_coarse_anything_in_coarse_identity : meet data_types 2 5 ≡ Some 1
  pub full_identity_is_refused_for_adverts : Judged adverts_words 0b100 0b100 false 0 0b100
  pub coarse_identity_passes_for_adverts : Judged adverts_words 0b100 0b10 true 1 0
  pub full_beside_coarse_identity_is_refused_for_the_full : Judged adverts_words 0b100 0b110 false 0 0b100
  pub coarse_identity_beside_full_turns_passes : Judged adverts_words 0b100 0b10010 true 1 0
  pub full_turns_pass_for_adverts : Judged adverts_words 0b100 0b10000 true 0 0
  pub a_purpose_left_out_is_any_purpose : Judged adverts_words 0 0b100 false 0 0b100
  pub full_identity_passes_for_royalties : Judged adverts_words 0b10 0b100 true 0 0
  pub identity_alone_passes : Judged together_words 0 0b100 true 0 0
  pub identity_together_with_turns_is_refused : Judged together_words 0 0b10100 false 1 0b10100
  pub one_value_above_both_is_evidence_enough : Judged together_words 0 0b1010100 false 1 0b1000000
  pub no_data_passes : Judged together_words 0 0 true 0 0
  pub the_mark_stays_at_the_first_node : LabelOf cycle 0 0b100
  pub the_second_node_has_full_and_coarse_identity : LabelOf cycle 1 0b110
  pub the_third_node_has_coarse_identity : LabelOf cycle 2 0b10
  pub verified_the_first_node_has_its_mark : LabelOf cycle_verified 0 0b100
  pub verified_nothing_comes_back_to_the_second_node : LabelOf cycle_verified 1 0b100
  pub verified_nothing_comes_to_the_third_node : LabelOf cycle_verified 2 0
  pub coarse_identity_comes_back_by_three_flows : Shortest cycle (0 ∷ 1 ∷ 2 ∷ []) 1 1
  pub a_piece_of_three_shows_them : Answered cycle (path 1 1 3) (shown (0 ∷ 1 ∷ 2 ∷ []))
  pub a_piece_of_two_is_too_short : Answered cycle (path 1 1 2) (refused (record { reason = ShortPiece; place = 0 }))

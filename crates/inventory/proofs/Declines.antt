-- What the counts say of a call is what the ledger says.
use Rattle.std.proofs.Common.{◌≡◌, ℕ, ◌<◌, Bool, true, false, not, ◌&&◌, eqb, ltb, List, length, get_or, take, None, Option, refl, ap, ◌∙◌, arith}
use Rattle.std.proofs.lemmas.List.{length-map}
use Rattle.std.proofs.lemmas.Bool.{and_parts, eqb-true, ltb-true, not-true}
use Rattle.refusals.specs.declared.refusal.Refusal.{Refusal}
use Rattle.policy.specs.Policies.{Policy}
use Rattle.lattice.specs.Schemes.{Scheme}
use Rattle.refusals.specs.declared.refusal.Reason.{Reason}
use Rattle.refusals.specs.declared.refusal.Reason.TheVariants.{NoNode, NoStep, BadArgument, FlowStands, NoFlow, NoRoom, Unsettled, SizesDiffer}
use Rattle.std.specs.List.{list_all}
use Rattle.policy.specs.Words.{in_range}
use Rattle.ledger.specs.Ledger.{Call, enter, step, mark, unmark, verify, draw, strike, settle, judge, path, same_sizes, declined, unless, good_row, good_value, stands}
use Rattle.lattice.specs.Schemes.{scheme_sizes}
use Rattle.lattice.specs.Faults.{or_else}
use Rattle.inventory.specs.View.{View, ledger_of, nodes_of, flows_of, steps_of, node_of, flow_of}
use Rattle.inventory.specs.Sound.{Sound}
use Rattle.inventory.specs.Checks.{refusal_of, ends_there}
use Rattle.inventory.proofs.Lists.{read_length}

module _ (v : View) (s : Sound v) where
  pub nodes_counted : length (nodes_of v) ≡ v.node_count
  nodes_counted = read_length node_of v.nodes v.node_count (omega (arith, s.node_fits))

  pub flows_counted : length (flows_of v) ≡ v.flow_count
  flows_counted = read_length flow_of v.flows v.flow_count (omega (arith, s.flow_fits))

  pub steps_counted : length (steps_of v) ≡ length v.steps
  steps_counted = length-map v.steps (take v.sizes.types)

  ends_is : (a b t : ℕ) (rest : Option Refusal)
      → or_else (unless (ltb a (length (nodes_of v))) NoNode a) (or_else (unless (ltb b (length (nodes_of v))) NoNode b)
      (or_else (unless (ltb t (length (steps_of v))) NoStep t) rest)) ≡ ends_there v a b t rest
  ends_is a b t rest =
      ap (λ n. or_else (unless (ltb a n) NoNode a) (or_else (unless (ltb b n) NoNode b)
      (or_else (unless (ltb t (length (steps_of v))) NoStep t) rest))) nodes_counted
      ∙ ap (λ n. or_else (unless (ltb a v.node_count) NoNode a) (or_else (unless (ltb b v.node_count) NoNode b)
      (or_else (unless (ltb t n) NoStep t) rest))) steps_counted

  pub declined_is : (c : Call) → declined (ledger_of v) c ≡ refusal_of v c
  unfolding ledger_of
  declined_is (enter a b c) =
      ap (λ n. or_else (unless (in_range v.sizes.store a && (in_range v.sizes.purpose b && in_range v.sizes.role c)) BadArgument 0)
      (unless (ltb n v.node_room) NoRoom 0)) nodes_counted
  declined_is (step row) = ap (λ n. or_else (unless (good_row v.sizes.types row) BadArgument 0) (unless (ltb n 32) NoRoom 0)) steps_counted
  declined_is (mark n x) = ap (λ k. or_else (unless (ltb n k) NoNode n) (unless (good_value v.sizes.types x) BadArgument 0)) nodes_counted
  declined_is (unmark n x) = ap (λ k. or_else (unless (ltb n k) NoNode n) (unless (good_value v.sizes.types x) BadArgument 0)) nodes_counted
  declined_is (verify n b) = ap (λ k. unless (ltb n k) NoNode n) nodes_counted
  declined_is (draw a b t) =
      ends_is a b t (or_else (unless (not (stands (flows_of v) a b t)) FlowStands 0) (unless (ltb (length (flows_of v)) v.flow_room) NoRoom 0))
      ∙ ap (λ k. ends_there v a b t (or_else (unless (not (stands (flows_of v) a b t)) FlowStands 0) (unless (ltb k v.flow_room) NoRoom 0))) flows_counted
  declined_is (strike a b t) = ends_is a b t (unless (stands (flows_of v) a b t) NoFlow 0)
  declined_is settle = refl
  declined_is (judge n z p) =
      ap (λ k. or_else (unless (ltb n k) NoNode n) (or_else (unless v.settled Unsettled 0)
      (unless (same_sizes (scheme_sizes z) v.sizes && same_sizes p.sizes v.sizes) SizesDiffer 0))) nodes_counted
  declined_is (path n x room) =
      ap (λ k. or_else (unless (ltb n k) NoNode n) (or_else (unless (good_value v.sizes.types x) BadArgument 0) (unless v.settled Unsettled 0))) nodes_counted

-- What an accepted call's checks say

passed : (b : Bool) (r : Reason) (p : ℕ) (rest : Option Refusal) → or_else (unless b r p) rest ≡ None → (b ≡ true) × (rest ≡ None)
passed true r p rest h = (refl, h)
passed false r p rest h = (cc, cc)

passed_last : (b : Bool) (r : Reason) (p : ℕ) → unless b r p ≡ None → b ≡ true
passed_last true r p h = refl
passed_last false r p h = cc

module _ (v : View) where
  pub enter_passed : (a b c : ℕ) → refusal_of v (enter a b c) ≡ None
      → (in_range v.sizes.store a ≡ true) × (in_range v.sizes.purpose b ≡ true) × (in_range v.sizes.role c ≡ true) × (v.node_count < v.node_room)
  enter_passed a b c h =
      let p = passed (in_range v.sizes.store a && (in_range v.sizes.purpose b && in_range v.sizes.role c)) BadArgument 0
      (unless (ltb v.node_count v.node_room) NoRoom 0) h in
      let one = and_parts (in_range v.sizes.store a) (in_range v.sizes.purpose b && in_range v.sizes.role c) p.0 in
      let two = and_parts (in_range v.sizes.purpose b) (in_range v.sizes.role c) one.1 in
      (one.0, two.0, two.1, ltb-true v.node_count v.node_room (passed_last (ltb v.node_count v.node_room) NoRoom 0 p.1))

  pub step_passed : (row : List ℕ) → refusal_of v (step row) ≡ None
      → (good_row v.sizes.types row ≡ true) × (length row ≡ v.sizes.types) × (length v.steps < 32)
  step_passed row h =
      let p = passed (good_row v.sizes.types row) BadArgument 0 (unless (ltb (length v.steps) 32) NoRoom 0) h in
      let front = and_parts (eqb (length row) v.sizes.types && eqb (get_or row 0 0) 0) (list_all (λ x. ltb x v.sizes.types) row) p.0 in
      let long = and_parts (eqb (length row) v.sizes.types) (eqb (get_or row 0 0) 0) front.0 in
      (p.0, eqb-true (length row) v.sizes.types long.0, ltb-true (length v.steps) 32 (passed_last (ltb (length v.steps) 32) NoRoom 0 p.1))

  pub mark_passed : (n x : ℕ) → refusal_of v (mark n x) ≡ None → (n < v.node_count) × (good_value v.sizes.types x ≡ true)
  mark_passed n x h =
      let p = passed (ltb n v.node_count) NoNode n (unless (good_value v.sizes.types x) BadArgument 0) h in
      (ltb-true n v.node_count p.0, passed_last (good_value v.sizes.types x) BadArgument 0 p.1)

  pub verify_passed : (n : ℕ) (b : Bool) → refusal_of v (verify n b) ≡ None → n < v.node_count
  verify_passed n b h = ltb-true n v.node_count (passed_last (ltb n v.node_count) NoNode n h)

  pub path_passed : (n x room : ℕ) → refusal_of v (path n x room) ≡ None
      → (n < v.node_count) × (good_value v.sizes.types x ≡ true) × (v.settled ≡ true)
  path_passed n x room h =
      let last = unless v.settled Unsettled 0 in
      let p = passed (ltb n v.node_count) NoNode n (or_else (unless (good_value v.sizes.types x) BadArgument 0) last) h in
      let q = passed (good_value v.sizes.types x) BadArgument 0 last p.1 in
      (ltb-true n v.node_count p.0, q.0, passed_last v.settled Unsettled 0 q.1)

  pub judge_passed : (n : ℕ) (z : Scheme) (p : Policy) → refusal_of v (judge n z p) ≡ None
      → (n < v.node_count) × (v.settled ≡ true) × (same_sizes (scheme_sizes z) v.sizes ≡ true)
  judge_passed n z p h =
      let both = same_sizes (scheme_sizes z) v.sizes && same_sizes p.sizes v.sizes in
      let last = unless both SizesDiffer 0 in
      let q = passed (ltb n v.node_count) NoNode n (or_else (unless v.settled Unsettled 0) last) h in
      let r = passed v.settled Unsettled 0 last q.1 in
      (ltb-true n v.node_count q.0, r.0, (and_parts (same_sizes (scheme_sizes z) v.sizes) (same_sizes p.sizes v.sizes) (passed_last both SizesDiffer 0 r.1)).0)

  ends_passed : (a b t : ℕ) (rest : Option Refusal) → ends_there v a b t rest ≡ None
      → (a < v.node_count) × (b < v.node_count) × (t < length v.steps) × (rest ≡ None)
  ends_passed a b t rest h =
      let third = or_else (unless (ltb t (length v.steps)) NoStep t) rest in
      let p = passed (ltb a v.node_count) NoNode a (or_else (unless (ltb b v.node_count) NoNode b) third) h in
      let q = passed (ltb b v.node_count) NoNode b third p.1 in
      let r = passed (ltb t (length v.steps)) NoStep t rest q.1 in
      (ltb-true a v.node_count p.0, ltb-true b v.node_count q.0, ltb-true t (length v.steps) r.0, r.1)

  pub draw_passed : (a b t : ℕ) → refusal_of v (draw a b t) ≡ None
      → (a < v.node_count) × (b < v.node_count) × (t < length v.steps) × (stands (flows_of v) a b t ≡ false) × (v.flow_count < v.flow_room)
  draw_passed a b t h =
      let room = unless (ltb v.flow_count v.flow_room) NoRoom 0 in
      let e = ends_passed a b t (or_else (unless (not (stands (flows_of v) a b t)) FlowStands 0) room) h in
      let p = passed (not (stands (flows_of v) a b t)) FlowStands 0 room e.3 in (
        e.0,
        e.1,
        e.2,
        not-true (stands (flows_of v) a b t) p.0,
        ltb-true v.flow_count v.flow_room (passed_last (ltb v.flow_count v.flow_room) NoRoom 0 p.1),
      )

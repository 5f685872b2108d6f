-- What an accepted call writes is what the ledger takes down.
use Rattle.std.proofs.Common.{◌≡◌, ℕ, ◌-◌, ◌<◌, true, false, [], ◌∷◌, ◌++◌, map, length, get_or, take, set, replicate, Some, None, Option, sym, refl, ap, ◌∙◌, arith}
use Rattle.std.proofs.lemmas.List.{take_at, take-take, map_push}
use Rattle.std.proofs.lemmas.Bool.{both_ways}
use Rattle.flows.specs.declared.records.NodeRecord.{NodeRecord}
use Rattle.lattice.specs.Sets.{with, without}
use Rattle.ledger.specs.Ledger.{Node, Call, enter, step, mark, unmark, verify, draw, strike, settle, judge, path, changing, accepted, flow_number, with_nodes, with_flows, with_marks, with_verified, struck_at, no_node_yet}
use Rattle.inventory.specs.View.{with_steps, no_flow_yet}
use Rattle.inventory.specs.View.{View, stored, ledger_of, nodes_of, flows_of, steps_of, node_of, flow_of, record_at, entered, drawn, remarked, reverified, without_flow}
use Rattle.flows.specs.Graph.{no_node, no_flow}
use Rattle.inventory.specs.Sound.{Sound}
use Rattle.inventory.specs.Checks.{refusal_of}
use Rattle.inventory.proofs.Lists.{read_put, read_at, read_more, map_of_take}
use Rattle.inventory.proofs.Found.{found_within}
use Rattle.inventory.proofs.Declines.{flows_counted, enter_passed, step_passed, mark_passed, verify_passed, draw_passed}

module _ (v : View) (s : Sound v) where
  -- a node's record is changed by f, and the node in the ledger by g
  changed : (n : ℕ) (f : NodeRecord → NodeRecord) (g : Node → Node) → ((r : NodeRecord) → node_of (f r) ≡ g (node_of r)) → n < v.node_count
      → map node_of (take v.node_count (set v.nodes n (f (record_at v n)))) ≡ set (nodes_of v) n (g (get_or (nodes_of v) n no_node_yet))
  changed n f g same l =
      read_put node_of v.nodes v.node_count n (f (record_at v n))
      ∙ ap (set (nodes_of v) n) (same (record_at v n))
      ∙ ap (λ y. set (nodes_of v) n (g y)) (sym (read_at node_of v.nodes v.node_count n no_node l))

  struck_right : (o : Option ℕ) → ((k : ℕ) → o ≡ Some k → k < v.flow_count) → ledger_of (without_flow v o) ≡ with_flows (ledger_of v) (struck_at (flows_of v) o)
  unfolding ledger_of
  struck_right None h = refl
  struck_right (Some k) h =
      let below = h k refl in
      let last = v.flow_count - 1 in
      let moved = get_or v.flows last no_flow in
      let next = set v.flows k moved in
      ap (with_flows (ledger_of v))
      (sym (ap (map flow_of) (take-take last v.flow_count next (omega arith)))
      ∙ map_of_take flow_of last (take v.flow_count next)
      ∙ ap (take last) (read_put flow_of v.flows v.flow_count k moved)
      ∙ ap (λ y. take last (set (flows_of v) k y)) (sym (read_at flow_of v.flows v.flow_count last no_flow (omega arith)))
      ∙ ap (λ m. take (m - 1) (set (flows_of v) k (get_or (flows_of v) (m - 1) no_flow_yet))) (sym (flows_counted v s)))

  pub ledger_right : (c : Call) → changing c ≡ true → refusal_of v c ≡ None → ledger_of (stored v c) ≡ accepted (ledger_of v) c
  unfolding stored ledger_of
  ledger_right (enter a b c) edits h =
      ap (with_nodes (ledger_of v))
      (read_more node_of v.nodes v.node_count (entered a b c) (omega (arith, s.node_fits.2, (enter_passed v a b c h).3)))
  ledger_right (step row) edits h =
      let p = step_passed v row h in
      ap (with_steps (ledger_of v))
      (map_push (take v.sizes.types) v.steps (row ++ replicate (64 - length row) 0)
      ∙ ap (λ r. steps_of v ++ r ∷ []) (take_at row (replicate (64 - length row) 0) v.sizes.types p.1))
  ledger_right (mark n x) edits h =
      ap (with_nodes (ledger_of v))
      (changed n (λ r. remarked r (with r.marks x)) (λ y. with_marks y (with y.marks x)) (λ r. refl) (mark_passed v n x h).0)
  ledger_right (unmark n x) edits h =
      ap (with_nodes (ledger_of v))
      (changed n (λ r. remarked r (without r.marks x)) (λ y. with_marks y (without y.marks x)) (λ r. refl) (mark_passed v n x h).0)
  ledger_right (verify n b) edits h =
      ap (with_nodes (ledger_of v))
      (changed n (λ r. reverified r b) (λ y. with_verified y b) (λ r. refl) (verify_passed v n b h))
  ledger_right (draw a b t) edits h =
      ap (with_flows (ledger_of v))
      (read_more flow_of v.flows v.flow_count (drawn a b t) (omega (arith, s.flow_fits.2, (draw_passed v a b t h).4)))
  ledger_right (strike a b t) edits h =
      struck_right (flow_number (flows_of v) a b t)
      (λ k e. omega (arith, found_within a b t (flows_of v) k e, flows_counted v s))
  ledger_right settle edits h = absurd (both_ways false refl edits)
  ledger_right (judge n z p) edits h = absurd (both_ways false refl edits)
  ledger_right (path n x room) edits h = absurd (both_ways false refl edits)

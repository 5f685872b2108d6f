-- An accepted call keeps the invariant.
use Rattle.std.proofs.Common.{◌≡◌, ℕ, ◌+◌, ◌-◌, ◌<◌, ◌≤◌, Bool, true, false, List, [], ◌∷◌, ◌++◌, length, get_or, take, set, replicate, Some, None, Option, sym, refl, ap, ◌∙◌, ⊎_elim, arith}
use Rattle.std.proofs.lemmas.List.{length-append, length-set, get_or-set_same, get_or-set_other, take_at}
use Rattle.std.proofs.lemmas.Bool.{cases_eq, both_ways}
use Rattle.flows.specs.declared.records.NodeRecord.{NodeRecord}
use Rattle.flows.specs.declared.records.FlowRecord.{FlowRecord}
use Rattle.lattice.specs.Sets.{with, without}
use Rattle.ledger.specs.Ledger.{Call, enter, step, mark, unmark, verify, draw, strike, settle, judge, path, good_row, stands, flow_number, same_flow}
use Rattle.inventory.specs.View.{no_flow_yet}
use Rattle.inventory.specs.View.{View, stored, put_nodes, put_flows, put_steps, record_at, entered, drawn, remarked, reverified, without_flow, flows_of, flow_of}
use Rattle.flows.specs.Graph.{no_node, no_flow}
use Rattle.inventory.specs.Sound.{Sound, GoodNode, GoodFlow, Apart}
use Rattle.inventory.specs.Checks.{refusal_of}
use Rattle.inventory.proofs.Bits.{in_with, in_without, in_empty}
use Rattle.inventory.proofs.RowLaws.{padded_bounded, padded_silent}
use Rattle.ledger.proofs.Lists.{each_push}
use Rattle.inventory.proofs.Lists.{put_each, read_at, every_more}
use Rattle.inventory.proofs.Found.{none_same, same_self, found_within, not_standing}
use Rattle.inventory.proofs.Declines.{flows_counted, enter_passed, step_passed, mark_passed, verify_passed, draw_passed}

-- a change leaves the labels Unsettled
unsettled_labels : {P : Type 0} → ∥ (false ≡ true → P) ∥₁
unsettled_labels = ∣ (λ e. absurd (both_ways false refl e)) ∣₁

module _ (v : View) (s : Sound v) where
  -- one node record is written, at a place below the new count
  keep_nodes : (n count : ℕ) (r : NodeRecord) → n < v.node_room → v.node_count ≤ count → count ≤ v.node_room → GoodNode v.sizes r
      → ((k : ℕ) → k < count → (k ≡ n → ⊥) → k < v.node_count) → Sound (put_nodes v (set v.nodes n r) count)
  keep_nodes n count r within grows fits good old = record {
    sized = s.sized;
    node_fits = (fits, s.node_fits.1, omega (arith, s.node_fits.2, length-set v.nodes n r), s.node_fits.3);
    flow_fits = s.flow_fits;
    nodes_good = put_each (GoodNode v.sizes) v.nodes n count r no_node (omega (arith, s.node_fits.2)) good
        (λ k l ne. s.nodes_good k (old k l ne));
    flows_good = λ k l. let g = s.flows_good k l in (omega (arith, g.0), omega (arith, g.1), g.2);
    flows_apart = s.flows_apart;
    rows_good = s.rows_good;
    rows_bounded = s.rows_bounded;
    rows_silent = s.rows_silent;
    labels_settled = unsettled_labels;
  }

  -- the record of a node that is there is written anew
  pub keep_node : (n : ℕ) (r : NodeRecord) → n < v.node_count → GoodNode v.sizes r → Sound (put_nodes v (set v.nodes n r) v.node_count)
  keep_node n r l good =
      keep_nodes n v.node_count r (omega (arith, s.node_fits.0)) (omega arith) s.node_fits.0 good (λ k below _. below)

  keep_enter : (a b c : ℕ) → refusal_of v (enter a b c) ≡ None → Sound (put_nodes v (set v.nodes v.node_count (entered a b c)) (v.node_count + 1))
  keep_enter a b c h =
      let p = enter_passed v a b c h in
      keep_nodes v.node_count (v.node_count + 1) (entered a b c) p.3 (omega arith) (omega arith)
      (p.0, p.1, p.2, in_empty v.sizes.types) (λ k below ne. omega arith)

  keep_mark : (n x : ℕ) → refusal_of v (mark n x) ≡ None
      → Sound (put_nodes v (set v.nodes n (remarked (record_at v n) (with (record_at v n).marks x))) v.node_count)
  keep_mark n x h =
      let p = mark_passed v n x h in
      let old = s.nodes_good n p.0 in
      keep_node n (remarked (record_at v n) (with (record_at v n).marks x)) p.0
      (old.0, old.1, old.2, in_with v.sizes.types (record_at v n).marks x old.3 p.1)

  keep_unmark : (n x : ℕ) → refusal_of v (unmark n x) ≡ None
      → Sound (put_nodes v (set v.nodes n (remarked (record_at v n) (without (record_at v n).marks x))) v.node_count)
  keep_unmark n x h =
      let p = mark_passed v n x h in
      let old = s.nodes_good n p.0 in
      keep_node n (remarked (record_at v n) (without (record_at v n).marks x)) p.0
      (old.0, old.1, old.2, in_without v.sizes.types (record_at v n).marks x old.3 p.1)

  keep_verify : (n : ℕ) (b : Bool) → refusal_of v (verify n b) ≡ None → Sound (put_nodes v (set v.nodes n (reverified (record_at v n) b)) v.node_count)
  keep_verify n b h =
      let l = verify_passed v n b h in
      keep_node n (reverified (record_at v n) b) l (s.nodes_good n l)

  keep_step : (row : List ℕ) → refusal_of v (step row) ≡ None → Sound (put_steps v (v.steps ++ (row ++ replicate (64 - length row) 0) ∷ []))
  keep_step row h =
      let p = step_passed v row h in
      let new = row ++ replicate (64 - length row) 0 in
      let front : take v.sizes.types new ≡ row = take_at row (replicate (64 - length row) 0) v.sizes.types p.1 in
      record {
        sized = s.sized;
        node_fits = s.node_fits;
        flow_fits = s.flow_fits;
        nodes_good = s.nodes_good;
        flows_good = λ k l. let g = s.flows_good k l in (g.0, g.1, omega (arith, g.2, length-append v.steps (new ∷ [])));
        flows_apart = s.flows_apart;
        rows_good = each_push (λ r. good_row v.sizes.types (take v.sizes.types r) ≡ true) [] v.steps new s.rows_good (ap (good_row v.sizes.types) front ∙ p.0);
        rows_bounded = every_more (λ r. (x : ℕ) → get_or r x 0 < v.sizes.types) v.steps new [] (λ x. omega (arith, s.sized.3))
            (padded_bounded v.sizes.types row p.1 p.0 (omega (arith, s.sized.3))) s.rows_bounded;
        rows_silent = every_more (λ r. (x : ℕ) → v.sizes.types ≤ x → get_or r x 0 ≡ 0) v.steps new [] (λ x past. refl)
            (padded_silent v.sizes.types row p.1) s.rows_silent;
        labels_settled = unsettled_labels;
      }

  -- one flow record is written
  keep_flows : (n count : ℕ) (r : FlowRecord) → n < v.flow_room → count ≤ v.flow_room → GoodFlow v.node_count (length v.steps) r
      → ((k : ℕ) → k < count → (k ≡ n → ⊥) → k < v.flow_count) → Apart (set v.flows n r) count → Sound (put_flows v (set v.flows n r) count)
  keep_flows n count r within fits good old apart = record {
    sized = s.sized;
    node_fits = s.node_fits;
    flow_fits = (fits, s.flow_fits.1, omega (arith, s.flow_fits.2, length-set v.flows n r));
    nodes_good = s.nodes_good;
    flows_good = put_each (GoodFlow v.node_count (length v.steps)) v.flows n count r no_flow (omega (arith, s.flow_fits.2)) good
        (λ k l ne. s.flows_good k (old k l ne));
    flows_apart = apart;
    rows_good = s.rows_good;
    rows_bounded = s.rows_bounded;
    rows_silent = s.rows_silent;
    labels_settled = unsettled_labels;
  }

  -- no flow that is there is the one that is drawn
  new_flow : (a b t : ℕ) → stands (flows_of v) a b t ≡ false → (j : ℕ) → j < v.flow_count
      → get_or v.flows j no_flow ≡ drawn a b t → ⊥
  new_flow a b t out j l e =
      let none : flow_number (flows_of v) a b t ≡ None = not_standing (flow_number (flows_of v) a b t) out in
      let other = none_same a b t (flows_of v) none j (omega (arith, flows_counted v s)) in
      let here : same_flow (get_or (flows_of v) j no_flow_yet) a b t ≡ true =
      ap (λ f. same_flow f a b t) (read_at flow_of v.flows v.flow_count j no_flow l ∙ ap flow_of e) ∙ same_self a b t in
      both_ways (same_flow (get_or (flows_of v) j no_flow_yet) a b t) other here

  keep_draw : (a b t : ℕ) → refusal_of v (draw a b t) ≡ None → Sound (put_flows v (set v.flows v.flow_count (drawn a b t)) (v.flow_count + 1))
  keep_draw a b t h =
      let p = draw_passed v a b t h in
      let r = drawn a b t in
      let n = v.flow_count in
      let within : n < length v.flows = omega (arith, p.4, s.flow_fits.2) in
      let at : get_or (set v.flows n r) n no_flow ≡ r = get_or-set_same v.flows n r no_flow within in
      keep_flows n (n + 1) r p.4 (omega (arith, p.4)) (p.0, p.1, p.2) (λ k l ne. omega arith)
      (λ i j q. ⊎_elim
      (λ ei. ⊎_elim (λ ej. ei ∙ sym ej)
      (λ nj. absurd (new_flow a b t p.3 j (omega (arith, q.1))
      (sym (get_or-set_other v.flows n j r no_flow nj) ∙ sym q.2 ∙ ap (λ k. get_or (set v.flows n r) k no_flow) ei ∙ at)))
      (cases_eq j n))
      (λ ni. ⊎_elim
      (λ ej. absurd (new_flow a b t p.3 i (omega (arith, q.0))
      (sym (get_or-set_other v.flows n i r no_flow ni) ∙ q.2 ∙ ap (λ k. get_or (set v.flows n r) k no_flow) ej ∙ at)))
      (λ nj. s.flows_apart i j (
        omega (arith, q.0),
        omega (arith, q.1),
        sym (get_or-set_other v.flows n i r no_flow ni) ∙ q.2 ∙ get_or-set_other v.flows n j r no_flow nj,
      ))
      (cases_eq j n))
      (cases_eq i n))

  keep_strike : (o : Option ℕ) → ((k : ℕ) → o ≡ Some k → k < v.flow_count) → Sound (without_flow v o)
  keep_strike None h = record {
    sized = s.sized;
    node_fits = s.node_fits;
    flow_fits = s.flow_fits;
    nodes_good = s.nodes_good;
    flows_good = s.flows_good;
    flows_apart = s.flows_apart;
    rows_good = s.rows_good;
    rows_bounded = s.rows_bounded;
    rows_silent = s.rows_silent;
    labels_settled = unsettled_labels;
  }
  keep_strike (Some k) h =
      let below = h k refl in
      let last = v.flow_count - 1 in
      let r = get_or v.flows last no_flow in
      let next = set v.flows k r in
      let within : k < length v.flows = omega (arith, s.flow_fits.0, s.flow_fits.2) in
      let at : get_or next k no_flow ≡ r = get_or-set_same v.flows k r no_flow within in
      keep_flows k last r (omega (arith, s.flow_fits.0)) (omega (arith, s.flow_fits.0)) (s.flows_good last (omega arith)) (λ j l ne. omega arith)
      (λ i j q. ⊎_elim
      (λ ei. ⊎_elim (λ ej. ei ∙ sym ej)
      (λ nj. let same = s.flows_apart last j (
        omega arith,
        omega (arith, q.1),
        sym at ∙ sym (ap (λ m. get_or next m no_flow) ei) ∙ q.2 ∙ get_or-set_other v.flows k j r no_flow nj,
      ) in
      absurd (omega (arith, q.1, same)))
      (cases_eq j k))
      (λ ni. ⊎_elim
      (λ ej. let same = s.flows_apart i last (
        omega (arith, q.0),
        omega arith,
        sym (get_or-set_other v.flows k i r no_flow ni) ∙ q.2 ∙ ap (λ m. get_or next m no_flow) ej ∙ at,
      ) in
      absurd (omega (arith, q.0, same)))
      (λ nj. s.flows_apart i j (
        omega (arith, q.0),
        omega (arith, q.1),
        sym (get_or-set_other v.flows k i r no_flow ni) ∙ q.2 ∙ get_or-set_other v.flows k j r no_flow nj,
      ))
      (cases_eq j k))
      (cases_eq i k))

  pub keep : (c : Call) → refusal_of v c ≡ None → Sound (stored v c)
  unfolding stored
  keep (enter a b c) h = keep_enter a b c h
  keep (step row) h = keep_step row h
  keep (mark n x) h = keep_mark n x h
  keep (unmark n x) h = keep_unmark n x h
  keep (verify n b) h = keep_verify n b h
  keep (draw a b t) h = keep_draw a b t h
  keep (strike a b t) h = keep_strike (flow_number (flows_of v) a b t) (λ k e. omega (arith, found_within a b t (flows_of v) k e, flows_counted v s))
  keep settle h = s
  keep (judge n z p) h = s
  keep (path n x room) h = s

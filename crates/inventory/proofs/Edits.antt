-- What each call's checks and writes come to.
use Rattle.std.proofs.Common.{◌≡◌, ℕ, ◌+◌, ◌-◌, Bool, true, false, List, [], ◌∷◌, ◌++◌, length, get_or, set, replicate, Some, None, sym, refl, ap, ◌∙◌, ◌<◌, ltb, arith}
use Rattle.std.proofs.lemmas.Bool.{and_parts, cond-true, lt-ltb, ltb-true}
use Rattle.flows.specs.declared.records.NodeRecord.{NodeRecord}
use Rattle.flows.specs.declared.records.FlowRecord.{FlowRecord}
use Rattle.ledger.specs.Run.{Answer, done, numbered, Given}
use Rattle.lattice.specs.Sets.{inserted, without}
use Rattle.ledger.specs.Ledger.{Call, enter, step, mark, unmark, verify, draw, strike, changing, flow_number}
use Rattle.inventory.specs.declared.inventory.Inventory.{Inventory}
use Rattle.inventory.specs.Inventories.{view}
use Rattle.inventory.specs.View.{View, stored, Called, ledger_of, flows_of, put_nodes, put_flows, put_steps, record_at, drawn, remarked, reverified, without_flow}
use Rattle.flows.specs.Graph.{no_flow}
use Rattle.inventory.specs.Checks.{refusal_of}
use Rattle.inventory.proofs.Declines.{nodes_counted, steps_counted, mark_passed}
use Rattle.inventory.proofs.Outcomes.{sound, Parts, parts, accept, still_sound}

-- an accepted call leaves the view w, which keeps the ghost fields, and answers a
abbrev pub Kept : View → View → Call → Answer → Type 0
Kept v w c answer = Parts w × Called v w c answer

module _ (i : Inventory) where
  abbrev v : View
  v = view i

  keeps : (c : Call) (answer : Answer) (w : View) → changing c ≡ true → None ≡ refusal_of v c → Given (ledger_of v) c answer → w ≡ stored v c → Kept v w c answer
  keeps c answer w edits h given e = (parts w (still_sound v (sound i) c w (sym h) e), accept v (sound i) c answer w edits (sym h) given e)

  -- the record of a new node is blank but for what is declared
  pub entered_kept : (a b c : ℕ) (blank : NodeRecord) → None ≡ refusal_of v (enter a b c) → blank.marks ≡ 0 → blank.label ≡ 0 → blank.verified ≡ false
      → Kept v (put_nodes v (set v.nodes v.node_count (record { store = a; purpose = b; role = c; marks = blank.marks; label = blank.label; verified = blank.verified })) (v.node_count + 1))
      (enter a b c) (numbered v.node_count)
  unfolding stored ledger_of
  entered_kept a b c blank h marks label verified =
      keeps (enter a b c) (numbered v.node_count) _ refl h (ap numbered (sym (nodes_counted v (sound i))))
      (λ k. put_nodes v (set v.nodes v.node_count (record { store = a; purpose = b; role = c; marks = marks k; label = label k; verified = verified k })) (v.node_count + 1))

  pub stepped_kept : (row new : List ℕ) (rows : List (List ℕ)) (k : ℕ) → None ≡ refusal_of v (step row) → k ≡ length v.steps
      → new ≡ row ++ replicate (64 - length row) 0 → rows ≡ v.steps ++ new ∷ [] → Kept v (put_steps v rows) (step row) (numbered k)
  unfolding stored ledger_of
  stepped_kept row new rows k h at is more =
      keeps (step row) (numbered k) _ refl h (ap numbered (at ∙ sym (steps_counted v (sound i))))
      (ap (put_steps v) (more ∙ ap (λ r. v.steps ++ r ∷ []) is))

  -- a node with other marks
  abbrev remarks : ℕ → ℕ → View
  remarks n m = put_nodes v (set v.nodes n (remarked (record_at v n) m)) v.node_count

  below_64 : (n x : ℕ) → refusal_of v (mark n x) ≡ None → x < 64
  below_64 n x h =
      let good = (mark_passed v n x h).1 in
      omega (arith, ltb-true x v.sizes.types (and_parts (ltb 0 x) (ltb x v.sizes.types) good).1, (sound i).sized.3)

  pub marked_kept : (n x m : ℕ) → None ≡ refusal_of v (mark n x) → m ≡ inserted (record_at v n).marks x → Kept v (remarks n m) (mark n x) done
  unfolding stored
  marked_kept n x m h is = keeps (mark n x) done _ refl h refl (ap (remarks n) (is ∙ cond-true (ltb x 64) _ _ (lt-ltb x 64 (below_64 n x (sym h)))))

  pub unmarked_kept : (n x m : ℕ) → None ≡ refusal_of v (unmark n x) → m ≡ without (record_at v n).marks x → Kept v (remarks n m) (unmark n x) done
  unfolding stored
  unmarked_kept n x m h is = keeps (unmark n x) done _ refl h refl (ap (remarks n) is)

  pub verified_kept : (n : ℕ) (b : Bool) → None ≡ refusal_of v (verify n b)
      → Kept v (put_nodes v (set v.nodes n (reverified (record_at v n) b)) v.node_count) (verify n b) done
  unfolding stored
  verified_kept n b h = keeps (verify n b) done _ refl h refl refl

  pub drawn_kept : (a b t : ℕ) (r : FlowRecord) → None ≡ refusal_of v (draw a b t) → r ≡ drawn a b t
      → Kept v (put_flows v (set v.flows v.flow_count r) (v.flow_count + 1)) (draw a b t) done
  unfolding stored
  drawn_kept a b t r h is = keeps (draw a b t) done _ refl h refl (ap (λ x. put_flows v (set v.flows v.flow_count x) (v.flow_count + 1)) is)

  pub struck_kept : (a b t k : ℕ) → None ≡ refusal_of v (strike a b t) → flow_number (flows_of v) a b t ≡ Some k
      → Kept v (put_flows v (set v.flows k (get_or v.flows (v.flow_count - 1) no_flow)) (v.flow_count - 1)) (strike a b t) done
  unfolding stored
  struck_kept a b t k h found = keeps (strike a b t) done _ refl h refl (sym (ap (without_flow v) found))

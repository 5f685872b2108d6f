-- What judge and path answer is what the ledger asks, so what is promised of them holds.
use Rattle.std.proofs.Common.{◌≡◌, ℕ, ◌^◌, ◌<◌, Bool, true, [], ◌∷◌, length, get_or, take, None, Ok, Err, Option, Result, sym, refl, ap, ◌∙◌, subst, arith}
use Rattle.std.proofs.lemmas.Bool.{and_parts, eqb-true}
use Rattle.lattice.specs.declared.sizes.Sizes.{Sizes}
use Rattle.policy.specs.declared.label.Label.{Label}
use Rattle.lattice.specs.Schemes.{Scheme}
use Rattle.policy.specs.Clauses.{allows, decider, evidence}
use Rattle.lattice.specs.Schemes.{Lattices}
use Rattle.policy.specs.Labels.{or_top, declared}
use Rattle.ledger.specs.Ledger.{Node, judge, path, label_at, same_sizes, good_row}
use Rattle.policy.specs.Policies.{Policy}
use Rattle.refusals.specs.declared.refusal.Refusal.{Refusal}
use Rattle.lattice.specs.Schemes.{scheme_sizes}
use Rattle.ledger.specs.Run.{Answer, Answered, judged}
use Rattle.ledger.specs.Sound.{Sound as LedgerSound, GoodNode as LedgerGoodNode}
use Rattle.ledger.proofs.Follows.{path_shown}
use Rattle.ledger.proofs.Promises.{runs_keep_the_promise}
use Rattle.lattice.specs.Tests.{from_true}
use Rattle.policy.specs.declared.policy.judging.Verdict.{Verdict}
use Rattle.refusals.specs.declared.refusal.Refusal.{Refusal}
use Rattle.inventory.specs.Answers.{judged_answer}
use Rattle.inventory.specs.Promised.{Promised, PathPromised}
use Rattle.inventory.specs.View.{View, ledger_of, record_at, held_at, steps_of}
use Rattle.inventory.specs.Sound.{Sound}
use Rattle.inventory.specs.Checks.{refusal_of, judge_refusal}
use Rattle.inventory.proofs.Lists.{get_or_of_map}
use Rattle.inventory.proofs.Declines.{nodes_counted, flows_counted, steps_counted, judge_passed}
use Rattle.inventory.proofs.Bridge.{certified, label_right, node_same, flow_same, take_none}
use Rattle.inventory.proofs.Outcomes.{given_answer}

pub same_sizes_equal : (a b : Sizes) → same_sizes a b ≡ true → a ≡ b
same_sizes_equal a b e =
    let halves = and_parts _ _ e in
    let low = and_parts _ _ halves.0 in
    let high = and_parts _ _ halves.1 in
    λ i. record {
      store = eqb-true a.store b.store low.0 i;
      purpose = eqb-true a.purpose b.purpose low.1 i;
      role = eqb-true a.role b.role high.0 i;
      types = eqb-true a.types b.types high.1 i;
    }

module _ (v : View) (s : Sound v) where
  pub ledger_sound : LedgerSound (ledger_of v)
  unfolding ledger_of
  ledger_sound = record {
    sizes = record { store = s.sized.0; purpose = s.sized.1; role = s.sized.2; types = s.sized.3 };
    nodes = λ n l.
        let below : n < v.node_count = omega (arith, l, nodes_counted v s) in
        let g = s.nodes_good n below in
        subst (LedgerGoodNode v.sizes) (sym (node_same v s n below))
        (record { store = from_true _ g.0; purpose = from_true _ g.1; role = from_true _ g.2; marks = from_true _ g.3 });
    steps = λ t l.
        let below : t < length v.steps = omega (arith, l, steps_counted v s) in
        let read : get_or (steps_of v) t [] ≡ take v.sizes.types (get_or v.steps t []) =
        ap (λ d. get_or (steps_of v) t d) (sym (take_none v.sizes.types)) ∙ get_or_of_map (take v.sizes.types) v.steps t [] in
        from_true _ (ap (good_row v.sizes.types) read ∙ s.rows_good t below);
    flows = λ f l.
        let below : f < v.flow_count = omega (arith, l, flows_counted v s) in
        let g = s.flows_good f below in
        let e = flow_same v s f below in
        record {
          from = omega (arith, g.0, ap (λ q. q.from) e, nodes_counted v s);
          to = omega (arith, g.1, ap (λ q. q.to) e, nodes_counted v s);
          step = omega (arith, g.2, ap (λ q. q.step) e, steps_counted v s);
        };
  }

  -- the check asks by the sizes that were read
  pub judge_asked : (n : ℕ) (z : Scheme) (p : Policy) (a b : Sizes) (o : Option Refusal) → a ≡ scheme_sizes z → b ≡ p.sizes → o ≡ judge_refusal v n a b
      → refusal_of v (judge n z p) ≡ o
  judge_asked n z p a b o e₁ e₂ h =
      sym (h ∙ ap (λ (x : Sizes). judge_refusal v n x b) e₁ ∙ ap (λ (y : Sizes). judge_refusal v n (scheme_sizes z) y) e₂)

  -- under lattices of the same sizes, what is held is judged by the label that the ledger says
  pub held_label : (n : ℕ) → n < v.node_count → (z : Sizes) → z ≡ v.sizes → declared z (held_at v n) ≡ label_at (ledger_of v) n (record_at v n).label
  unfolding ledger_of
  held_label n l z same =
      ap (λ (y : Sizes). declared y (held_at v n)) same
      ∙ ap (λ (x : Node). record {
        store = or_top v.sizes.store x.store;
        purpose = or_top v.sizes.purpose x.purpose;
        role = or_top v.sizes.role x.role;
        types = (record_at v n).label;
      }) (sym (node_same v s n l))

  pub judge_answered : (n : ℕ) (z : Scheme) (p : Policy) → refusal_of v (judge n z p) ≡ None → (record_at v n).label < 2 ^ 64
      → (t : Label) → t ≡ label_at (ledger_of v) n (record_at v n).label → (passed : Bool) (by left : ℕ)
      → passed ≡ allows z p.clause t → by ≡ decider z 0 p.clause t → left ≡ evidence z p.clause t
      → Answered (ledger_of v) (judge n z p) (judged passed by left)
  judge_answered n z p h small t is passed by left e₁ e₂ e₃ =
      let ok = judge_passed v n z p h in
      let d = (record_at v n).label in
      given_answer v s (judge n z p) (judged passed by left) h (
        d,
        label_right v s (certified v s ok.1) n ok.0 small,
        ap (λ b. judged b by left) (e₁ ∙ ap (allows z p.clause) is)
            ∙ ap (λ k. judged (allows z p.clause (label_at (ledger_of v) n d)) k left) (e₂ ∙ ap (decider z 0 p.clause) is)
            ∙ ap (λ k. judged (allows z p.clause (label_at (ledger_of v) n d)) (decider z 0 p.clause (label_at (ledger_of v) n d)) k) (e₃ ∙ ap (evidence z p.clause) is),
      )

  pub judge_promised : (n : ℕ) (z : Scheme) (p : Policy) → Lattices z → (r : Result Verdict Refusal) → Answered (ledger_of v) (judge n z p) (judged_answer r)
      → Promised (ledger_of v) n z p r
  judge_promised n z p laws (Ok j) answered =
      let right = (runs_keep_the_promise (ledger_of v) ledger_sound ((judge n z p, judged_answer (Ok j)) ∷ []) (laws, tt) (answered, tt)).0 in
      let both = right j.passed j.clause j.evidence refl in
      (both.0, λ denied. (both.1 denied).0)
  judge_promised n z p laws (Err e) answered = tt

  pub path_promised : (n x room : ℕ) (answer : Answer) → Answered (ledger_of v) (path n x room) answer → PathPromised (ledger_of v) n x room answer
  path_promised n x room answer answered settled there = path_shown (ledger_of v) ledger_sound settled n x room answer there answered

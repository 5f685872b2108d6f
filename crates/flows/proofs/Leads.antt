-- The walk over the values that one flow leads on.
use Rattle.std.proofs.Common.{◌≡◌, ℕ, zero, suc, ◌+◌, ◌*◌, ◌<◌, ◌≤◌, Bool, true, false, Option, None, Some, ◌≢◌, List, [], ◌∷◌, ◌++◌, length, get_or, set, sym, refl, ap, ◌∙◌, subst, true≢false, arith}
use native.Mathlib.Decide.{dec_lt, ℕ_discrete}
use Rattle.std.specs.List.{All, filter, range_with_len}
use Rattle.std.specs.Iterator.{YieldsFirst, Yields}
use Rattle.std.proofs.lemmas.List.{length-set, map-id}
use Rattle.std.proofs.lemmas.Iterator.Consumers.{YieldsList-from_first, YieldsList-turn, YieldsList-end}
use Rattle.std.proofs.lemmas.List.Elements.{All-append, All-cons, All-nil}
use Rattle.std.proofs.lemmas.Bool.{eq-eqb}
use Rattle.lattice.specs.Sets.{has, values_of}
use Rattle.lattice.proofs.Members.{bit_of}
use Rattle.flows.specs.declared.records.NodeRecord.{NodeRecord}
use Rattle.flows.specs.declared.records.FlowRecord.{FlowRecord}
use Rattle.flows.specs.Graph.{Graph, graph, holds, no_node, no_flow, node_at, flow_at, through, relabeled}
use Rattle.flows.specs.Certificate.{distance, Near}
use Rattle.flows.specs.Rounds.{Spread, Led, Grown}
use Rattle.flows.proofs.Sets.{with_value}
use Rattle.flows.proofs.Puts.{Put, label_new, put_made}
use Rattle.flows.proofs.Relabels.{same_verified}
use Rattle.flows.proofs.Spreads.{put_spread, fitting_kept, grown_more, grown_put}

has_of : (s v : ℕ) → holds s v → has s v ≡ true
unfolding has
has_of s v h = eq-eqb _ _ h

-- the list of a set at its first number
module _ (s a n : ℕ) where
  first_in : has s a ≡ true → filter (has s) (range_with_len a (suc n)) ≡ a ∷ filter (has s) (range_with_len (a + 1) n)
  first_in e = rw e refl

  first_out : has s a ≡ false → filter (has s) (range_with_len a (suc n)) ≡ filter (has s) (range_with_len (a + 1) n)
  first_out e = rw e refl

  -- one step of what follows
  listed_first : (P : ℕ → Type 0) → (holds s a → P a) → All P (filter (has s) (range_with_len (a + 1) n)) → All P (filter (has s) (range_with_len a (suc n)))
  listed_first P here more = go (has s a) refl
    where
      go : (b : Bool) → has s a ≡ b → All P (filter (has s) (range_with_len a (suc n)))
      go true e = subst (All P) (sym (first_in e)) (All-cons P a _ (here (bit_of s a e)) more)
      go false e = subst (All P) (sym (first_out e)) more

  found_first : (P : ℕ → Type 0) → All P (filter (has s) (range_with_len a (suc n))) → (holds s a → P a) × All P (filter (has s) (range_with_len (a + 1) n))
  found_first P all = go (has s a) refl
    where
      go : (b : Bool) → has s a ≡ b → (holds s a → P a) × All P (filter (has s) (range_with_len (a + 1) n))
      go true e = let there = subst (All P) (first_in e) all in ((λ h. there 0 0 (omega arith)), (λ k d l. there (suc k) d (omega arith)))
      go false e = ((λ h. absurd (true≢false (sym (has_of s a h) ∙ e))), subst (All P) (first_out e) all)

-- what holds of each value of a set holds of all in its list, and the other way round
listed : (P : ℕ → Type 0) (s a n : ℕ) → ((w : ℕ) → w < a + n → holds s w → P w) → All P (filter (has s) (range_with_len a n))
listed P s a zero each = All-nil P
listed P s a (suc n) each =
    listed_first s a n P (each a (omega arith)) (listed P s (a + 1) n (λ w l h. each w (omega arith) h))

found : (P : ℕ → Type 0) (s a n : ℕ) → All P (filter (has s) (range_with_len a n)) → (w : ℕ) → a ≤ w → w < a + n → holds s w → P w
found P s a zero all w from_here below h = absurd (omega arith)
found P s a (suc n) all w from_here below h =
    let first = found_first s a n P all in
    elim (ℕ_discrete a w) [
      | yes same ↦ subst (λ x. holds s x → P x) same first.0 h
      | no other ↦ found P s (a + 1) n first.1 w (omega arith) (omega arith) h
    ]

module _ (s : ℕ) where
  values_held : All (λ w. (w < 64) × holds s w) (values_of s)
  unfolding values_of
  values_held = listed (λ w. (w < 64) × holds s w) s 0 64 (λ w l h. (l, h))

  value_held : (w k : ℕ) → (k < length (values_of s)) × (w ≡ get_or (values_of s) k w) → (w < 64) × holds s w
  value_held w k turn = subst (λ v. (v < 64) × holds s v) (sym turn.1) (values_held k w turn.0)

  -- what holds of all that come holds of each value of the set
  pub all_held : (P : ℕ → Type 0) → All P (values_of s) → (w : ℕ) → w < 64 → holds s w → P w
  unfolding values_of
  all_held P all w l h = found P s 0 64 all w (omega arith) l h

-- what the iterator of a set gives: values of the set, and in the end all of them
module _ (s : ℕ) (all came left more : List ℕ) (r : Option ℕ) (start : all ≡ values_of s) (came_by : Yields (YieldsFirst {A = ℕ} (λ rest. rest)) all came left)
    (step : YieldsFirst {A = ℕ} (λ rest. rest) left r more) where
  pub value_came : (w : ℕ) → r ≡ Some w → (w < 64) × holds s w
  value_came w is =
      value_held s w _ (YieldsList-turn (YieldsList-from_first (λ x. x) (λ rest. rest) (values_of s) start) came left came_by r more w is step)

  pub all_came : r ≡ None → came ≡ values_of s
  all_came is =
      sym (map-id came) ∙ (YieldsList-end (YieldsList-from_first (λ x. x) (λ rest. rest) (values_of s) start) came left came_by r more is step).0

-- flow f leads value w on
abbrev pub Onward : Graph → List ℕ → ℕ → ℕ → ℕ → Type 0
Onward G W d f w =
    through G f w ≢ 0 → (node_at G (flow_at G f).to).verified ≡ false → Near G W (flow_at G f).to (through G f w) (suc d)

-- the values of `done` are led on
pub record Leading (start ns : List NodeRecord) (fl : List FlowRecord) (rw' : List (List ℕ)) (N F : ℕ) (W₀ W fresh next₀ next : List ℕ)
    (d number : ℕ) (done : List ℕ) : Type 0 where
  pub spread : Spread (graph ns fl rw' N F) W fresh next d
  pub led : All (Onward (graph ns fl rw' N F) W d number) done
  pub grown : Grown N start ns W₀ W next₀ next

module _ (start ns : List NodeRecord) (fl : List FlowRecord) (rw' : List (List ℕ)) (N F : ℕ) (W₀ W fresh next₀ next : List ℕ)
    (d number : ℕ) (done : List ℕ)
    (lead : Leading start ns fl rw' N F W₀ W fresh next₀ next d number done) where
  -- where no value is left, all are led on
  pub lead_end : done ≡ values_of (get_or fresh (get_or fl number no_flow).«from» 0) → Led (graph ns fl rw' N F) W fresh d number 64
  lead_end e w lw h = all_held _ (Onward (graph ns fl rw' N F) W d number) (subst (All (Onward (graph ns fl rw' N F) W d number)) e lead.led) w lw h

  -- the next value that is led on
  module _ (value : ℕ) (lf : number < F) where
    -- the value that it makes is 0, or is there
    pub lead_none : (through (graph ns fl rw' N F) number value ≢ 0
        → holds (get_or ns (get_or fl number no_flow).to no_node).label (through (graph ns fl rw' N F) number value))
        → Leading start ns fl rw' N F W₀ W fresh next₀ next d number (done ++ value ∷ [])
    lead_none there = record {
      spread = lead.spread;
      led = All-append (Onward (graph ns fl rw' N F) W d number) done (value ∷ []) lead.led
          (All-cons (Onward (graph ns fl rw' N F) W d number) value []
          (λ some _. near _ _ (lead.spread.fit.joined number lf).1 (lead.spread.fit.bounded _ _) (there some)) (All-nil _));
      grown = lead.grown;
    }
      where
        near : (n v : ℕ) → n < N → v < 64 → holds (get_or ns n no_node).label v → Near (graph ns fl rw' N F) W n v (suc d)
        near n v ln lv h = (h, go (dec_lt d (distance W n v)))
          where
            go : Dec (d < distance W n v) → distance W n v ≤ suc d
            go (yes l) = omega (arith, (lead.spread.next_is n v ln lv (lead.spread.next_has n v ln lv h l)).1)
            go (no l) = omega arith

    -- the value that it makes is put there
    lead_put : (ns' : List NodeRecord) (W' next' : List ℕ) (a : ℕ)
        → (value < 64) × holds (get_or fresh (get_or fl number no_flow).«from» 0) value
        → Put ns ns' W W' next next' (get_or fl number no_flow).to (through (graph ns fl rw' N F) number value) d a
        → a ≡ 64 * number + value
        → length ns' ≡ length ns → length W' ≡ length W → length next' ≡ length next
        → through (graph ns fl rw' N F) number value ≢ 0
        → (holds (get_or ns (get_or fl number no_flow).to no_node).label (through (graph ns fl rw' N F) number value) → ⊥)
        → (get_or ns (get_or fl number no_flow).to no_node).verified ≡ false
        → Leading start ns' fl rw' N F W₀ W' fresh next₀ next' d number (done ++ value ∷ [])
    lead_put ns' W' next' a held p is long_ns long_W long_next some new open_end = record {
      spread =
          let was = lead.spread.fresh_is _ _ (lead.spread.fit.joined number lf).0 held.0 held.1 in
          put_spread ns ns' fl rw' N F W W' fresh next next' (get_or fl number no_flow).to _ d a p new
          number value (fitting_kept ns ns' fl rw' N F W W' long_ns long_W lead.spread.fit) (long_next ∙ lead.spread.next_long)
          (lead.spread.fit.joined number lf).1 (lead.spread.fit.bounded _ _) some open_end lf refl held.0 was.0 was.1 refl is lead.spread;
      led = All-append (Onward (graph ns' fl rw' N F) W' d number) done (value ∷ []) (λ k e l. still _ (lead.led k e l))
          (All-cons (Onward (graph ns' fl rw' N F) W' d number) value [] (λ _ _. (label_new p, omega (arith, p.distance_here))) (All-nil _));
      grown = grown_more lead.grown grown_here;
    }
      where
        grown_here : Grown N ns ns' W W' next next'
        grown_here = grown_put p new N (lead.spread.fit.joined number lf).1 (lead.spread.fit.bounded _ _)

        still : (w : ℕ) → Onward (graph ns fl rw' N F) W d number w → Onward (graph ns' fl rw' N F) W' d number w
        still w onward some' open' =
            let was = onward some' (sym (same_verified ns ns' grown_here.same _) ∙ open') in
            grown_here.near _ _ _ (lead.spread.fit.bounded _ _) was.0 was.1

    -- the same, of the lists that a call left
    pub lead_made : (ns' : List NodeRecord) (W' next' : List ℕ) → let made = through (graph ns fl rw' N F) number value in
        (value < 64) × holds (get_or fresh (get_or fl number no_flow).«from» 0) value
        → ns' ≡ set ns (get_or fl number no_flow).to (relabeled (get_or ns (get_or fl number no_flow).to no_node) (with_value (get_or ns (get_or fl number no_flow).to no_node).label made))
        → next' ≡ set next (get_or fl number no_flow).to (with_value (get_or next (get_or fl number no_flow).to 0) made)
        → W' ≡ set (set W (128 * (get_or fl number no_flow).to + made) (d + 1)) (128 * (get_or fl number no_flow).to + 64 + made) (64 * number + value)
        → made ≢ 0 → (holds (get_or ns (get_or fl number no_flow).to no_node).label made → ⊥)
        → (get_or ns (get_or fl number no_flow).to no_node).verified ≡ false
        → Leading start ns' fl rw' N F W₀ W' fresh next₀ next' d number (done ++ value ∷ [])
    lead_made ns' W' next' held is_nodes is_next is_words some new open_end =
        let fit = lead.spread.fit in
        let lb = (fit.joined number lf).1 in
        lead_put ns' W' next' _ held
        (put_made ns ns' W W' next next' _ _ d _ (omega (arith, lb, fit.nodes_room)) (omega (arith, lb, fit.few_nodes, lead.spread.next_long)) (omega (arith, lb, fit.words_room))
        (fit.bounded _ _) is_nodes is_next is_words)
        refl (ap length is_nodes ∙ length-set _ _ _) (ap length is_words ∙ length-set _ _ _ ∙ length-set _ _ _) (ap length is_next ∙ length-set _ _ _)
        some new open_end

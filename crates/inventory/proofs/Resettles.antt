-- What settle leaves behind.
use Rattle.std.proofs.Common.{◌≡◌, ℕ, zero, suc, ◌^◌, ◌<◌, ◌≤◌, true, List, [], ◌∷◌, ◌++◌, map, length, get_or, take, drop, sym, refl, ap, ◌∙◌, subst, arith, Result, Ok, Err, IsOk, OnOk}
use Rattle.std.proofs.lemmas.Result.{on_ok_weaker}
use Rattle.policy.specs.Words.{in_range}
use Rattle.ledger.specs.Ledger.{settle, after}
use Rattle.flows.specs.declared.records.NodeRecord.{NodeRecord}
use Rattle.inventory.specs.View.{View, made_of, ledger_of, node_of}
use Rattle.flows.specs.Graph.{no_node}
use Rattle.flows.specs.Graph.{graph, whole}
use Rattle.inventory.specs.View.{graph_of}
use Rattle.flows.specs.Certificate.{Certified}
use Rattle.flows.specs.Fitting.{Fitting}
use Rattle.flows.specs.Settled.{Relabeled, Beyond, Settled}
use Rattle.flows.proofs.Firsts.{fits_first, after_settled}
use Rattle.inventory.specs.Resettled.{Resettled}
use Rattle.inventory.specs.Sound.{Sound, GoodNode}
use Rattle.ledger.specs.Run.{LabelOf}
use Rattle.flows.specs.declared.records.FlowRecord.{FlowRecord}
use Rattle.inventory.specs.View.{record_at}
use Rattle.inventory.proofs.Bridge.{joined, bounded, label_right}

-- lists that are read the same up to a count
map_alike : {A B : Type 0} (f : A → B) (d : A) (count : ℕ) (xs ys : List A) → count ≤ length xs → length ys ≡ length xs
    → ((n : ℕ) → n < count → f (get_or ys n d) ≡ f (get_or xs n d)) → map f (take count ys) ≡ map f (take count xs)
map_alike f d zero xs ys fits long same = refl
map_alike f d (suc n) [] ys fits long same = absurd (omega arith)
map_alike f d (suc n) (x ∷ xs) [] fits long same = absurd (omega arith)
map_alike f d (suc n) (x ∷ xs) (y ∷ ys) fits long same =
    ap (λ z. z ∷ map f (take n ys)) (same 0 (omega arith))
    ∙ ap (λ l. f x ∷ l) (map_alike f d n xs ys (omega arith) (omega arith) (λ k l. same (suc k) (omega arith)))

on_ok : {T E P : Type 0} (r : Result T E) → OnOk r P → IsOk r → P
on_ok (Ok x) p is = p
on_ok (Err e) p is = cc

module _ (v : View) (s : Sound v) where
  pub fitting : Fitting (graph_of v) v.workspace
  fitting = record {
    few_nodes = omega (arith, s.node_fits.0, s.node_fits.1);
    few_flows = omega (arith, s.flow_fits.0, s.flow_fits.1);
    nodes_room = omega (arith, s.node_fits.0, s.node_fits.2);
    flows_room = omega (arith, s.flow_fits.0, s.flow_fits.2);
    words_room = omega (arith, s.node_fits.0, s.node_fits.3);
    joined = joined v s;
    stepped = λ f l. (s.flows_good f l).2;
    bounded = bounded v s;
  }

  -- the nodes ns and the words ws came back
  module _ (ns : List NodeRecord) (ws : List ℕ) (long : length ns ≡ length v.nodes) (words : length ws ≡ length v.workspace) (past : Beyond v.node_count v.workspace ws)
      (same : Relabeled v.node_count v.nodes ns) (all : Certified (graph ns v.flows v.steps v.node_count v.flow_count) ws) where
    abbrev pub settled_view : View
    settled_view = made_of ns v.flows ws v.steps v.node_count v.flow_count v.node_room v.flow_room v.sizes true

    good_still : (k : ℕ) → k < v.node_count → GoodNode v.sizes (get_or ns k no_node)
    good_still k l =
        let g = s.nodes_good k l in
        let e = ap node_of (same k).0 in (
          ap (λ x. in_range v.sizes.store x.store) e ∙ g.0,
          ap (λ x. in_range v.sizes.purpose x.purpose) e ∙ g.1,
          ap (λ x. in_range v.sizes.role x.role) e ∙ g.2,
          ap (λ x. in_range v.sizes.types x.marks) e ∙ g.3,
        )

    pub settled_sound : Sound settled_view
    settled_sound = record {
      sized = s.sized;
      node_fits = (s.node_fits.0, s.node_fits.1, omega (arith, s.node_fits.2), omega (arith, s.node_fits.3));
      flow_fits = s.flow_fits;
      nodes_good = good_still;
      flows_good = s.flows_good;
      flows_apart = s.flows_apart;
      rows_good = s.rows_good;
      rows_bounded = s.rows_bounded;
      rows_silent = s.rows_silent;
      labels_settled = ∣ (λ _. all) ∣₁;
    }

    pub settled_ledger : ledger_of settled_view ≡ after (ledger_of v) settle
    unfolding ledger_of
    settled_ledger =
        ap (λ l. record {
          sizes = v.sizes;
          node_room = v.node_room;
          flow_room = v.flow_room;
          nodes = l;
          steps = (ledger_of v).steps;
          flows = (ledger_of v).flows;
          settled = true;
        }) (map_alike node_of no_node v.node_count v.nodes ns (omega (arith, s.node_fits.0, s.node_fits.2)) long (λ n l. ap node_of (same n).0))

    pub settled_rest : Resettled v settled_view
    settled_rest = record {
      nodes = same;
      nodes_long = long;
      flows = refl;
      workspace = past;
      workspace_long = words;
      steps = refl;
      node_count = refl;
      flow_count = refl;
      node_room = refl;
      flow_room = refl;
      sizes = refl;
      settled = refl;
    }

  -- what is left, with the flows as they came back
  abbrev pub After : List NodeRecord → List FlowRecord → List ℕ → View
  After ns fl ws = made_of ns fl ws v.steps v.node_count v.flow_count v.node_room v.flow_room v.sizes true

  abbrev pub SettledAgain : View → Type 0
  SettledAgain w =
      Sound w × (ledger_of w ≡ after (ledger_of v) settle)
      × ((n : ℕ) → n < w.node_count → LabelOf (ledger_of w) n (record_at w n).label) × Resettled v w

  pub settled_again : (ns : List NodeRecord) (fl : List FlowRecord) (ws : List ℕ) → length ns ≡ length v.nodes → length ws ≡ length v.workspace
      → Beyond v.node_count v.workspace ws → fl ≡ v.flows → Relabeled v.node_count v.nodes ns → Certified (graph ns fl v.steps v.node_count v.flow_count) ws
      → ((n : ℕ) → n < v.node_count → (get_or ns n no_node).label < 2 ^ 64) → SettledAgain (After ns fl ws)
  settled_again ns fl ws long words past is same all small =
      let here = subst (λ (x : List FlowRecord). Certified (graph ns x v.steps v.node_count v.flow_count) ws) is all in
      let sound = settled_sound ns ws long words past same here in
      subst (λ (x : List FlowRecord). SettledAgain (After ns x ws)) (sym is)
      (sound, settled_ledger ns ws long words past same here, (λ n l. label_right (After ns v.flows ws) sound here n l (small n l)), settled_rest ns ws long words past same here)

  -- the nodes and flows that are in use were settled by these steps
  abbrev SettledCounted : List (List ℕ) → List NodeRecord → List ℕ → Type 0
  SettledCounted rows ns ws = Settled v.flows rows v.node_count v.flow_count v.nodes ns v.workspace ws

  settled_here : (ns : List NodeRecord) (ws : List ℕ) → SettledCounted v.steps ns ws → SettledAgain (After ns v.flows ws)
  settled_here ns ws done = settled_again ns v.flows ws done.nodes_long done.words_long done.past refl done.same done.certified done.small

  -- what was settled, where it was not refused, since all fits
  pub spread_counted_again : {T E : Type 0} (r : Result T E) (rows : List (List ℕ)) (ns : List NodeRecord) (ws : List ℕ) → rows ≡ v.steps
      → (Fitting (graph v.nodes v.flows rows v.node_count v.flow_count) v.workspace → IsOk r) → OnOk r (SettledCounted rows ns ws)
      → SettledAgain (After ns v.flows ws)
  spread_counted_again r rows ns ws is ok done =
      let fit = subst (λ (x : List (List ℕ)). Fitting (graph v.nodes v.flows x v.node_count v.flow_count) v.workspace) (sym is) fitting in
      settled_here ns ws (subst (λ (x : List (List ℕ)). SettledCounted x ns ws) is (on_ok r done (ok fit)))

  abbrev first_nodes : List NodeRecord
  first_nodes = take v.node_count v.nodes

  abbrev first_flows : List FlowRecord
  first_flows = take v.flow_count v.flows

  -- the first nodes and flows, as lists of their own, were settled by these steps
  abbrev SettledBy : List (List ℕ) → List NodeRecord → List ℕ → Type 0
  SettledBy rows ns ws = Settled first_flows rows (length first_nodes) (length first_flows) first_nodes ns v.workspace ws

  -- the same where the first alone were handed over, and those past them were not
  pub spread_again : {T E : Type 0} (r : Result T E) (rows : List (List ℕ)) (ns : List NodeRecord) (ws : List ℕ) → rows ≡ v.steps
      → (Fitting (whole first_nodes first_flows rows) v.workspace → IsOk r) → OnOk r (SettledBy rows ns ws)
      → SettledAgain (After (ns ++ drop v.node_count v.nodes) v.flows ws)
  spread_again r rows ns ws is ok done =
      let nodes = fitting.nodes_room in
      let flows = fitting.flows_room in
      spread_counted_again r rows (ns ++ drop v.node_count v.nodes) ws is (λ fit. ok (fits_first _ _ _ _ _ _ nodes flows fit))
      (on_ok_weaker r (after_settled _ _ _ _ _ _ nodes flows ns ws) done)

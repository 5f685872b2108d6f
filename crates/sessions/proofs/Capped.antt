-- Memory beyond what an inventory can use changes nothing.
use Rattle.std.proofs.Common.{◌≡◌, ℕ, ◌/◌, min, true, false, replicate, List, [], ◌∷◌, ◌++◌, length, take, refl, ap, ◌∙◌, subst, arith}
use lib.ListN.{length-replicate}
use Rattle.flows.specs.Graph.{no_node, no_flow}
use Rattle.flows.specs.declared.records.NodeRecord.{NodeRecord}
use Rattle.flows.specs.declared.records.FlowRecord.{FlowRecord}
use Rattle.lattice.specs.declared.sizes.Sizes.{Sizes}
use Rattle.ledger.specs.Ledger.{Ledger, fresh, nearest_size, counting}
use Rattle.sessions.specs.Brought.{node_records, flow_records, workspace_words}

same_nodes : (n w : ℕ) → min 4096 (min (min n 4096) (min w 524288 / 128)) ≡ min 4096 (min n (w / 128))
same_nodes n w = omega arith

same_flows : (f : ℕ) → min 16384 (min f 16384) ≡ min 16384 f
same_flows f = omega arith

-- a fresh ledger by its rooms
abbrev roomed : Sizes → ℕ → ℕ → Ledger
roomed z nodes flows = record {
  sizes = record { store = nearest_size z.store; purpose = nearest_size z.purpose; role = nearest_size z.role; types = nearest_size z.types };
  node_room = nodes;
  flow_room = flows;
  nodes = [];
  steps = counting (nearest_size z.types) ∷ [];
  flows = [];
  settled = true;
}

pub same_fresh : (z : Sizes) (n f w : ℕ) (ns : List NodeRecord) (fs : List FlowRecord) (ws : List ℕ) →
    ns ≡ node_records n → fs ≡ flow_records f → ws ≡ workspace_words w → fresh z (length ns) (length fs) (length ws) ≡ fresh z n f w
same_fresh z n f w ns fs ws en ef ew =
    let ln : length ns ≡ min n 4096 = ap length en ∙ length-replicate (min n 4096) no_node in
    let lf : length fs ≡ min f 16384 = ap length ef ∙ length-replicate (min f 16384) no_flow in
    let lw : length ws ≡ min w 524288 = ap length ew ∙ length-replicate (min w 524288) 0 in
    let rooms : min 4096 (min (length ns) (length ws / 128)) ≡ min 4096 (min n (w / 128)) =
    ap (λ k. min 4096 (min k (length ws / 128))) ln ∙ ap (λ k. min 4096 (min (min n 4096) (k / 128))) lw ∙ same_nodes n w in
    let more : min 16384 (length fs) ≡ min 16384 f = ap (λ k. min 16384 k) lf ∙ same_flows f in
    ap (λ k. roomed z k (min 16384 (length fs))) rooms ∙ ap (λ k. roomed z (min 4096 (min n (w / 128))) k) more

-- a default record is blank
pub blank_node : (r : NodeRecord) → (r.store ≡ 0) × ((r.purpose ≡ 0) × ((r.role ≡ 0) × ((r.marks ≡ 0) × ((r.label ≡ 0) × (r.verified ≡ false))))) → r ≡ no_node
blank_node r (store, (purpose, (role, (marks, (label, verified))))) =
    λ i. record { store = store i; purpose = purpose i; role = role i; marks = marks i; label = label i; verified = verified i }

pub blank_flow : (r : FlowRecord) → (r.from ≡ 0) × ((r.to ≡ 0) × (r.step ≡ 0)) → r ≡ no_flow
blank_flow r (start, (end, step)) = λ i. record { from = start i; to = end i; step = step i }

pub full : {A : Type 0} (k n : ℕ) (x y : A) → k ≡ n → x ≡ y → replicate k x ≡ replicate n y
full k n x y e₁ e₂ = λ i. replicate (e₁ i) (e₂ i)

-- a vector whose whole slice was written holds what was written
pub written : {A : Type 0} (len : ℕ) (last rest x : List A) → length last ≡ len → last ≡ x → take len (last ++ rest) ≡ x
written {A} len last rest x long e = subst (λ k. take k (last ++ rest) ≡ last) long (front last) ∙ e
  where
    front : (l : List A) → take (length l) (l ++ rest) ≡ l
    front [] = refl
    front (y ∷ l) = ap (λ (t : List A). y ∷ t) (front l)

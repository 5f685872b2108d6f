-- All that an inventory keeps in memory, part by part; the ledger that is read off it; and what each call writes.
use Rattle.std.specs.Prelude.{◌≡◌, ℕ, ◌+◌, ◌-◌, ◌/◌, min, Bool, true, false, List, [], ◌∷◌, ◌++◌, map, length, take, replicate, Some, None, Option, slice_index_or, slice_set}
use Rattle.flows.specs.Graph.{Graph, graph, no_node, no_flow}
use Rattle.flows.specs.declared.records.NodeRecord.{NodeRecord}
use Rattle.flows.specs.declared.records.FlowRecord.{FlowRecord}
use Rattle.lattice.specs.declared.sizes.Sizes.{Sizes}
use Rattle.lattice.specs.Sets.{with, without}
use Rattle.ledger.specs.Ledger.{Ledger, Node, Flow, Call, enter, step, mark, unmark, verify, draw, strike, settle, judge, path, declined, after, flow_number, counting, nearest_size}
use Rattle.ledger.specs.Run.{Answer, Answered}
use Rattle.policy.specs.declared.label.Label.{Label}

pub record View : Type 0 where
  pub nodes : List NodeRecord
  pub flows : List FlowRecord
  pub workspace : List ℕ
  pub steps : List (List ℕ)
  pub node_count : ℕ
  pub flow_count : ℕ
  pub node_room : ℕ
  pub flow_room : ℕ
  pub sizes : Sizes
  pub settled : Bool

abbrev pub made_of : List NodeRecord → List FlowRecord → List ℕ → List (List ℕ) → ℕ → ℕ → ℕ → ℕ → Sizes → Bool → View
made_of ns fs ws rows nc fc nr fr z b = record {
  nodes = ns;
  flows = fs;
  workspace = ws;
  steps = rows;
  node_count = nc;
  flow_count = fc;
  node_room = nr;
  flow_room = fr;
  sizes = z;
  settled = b;
}

-- what the records describe
abbrev pub graph_of : View → Graph
graph_of v = graph v.nodes v.flows v.steps v.node_count v.flow_count

-- The ledger of an inventory: the first records, up to the counts

abbrev pub node_of : NodeRecord → Node
node_of r = record { store = r.store; purpose = r.purpose; role = r.role; marks = r.marks; verified = r.verified }

abbrev pub flow_of : FlowRecord → Flow
flow_of r = record { from = r.from; to = r.to; step = r.step }

abbrev pub nodes_of : View → List Node
nodes_of v = map node_of (take v.node_count v.nodes)

abbrev pub flows_of : View → List Flow
flows_of v = map flow_of (take v.flow_count v.flows)

abbrev pub steps_of : View → List (List ℕ)
steps_of v = map (take v.sizes.types) v.steps

unfoldable pub ledger_of : View → Ledger
ledger_of v = record {
  sizes = v.sizes;
  node_room = v.node_room;
  flow_room = v.flow_room;
  nodes = nodes_of v;
  steps = steps_of v;
  flows = flows_of v;
  settled = v.settled;
}

abbrev pub nearest_sizes : Sizes → Sizes
nearest_sizes z = record { store = nearest_size z.store; purpose = nearest_size z.purpose; role = nearest_size z.role; types = nearest_size z.types }

abbrev pub with_steps : Ledger → List (List ℕ) → Ledger
with_steps L rows = record { sizes = L.sizes; node_room = L.node_room; flow_room = L.flow_room; nodes = L.nodes; steps = rows; flows = L.flows; settled = false }

abbrev pub no_flow_yet : Flow
no_flow_yet = record { from = 0; to = 0; step = 0 }

-- A new inventory: the memory as handed over, and the identity as its one step

abbrev pub first_steps : ℕ → List (List ℕ)
first_steps n = (counting n ++ replicate (64 - n) 0) ∷ []

abbrev pub made_new : Sizes → List NodeRecord → List FlowRecord → List ℕ → View
made_new z ns fs ws =
    made_of ns fs ws (first_steps (nearest_size z.types)) 0 0 (min 4096 (min (length ns) (length ws / 128))) (min 16384 (length fs)) (nearest_sizes z) true

-- What an accepted call writes

-- the node records and their count
abbrev pub put_nodes : View → List NodeRecord → ℕ → View
put_nodes v ns n = made_of ns v.flows v.workspace v.steps n v.flow_count v.node_room v.flow_room v.sizes false

abbrev pub put_flows : View → List FlowRecord → ℕ → View
put_flows v fs n = made_of v.nodes fs v.workspace v.steps v.node_count n v.node_room v.flow_room v.sizes false

abbrev pub put_steps : View → List (List ℕ) → View
put_steps v rows = made_of v.nodes v.flows v.workspace rows v.node_count v.flow_count v.node_room v.flow_room v.sizes false

abbrev pub entered : ℕ → ℕ → ℕ → NodeRecord
entered a b c = record { store = a; purpose = b; role = c; marks = 0; label = 0; verified = false }

abbrev pub remarked : NodeRecord → ℕ → NodeRecord
remarked r m = record { store = r.store; purpose = r.purpose; role = r.role; marks = m; label = r.label; verified = r.verified }

abbrev pub reverified : NodeRecord → Bool → NodeRecord
reverified r b = record { store = r.store; purpose = r.purpose; role = r.role; marks = r.marks; label = r.label; verified = b }

abbrev pub drawn : ℕ → ℕ → ℕ → FlowRecord
drawn a b t = record { from = a; to = b; step = t }

abbrev pub record_at : View → ℕ → NodeRecord
record_at v n = slice_index_or v.nodes n no_node

-- what is declared of a node, with the data types of its label
abbrev pub held_of : NodeRecord → Label
held_of r = record { store = r.store; purpose = r.purpose; role = r.role; types = r.label }

abbrev pub held_at : View → ℕ → Label
held_at v n = held_of (record_at v n)

-- the last flow's record is copied into the struck place, and the last record stays as it was
abbrev pub without_flow : View → Option ℕ → View
without_flow v (Some k) = put_flows v (slice_set v.flows k (slice_index_or v.flows (v.flow_count - 1) no_flow)) (v.flow_count - 1)
without_flow v None = put_flows v v.flows v.flow_count

unfoldable pub stored : View → Call → View
stored v (enter a b c) = put_nodes v (slice_set v.nodes v.node_count (entered a b c)) (v.node_count + 1)
stored v (step row) = put_steps v (v.steps ++ (row ++ replicate (64 - length row) 0) ∷ [])
stored v (mark n x) = put_nodes v (slice_set v.nodes n (remarked (record_at v n) (with (record_at v n).marks x))) v.node_count
stored v (unmark n x) = put_nodes v (slice_set v.nodes n (remarked (record_at v n) (without (record_at v n).marks x))) v.node_count
stored v (verify n b) = put_nodes v (slice_set v.nodes n (reverified (record_at v n) b)) v.node_count
stored v (draw a b s) = put_flows v (slice_set v.flows v.flow_count (drawn a b s)) (v.flow_count + 1)
stored v (strike a b s) = without_flow v (flow_number (flows_of v) a b s)
-- these change no record of the ledger: what settle writes, its own contract says
stored v settle = v
stored v (judge n s p) = v
stored v (path n x room) = v

-- the memory after a call: a declined one writes nothing
unfoldable pub written : View → Call → View
written v c = elim (declined (ledger_of v) c) [ Some r ↦ v | None ↦ stored v c ]

-- What a call promises, by the views before and after it: its answer, every part of the memory, and the ledger
pub record Called (before next : View) (call : Call) (answer : Answer) : Type 0 where
  pub answered : Answered (ledger_of before) call answer
  pub memory : next ≡ written before call
  pub ledger : ledger_of next ≡ after (ledger_of before) call

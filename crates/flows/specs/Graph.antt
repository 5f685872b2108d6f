-- What the records describe: nodes with marks, flows between them, and what each step makes of a value.
-- Sets of values are numbers: bit v is set where value v is in the set.
use Rattle.std.specs.Prelude.{◌≡◌, ℕ, ◌/◌, ◌%◌, ◌^◌, ◌<◌, false, ◌≢◌, List, [], ◌∷◌, length, slice_index, slice_index_or}
use Rattle.flows.specs.declared.records.NodeRecord.{NodeRecord}
use Rattle.flows.specs.declared.records.FlowRecord.{FlowRecord}

pub record Graph : Type 0 where
  pub nodes : List NodeRecord
  pub flows : List FlowRecord
  pub rows : List (List ℕ)
  pub node_count : ℕ
  pub flow_count : ℕ

abbrev pub graph : List NodeRecord → List FlowRecord → List (List ℕ) → ℕ → ℕ → Graph
graph nodes flows rows node_count flow_count =
    record { nodes = nodes; flows = flows; rows = rows; node_count = node_count; flow_count = flow_count }

-- the graph of all these nodes and flows
abbrev pub whole : List NodeRecord → List FlowRecord → List (List ℕ) → Graph
whole nodes flows rows = graph nodes flows rows (length nodes) (length flows)

-- value v is in the set s
abbrev pub holds : ℕ → ℕ → Type 0
holds s v = s / 2 ^ v % 2 ≡ 1

-- what a read past the end of a list gives
abbrev pub no_node : NodeRecord
no_node = record { store = 0; purpose = 0; role = 0; marks = 0; label = 0; verified = false }

abbrev pub no_flow : FlowRecord
no_flow = record { «from» = 0; to = 0; step = 0 }

-- a node's record with another label
abbrev pub relabeled : NodeRecord → ℕ → NodeRecord
relabeled r l = record { store = r.store; purpose = r.purpose; role = r.role; marks = r.marks; label = l; verified = r.verified }

abbrev pub node_at : Graph → ℕ → NodeRecord
node_at G n = slice_index_or G.nodes n no_node

abbrev pub flow_at : Graph → ℕ → FlowRecord
flow_at G f = slice_index_or G.flows f no_flow

-- the value that step t makes of v
abbrev pub carried : Graph → ℕ → ℕ → ℕ
carried G t v = slice_index (slice_index_or G.rows t []) v

-- the value that flow f makes of v
abbrev pub through : Graph → ℕ → ℕ → ℕ
through G f v = carried G (flow_at G f).step v

-- The flows fs, one after another, lead value x at node a to value y at node b:
-- no value after a flow is 0, and no node after the first is verified.
abbrev pub Trail : Graph → ℕ → ℕ → List ℕ → ℕ → ℕ → Type 0
Trail G a x [] b y = (a ≡ b) × (x ≡ y)
Trail G a x (f ∷ fs) b y =
    (f < G.flow_count) × ((flow_at G f).«from» ≡ a) × (through G f x ≢ 0) × ((node_at G (flow_at G f).to).verified ≡ false)
    × Trail G (flow_at G f).to (through G f x) fs b y

-- A flow path starts at a node with one of its marks.
abbrev pub FlowPath : Graph → List ℕ → ℕ → ℕ → Type 0
FlowPath G fs b y = (a : ℕ) × (x : ℕ) × (a < G.node_count) × holds (node_at G a).marks x × Trail G a x fs b y

-- The arguments fit each other: the counts are within the lists, and what the flows and steps name is there.
use Rattle.std.specs.Prelude.{ℕ, ◌*◌, ◌^◌, ◌<◌, ◌≤◌, List, length}
use Rattle.flows.specs.declared.records.FlowRecord.{FlowRecord}
use Rattle.flows.specs.Graph.{Graph, node_at, flow_at, carried}

-- flows start and end at nodes
abbrev pub Joined : Graph → Type 0
Joined G = (f : ℕ) → f < G.flow_count → ((flow_at G f).«from» < G.node_count) × ((flow_at G f).to < G.node_count)

-- each flow takes one of k steps
abbrev pub Stepped : Graph → ℕ → Type 0
Stepped G k = (f : ℕ) → f < G.flow_count → (flow_at G f).step < k

-- every value that a step makes is below k
abbrev pub Bounded : Graph → ℕ → Type 0
Bounded G k = (t v : ℕ) → carried G t v < k

-- the marks of each node are values below 64
abbrev pub SmallMarks : Graph → Type 0
SmallMarks G = (n : ℕ) → n < G.node_count → (node_at G n).marks < 2 ^ 64

-- a flow starts and ends at one of k nodes, and takes one of m steps
abbrev pub FlowFits : ℕ → ℕ → FlowRecord → Type 0
FlowFits k m flow = (flow.«from» < k) × (flow.to < k) × (flow.step < m)

-- the lists are long enough for the counts, and what the flows name is there
pub record Fitting (G : Graph) (W : List ℕ) : Type 0 where
  pub few_nodes : G.node_count ≤ 4096
  pub few_flows : G.flow_count ≤ 16384
  pub nodes_room : G.node_count ≤ length G.nodes
  pub flows_room : G.flow_count ≤ length G.flows
  pub words_room : 128 * G.node_count ≤ length W
  pub joined : Joined G
  pub stepped : Stepped G (length G.rows)
  pub bounded : Bounded G 64

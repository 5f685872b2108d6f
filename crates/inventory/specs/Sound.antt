-- What every inventory keeps.
use Rattle.std.specs.Prelude.{◌≡◌, ℕ, ◌*◌, ◌<◌, ◌≤◌, Bool, true, List, [], length, take, slice_index, slice_index_or}
use Rattle.flows.specs.declared.records.NodeRecord.{NodeRecord}
use Rattle.flows.specs.declared.records.FlowRecord.{FlowRecord}
use Rattle.lattice.specs.declared.sizes.Sizes.{Sizes}
use Rattle.policy.specs.Words.{in_range}
use Rattle.ledger.specs.Ledger.{good_row}
use Rattle.inventory.specs.View.{View}
use Rattle.flows.specs.Graph.{no_node, no_flow}
use Rattle.flows.specs.Graph.{graph}
use Rattle.flows.specs.Certificate.{Certified}

abbrev pub GoodSize : ℕ → Type 0
GoodSize n = (2 ≤ n) × (n ≤ 64)

abbrev pub GoodSizes : Sizes → Type 0
GoodSizes z = GoodSize z.store × GoodSize z.purpose × GoodSize z.role × GoodSize z.types

-- The count lies within the room, and the room within the memory

abbrev pub NodeRoom : List NodeRecord → List ℕ → ℕ → ℕ → Type 0
NodeRoom nodes words count room = (count ≤ room) × (room ≤ 4096) × (room ≤ length nodes) × (room * 128 ≤ length words)

abbrev pub FlowRoom : List FlowRecord → ℕ → ℕ → Type 0
FlowRoom flows count room = (count ≤ room) × (room ≤ 16384) × (room ≤ length flows)

-- declared sets and marks are in range
abbrev pub GoodNode : Sizes → NodeRecord → Type 0
GoodNode z r =
    (in_range z.store r.store ≡ true) × (in_range z.purpose r.purpose ≡ true)
    × (in_range z.role r.role ≡ true) × (in_range z.types r.marks ≡ true)

abbrev pub GoodNodes : Sizes → List NodeRecord → ℕ → Type 0
GoodNodes z nodes count = (k : ℕ) → k < count → GoodNode z (slice_index_or nodes k no_node)

-- a flow names nodes and a step that exist
abbrev pub GoodFlow : ℕ → ℕ → FlowRecord → Type 0
GoodFlow nodes steps r = (r.from < nodes) × (r.to < nodes) × (r.step < steps)

abbrev pub GoodFlows : ℕ → ℕ → List FlowRecord → ℕ → Type 0
GoodFlows nodes steps flows count = (k : ℕ) → k < count → GoodFlow nodes steps (slice_index_or flows k no_flow)

-- no two flows are the same
abbrev pub Apart : List FlowRecord → ℕ → Type 0
Apart flows count = (i j : ℕ) → (i < count) × (j < count) × (slice_index_or flows i no_flow ≡ slice_index_or flows j no_flow) → i ≡ j

abbrev pub GoodRows : ℕ → List (List ℕ) → Type 0
GoodRows types rows = (k : ℕ) → k < length rows → good_row types (take types (slice_index_or rows k [])) ≡ true

-- every entry of the table of steps is a value, and those past the last value are 0
abbrev pub BoundedRows : ℕ → List (List ℕ) → Type 0
BoundedRows types rows = (t v : ℕ) → slice_index (slice_index_or rows t []) v < types

abbrev pub SilentRows : ℕ → List (List ℕ) → Type 0
SilentRows types rows = (t v : ℕ) → types ≤ v → slice_index (slice_index_or rows t []) v ≡ 0

-- where settled, the labels and the workspace are what the flows make of the marks
abbrev pub SettledLabels : List NodeRecord → List FlowRecord → List (List ℕ) → List ℕ → ℕ → ℕ → Bool → Type 0
SettledLabels nodes flows rows words node_count flow_count settled =
    ∥ (settled ≡ true → Certified (graph nodes flows rows node_count flow_count) words) ∥₁

-- all of these, of a view
pub record Sound (v : View) : Type 0 where
  pub sized : GoodSizes v.sizes
  pub node_fits : NodeRoom v.nodes v.workspace v.node_count v.node_room
  pub flow_fits : FlowRoom v.flows v.flow_count v.flow_room
  pub nodes_good : GoodNodes v.sizes v.nodes v.node_count
  pub flows_good : GoodFlows v.node_count (length v.steps) v.flows v.flow_count
  pub flows_apart : Apart v.flows v.flow_count
  pub rows_good : GoodRows v.sizes.types v.steps
  pub rows_bounded : BoundedRows v.sizes.types v.steps
  pub rows_silent : SilentRows v.sizes.types v.steps
  pub labels_settled : SettledLabels v.nodes v.flows v.steps v.workspace v.node_count v.flow_count v.settled

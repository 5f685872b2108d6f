-- What holds while values spread over a graph, round by round: in round d the values at distance d are led on along each flow.
use Rattle.std.specs.Prelude.{◌≡◌, ℕ, zero, suc, ◌+◌, ◌/◌, ◌%◌, ◌^◌, ◌<◌, ◌≤◌, false, ◌≢◌, List, Option, None, Some, length, slice_index, slice_index_or}
use Rattle.flows.specs.declared.records.FlowRecord.{FlowRecord}
use Rattle.flows.specs.declared.records.NodeRecord.{NodeRecord}
use Rattle.flows.specs.Graph.{Graph, holds, no_node, no_flow, node_at, flow_at, through}
use Rattle.flows.specs.Certificate.{distance, Near, Grounded, Linked, Marked}
use Rattle.flows.specs.Settled.{Relabeled, Beyond}
use Rattle.flows.specs.Fitting.{Fitting}
use Rattle.flows.specs.Fronts.{Empty}

abbrev pub sum_below : ℕ → (ℕ → ℕ) → ℕ
sum_below zero g = 0
sum_below (suc k) g = sum_below k g + g k

-- how many values the labels of the first k nodes have
abbrev pub held_count : ℕ → List NodeRecord → ℕ
held_count k nodes = sum_below k (λ n. sum_below 64 (λ v. (slice_index_or nodes n no_node).label / 2 ^ v % 2))

-- `fresh` has the values at distance d, `next` those at distance d + 1, and there are none further away.
-- The values that are nearer than d are led on along every flow.
pub record Spread (G : Graph) (W fresh next : List ℕ) (d : ℕ) : Type 0 where
  pub fit : Fitting G W
  pub fresh_long : length fresh ≡ 4096
  pub next_long : length next ≡ 4096
  pub fresh_within : (n : ℕ) → slice_index fresh n ≢ 0 → n < G.node_count
  pub next_within : (n : ℕ) → slice_index next n ≢ 0 → n < G.node_count
  pub small : (n : ℕ) → n < G.node_count → (node_at G n).label < 2 ^ 64
  pub grounded : Grounded G W
  pub linked : Linked G W
  pub marked : Marked G W
  pub fresh_is : (n v : ℕ) → n < G.node_count → v < 64 → holds (slice_index fresh n) v → holds (node_at G n).label v × (distance W n v ≡ d)
  pub fresh_has : (n v : ℕ) → n < G.node_count → v < 64 → holds (node_at G n).label v → distance W n v ≡ d → holds (slice_index fresh n) v
  pub next_is : (n v : ℕ) → n < G.node_count → v < 64 → holds (slice_index next n) v → holds (node_at G n).label v × (distance W n v ≡ suc d)
  pub next_has : (n v : ℕ) → n < G.node_count → v < 64 → holds (node_at G n).label v → d < distance W n v → holds (slice_index next n) v
  pub led_on : (f w : ℕ) → f < G.flow_count → w < 64 → holds (node_at G (flow_at G f).«from»).label w
      → distance W (flow_at G f).«from» w < d
      → through G f w ≢ 0 → (node_at G (flow_at G f).to).verified ≡ false
      → Near G W (flow_at G f).to (through G f w) (suc (distance W (flow_at G f).«from» w))

-- the fresh values below k at the start of flow f are led on along it
abbrev pub Led : Graph → List ℕ → List ℕ → ℕ → ℕ → ℕ → Type 0
Led G W fresh d f k =
    (w : ℕ) → w < k → holds (slice_index fresh (flow_at G f).«from») w → through G f w ≢ 0 → (node_at G (flow_at G f).to).verified ≡ false
    → Near G W (flow_at G f).to (through G f w) (suc d)

-- the labels of the first k nodes are their marks, and their marks are fresh
pub record Begun (k : ℕ) (before after : List NodeRecord) (fresh : List ℕ) : Type 0 where
  pub same : Relabeled k before after
  pub small : (n : ℕ) → n < k → (slice_index_or after n no_node).marks < 2 ^ 64
  pub labels : (n : ℕ) → n < k → (slice_index_or after n no_node).label ≡ (slice_index_or after n no_node).marks
  pub starts : (n : ℕ) → n < k → slice_index fresh n ≡ (slice_index_or after n no_node).marks
  pub within : (n : ℕ) → slice_index fresh n ≢ 0 → n < k
  pub long : length fresh ≡ 4096

-- the first k words are cleared
pub record Cleared (k : ℕ) (before after : List ℕ) : Type 0 where
  pub below : (i : ℕ) → i < k → slice_index after i ≡ 0
  pub past : (i : ℕ) → k ≤ i → slice_index after i ≡ slice_index before i
  pub long : length after ≡ length before

-- what a part of a round did: values are new in the labels of the first k nodes, and what was there is as near as it was
pub record Grown (k : ℕ) (before after : List NodeRecord) (W W' next next' : List ℕ) : Type 0 where
  pub same : Relabeled k before after
  pub past : Beyond k W W'
  pub more : held_count k before ≤ held_count k after
  pub idle : held_count k after ≡ held_count k before → next' ≡ next
  pub near : (n v j : ℕ) → v < 64 → holds (slice_index_or before n no_node).label v → distance W n v ≤ j
      → holds (slice_index_or after n no_node).label v × (distance W' n v ≤ j)

-- the rounds can begin: nothing is new yet
abbrev pub Starts : Graph → List ℕ → List ℕ → Type 0
Starts G W fresh = (next : List ℕ) → Empty next → Spread G W fresh next 0

-- one more than the number of a flow, or 0 for none
abbrev pub past_flow : Option ℕ → ℕ
past_flow None = 0
past_flow (Some f) = suc f

-- The flows that start at one node are chained, the last first: `head` has the last flow of each node,
-- and `link` the flow before each flow.
pub record Chained (flows : List FlowRecord) (k : ℕ) (head link : List (Option ℕ)) : Type 0 where
  pub last : (f : ℕ) → f < k → f < past_flow (slice_index_or head (slice_index_or flows f no_flow).«from» None)
  pub head_is : (n f : ℕ) → slice_index_or head n None ≡ Some f → (f < k) × ((slice_index_or flows f no_flow).«from» ≡ n)
  pub before : (f g : ℕ) → f < g → g < k → (slice_index_or flows f no_flow).«from» ≡ (slice_index_or flows g no_flow).«from»
      → f < past_flow (slice_index_or link g None)
  pub link_is : (g f : ℕ) → g < k → slice_index_or link g None ≡ Some f
      → (f < g) × ((slice_index_or flows f no_flow).«from» ≡ (slice_index_or flows g no_flow).«from»)

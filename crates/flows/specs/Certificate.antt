-- What the workspace says of the labels, node by node and value by value, with no mention of paths.
use Rattle.std.specs.Prelude.{◌≡◌, ℕ, suc, ◌+◌, ◌*◌, ◌/◌, ◌%◌, ◌<◌, ◌≤◌, false, ◌≢◌, List, slice_index}
use Rattle.flows.specs.Graph.{Graph, holds, node_at, flow_at, through}

-- The workspace has 128 words for each node: for each value its distance from a mark, and then for each value its arrival.
abbrev pub distance : List ℕ → ℕ → ℕ → ℕ
distance W n v = slice_index W (128 * n + v)

-- how value v first came to node n: the number of the flow, times 64, plus the value before the flow
abbrev pub arrival : List ℕ → ℕ → ℕ → ℕ
arrival W n v = slice_index W (128 * n + 64 + v)

-- value v came to node n by a flow f, from a value w one step nearer to a mark
abbrev pub Arrived : Graph → List ℕ → ℕ → ℕ → ℕ → ℕ → Type 0
Arrived G W n v f w =
    (f < G.flow_count) × ((flow_at G f).to ≡ n) × ((node_at G n).verified ≡ false) × holds (node_at G (flow_at G f).«from»).label w
    × (distance W n v ≡ suc (distance W (flow_at G f).«from» w)) × (through G f w ≡ v) × (v ≢ 0)

-- value v is in the label of node n, at most k flows from a mark
abbrev pub Near : Graph → List ℕ → ℕ → ℕ → ℕ → Type 0
Near G W n v k = holds (node_at G n).label v × (distance W n v ≤ k)

-- a value of a label at distance 0 is a mark
abbrev pub Grounded : Graph → List ℕ → Type 0
Grounded G W =
    (n v : ℕ) → n < G.node_count → v < 64 → holds (node_at G n).label v → distance W n v ≡ 0 → holds (node_at G n).marks v

-- a value of a label at any other distance arrived
abbrev pub Linked : Graph → List ℕ → Type 0
Linked G W =
    (n v : ℕ) → n < G.node_count → v < 64 → holds (node_at G n).label v → distance W n v ≢ 0
    → Arrived G W n v (arrival W n v / 64) (arrival W n v % 64)

-- each mark is in the label, at distance 0
abbrev pub Marked : Graph → List ℕ → Type 0
Marked G W = (n v : ℕ) → n < G.node_count → v < 64 → holds (node_at G n).marks v → Near G W n v 0

-- no flow leads on from a label to a value that is missing, or that is further away than it need be
abbrev pub Closed : Graph → List ℕ → Type 0
Closed G W =
    (f w : ℕ) → f < G.flow_count → w < 64 → holds (node_at G (flow_at G f).«from»).label w
    → through G f w ≢ 0 → (node_at G (flow_at G f).to).verified ≡ false
    → Near G W (flow_at G f).to (through G f w) (suc (distance W (flow_at G f).«from» w))

abbrev pub Certified : Graph → List ℕ → Type 0
Certified G W = Grounded G W × Linked G W × Marked G W × Closed G W

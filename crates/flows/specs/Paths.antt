-- The paths that the workspace has, and what a certificate says of them.
use Rattle.std.specs.Prelude.{◌≡◌, ℕ, zero, suc, ◌/◌, ◌%◌, ◌<◌, List, [], ◌∷◌, ◌++◌, length, slice_index_or}
use Rattle.flows.specs.declared.records.FlowRecord.{FlowRecord}
use Rattle.flows.specs.Graph.{Graph, holds, no_flow, node_at, FlowPath}
use Rattle.flows.specs.Certificate.{distance, arrival, Near, Certified}
use Rattle.flows.specs.Fitting.{Joined, Bounded, SmallMarks}

-- the last k hops by which value x came to node n, as the workspace has them
unfoldable pub hops : List ℕ → List FlowRecord → ℕ → ℕ → ℕ → List ℕ
hops W flows zero n x = []
hops W flows (suc k) n x = hops W flows k (slice_index_or flows (arrival W n x / 64) no_flow).«from» (arrival W n x % 64) ++ (arrival W n x / 64 ∷ [])

-- each value of a label came by a flow path with as many flows as its distance
abbrev pub Reached : Graph → List ℕ → Type 0
Reached G W =
    (n v : ℕ) → n < G.node_count → v < 64 → holds (node_at G n).label v
    → FlowPath G (hops W G.flows (distance W n v) n v) n v × (length (hops W G.flows (distance W n v) n v) ≡ distance W n v)

-- the value of each flow path is in the label where it ends, and the path has at least as many flows as the distance
abbrev pub Complete : Graph → List ℕ → Type 0
Complete G W = (fs : List ℕ) (n v : ℕ) → FlowPath G fs n v → Near G W n v (length fs)

abbrev pub CertificatesGiveShortestPaths : Type 0
CertificatesGiveShortestPaths = (G : Graph) (W : List ℕ) → Joined G → Bounded G 64 → SmallMarks G → Certified G W → Reached G W × Complete G W

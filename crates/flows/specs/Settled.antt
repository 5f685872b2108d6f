-- What spreading leaves in the nodes and the workspace.
use Rattle.std.specs.Prelude.{◌≡◌, ℕ, ◌*◌, ◌^◌, ◌<◌, ◌≤◌, List, length, slice_index_or, slice_index}
use Rattle.flows.specs.declared.records.FlowRecord.{FlowRecord}
use Rattle.flows.specs.declared.records.NodeRecord.{NodeRecord}
use Rattle.flows.specs.Graph.{graph, no_node, relabeled}
use Rattle.flows.specs.Certificate.{Certified}
use Rattle.flows.specs.Fitting.{Fitting, SmallMarks}
use Rattle.flows.specs.Paths.{Reached, Complete}

-- the nodes are as before, but for the labels of the first k
abbrev pub Relabeled : ℕ → List NodeRecord → List NodeRecord → Type 0
Relabeled k before after =
    (n : ℕ) → (slice_index_or after n no_node ≡ relabeled (slice_index_or before n no_node) (slice_index_or after n no_node).label)
    × (k ≤ n → slice_index_or after n no_node ≡ slice_index_or before n no_node)

-- the words are as before, but for those of the first k nodes
abbrev pub Beyond : ℕ → List ℕ → List ℕ → Type 0
Beyond k before after = (i : ℕ) → 128 * k ≤ i → slice_index after i ≡ slice_index before i

-- The labels are new and have their certificate, and all else is as it was.
pub record Settled (flows : List FlowRecord) (rows : List (List ℕ)) (N F : ℕ) (before after : List NodeRecord) (W W' : List ℕ) : Type 0 where
  pub same : Relabeled N before after
  pub nodes_long : length after ≡ length before
  pub past : Beyond N W W'
  pub words_long : length W' ≡ length W
  pub small : (n : ℕ) → n < N → (slice_index_or after n no_node).label < 2 ^ 64
  pub small_marks : SmallMarks (graph after flows rows N F)
  pub fits : Fitting (graph after flows rows N F) W'
  pub certified : Certified (graph after flows rows N F) W'
  pub reached : Reached (graph after flows rows N F) W'
  pub complete : Complete (graph after flows rows N F) W'

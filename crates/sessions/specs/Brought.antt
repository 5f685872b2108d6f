-- The memory that is brought for a run: as many records as are asked for, but no more than an inventory can use. Assumes nothing.
use Rattle.std.specs.Prelude.{ℕ, min, List, replicate}
use Rattle.flows.specs.Graph.{no_node, no_flow}
use Rattle.flows.specs.declared.records.NodeRecord.{NodeRecord}
use Rattle.flows.specs.declared.records.FlowRecord.{FlowRecord}

abbrev pub node_records : ℕ → List NodeRecord
node_records n = replicate (min n 4096) no_node

abbrev pub flow_records : ℕ → List FlowRecord
flow_records n = replicate (min n 16384) no_flow

abbrev pub workspace_words : ℕ → List ℕ
workspace_words n = replicate (min n 524288) 0

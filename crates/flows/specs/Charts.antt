-- What a chart says, and what holds in a round.
use Rattle.std.specs.Prelude.{◌≡◌, ℕ, ◌^◌, ◌<◌, ◌≤◌, List, length}
use Rattle.flows.specs.declared.charts.Chart.{Chart}
use Rattle.flows.specs.declared.leading.Round.{Round}
use Rattle.flows.specs.declared.leading.Wave.{Wave}
use Rattle.flows.specs.declared.records.NodeRecord.{NodeRecord}
use Rattle.flows.specs.Graph.{Graph, graph}
use Rattle.flows.specs.Rounds.{Chained, Grown, Led, Spread}

-- the graph of nodes with the flows and steps of a chart, which has a chain for each node
abbrev pub graph_on : Chart → List NodeRecord → Graph
graph_on chart nodes = graph nodes chart.flows.now chart.rows.now (length chart.head.now) (length chart.flows.now)

-- the chains lead from each node to its flows
pub record Charted (chart : Chart) : Type 0 where
  pub room : length chart.flows.now ≤ length chart.link.now
  pub chained : Chained chart.flows.now (length chart.flows.now) chart.head.now chart.link.now

-- a round can go on
pub record Ready (round : Round) (wave : Wave) : Type 0 where
  pub charted : Charted round.chart
  pub near : round.distance < 2 ^ 20
  pub spread : Spread (graph_on round.chart wave.nodes.now) wave.workspace.now round.fresh.now wave.next.now round.distance

-- what is lent to the wave is the same memory
pub record SameMemory (before after : Wave) : Type 0 where
  pub nodes : after.nodes.ghost_name ≡ before.nodes.ghost_name
  pub workspace : after.workspace.ghost_name ≡ before.workspace.ghost_name
  pub next : after.next.ghost_name ≡ before.next.ghost_name

-- what a part of a round did
pub record Went (round : Round) (before after : Wave) : Type 0 where
  pub same : SameMemory before after
  pub grown : Grown (length round.chart.head.now) before.nodes.now after.nodes.now before.workspace.now after.workspace.now before.next.now after.next.now

-- a round has led all fresh values at the start of flow f on along it
abbrev pub LedOn : Round → Wave → ℕ → Type 0
LedOn round wave f = Led (graph_on round.chart wave.nodes.now) wave.workspace.now round.fresh.now round.distance f 64

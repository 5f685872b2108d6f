-- What settle leaves as it was: everything but the labels below the count, the words of the nodes below the count, and `settled`.
use Rattle.std.specs.Prelude.{◌≡◌, true, length}
use Rattle.flows.specs.Settled.{Relabeled, Beyond}
use Rattle.inventory.specs.View.{View}

pub record Resettled (before after : View) : Type 0 where
  pub nodes : Relabeled before.node_count before.nodes after.nodes
  pub nodes_long : length after.nodes ≡ length before.nodes
  pub flows : after.flows ≡ before.flows
  pub workspace : Beyond before.node_count before.workspace after.workspace
  pub workspace_long : length after.workspace ≡ length before.workspace
  pub steps : after.steps ≡ before.steps
  pub node_count : after.node_count ≡ before.node_count
  pub flow_count : after.flow_count ≡ before.flow_count
  pub node_room : after.node_room ≡ before.node_room
  pub flow_room : after.flow_room ≡ before.flow_room
  pub sizes : after.sizes ≡ before.sizes
  pub settled : after.settled ≡ true

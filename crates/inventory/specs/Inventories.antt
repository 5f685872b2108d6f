-- The view and the ledger of an inventory.
use Rattle.std.specs.Prelude.{◌≡◌}
use Rattle.ledger.specs.Ledger.{Ledger}
use Rattle.inventory.specs.View.{View, made_of, ledger_of}
use Rattle.inventory.specs.declared.inventory.Inventory.{Inventory}

abbrev pub view : Inventory → View
view s =
    made_of s.nodes.now s.flows.now s.workspace.now s.steps.items
    s.node_count s.flow_count s.node_room s.flow_room s.sizes s.settled

abbrev pub ledger : Inventory → Ledger
ledger s = ledger_of (view s)

-- the memory that was lent is the same memory before and after
abbrev pub SameMemory : Inventory → Inventory → Type 0
SameMemory before after =
    (after.nodes.ghost_name ≡ before.nodes.ghost_name) × (after.flows.ghost_name ≡ before.flows.ghost_name)
    × (after.workspace.ghost_name ≡ before.workspace.ghost_name)

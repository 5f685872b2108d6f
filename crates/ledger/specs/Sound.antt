-- What holds of every ledger that calls make, and of the calls of a run that bring lattices. Assumes nothing.
use Rattle.std.specs.Prelude.{ℕ, ◌<◌, ◌≤◌, T, List, [], ◌∷◌, length, slice_index_or}
use Rattle.lattice.specs.Schemes.{Lattices}
use Rattle.lattice.specs.declared.sizes.Sizes.{Sizes}
use Rattle.policy.specs.Words.{in_range}
use Rattle.ledger.specs.Ledger.{Ledger, Node, Flow, Call, enter, step, mark, unmark, verify, draw, strike, settle, judge, path, good_row, node_at, flow_at}
use Rattle.ledger.specs.Run.{Event}

abbrev pub GoodSize : ℕ → Type 0
GoodSize n = (2 ≤ n) × (n ≤ 64)

pub record GoodSizes (z : Sizes) : Type 0 where
  pub store : GoodSize z.store
  pub purpose : GoodSize z.purpose
  pub role : GoodSize z.role
  pub types : GoodSize z.types

-- the declared sets of a node and its marks have values from 1 to the size less 1
pub record GoodNode (z : Sizes) (x : Node) : Type 0 where
  pub store : T (in_range z.store x.store)
  pub purpose : T (in_range z.purpose x.purpose)
  pub role : T (in_range z.role x.role)
  pub marks : T (in_range z.types x.marks)

-- a flow between nodes that exist, by a step that exists
pub record GoodFlow (nodes steps : ℕ) (f : Flow) : Type 0 where
  pub from : f.from < nodes
  pub to : f.to < nodes
  pub step : f.step < steps

pub record Sound (L : Ledger) : Type 0 where
  pub sizes : GoodSizes L.sizes
  pub nodes : (n : ℕ) → n < length L.nodes → GoodNode L.sizes (node_at L n)
  pub steps : (t : ℕ) → t < length L.steps → T (good_row L.sizes.types (slice_index_or L.steps t []))
  pub flows : (f : ℕ) → f < length L.flows → GoodFlow (length L.nodes) (length L.steps) (flow_at L f)

-- the orders that a call brings are lattices
abbrev pub LatticesBrought : Call → Type 0
LatticesBrought (enter a b c) = Unit {0}
LatticesBrought (step row) = Unit {0}
LatticesBrought (mark n v) = Unit {0}
LatticesBrought (unmark n v) = Unit {0}
LatticesBrought (verify n b) = Unit {0}
LatticesBrought (draw a b c) = Unit {0}
LatticesBrought (strike a b c) = Unit {0}
LatticesBrought settle = Unit {0}
LatticesBrought (judge n s p) = Lattices s
LatticesBrought (path n v room) = Unit {0}

abbrev pub EveryCallBringsLattices : List Event → Type 0
EveryCallBringsLattices [] = Unit {0}
EveryCallBringsLattices ((c, answer) ∷ rest) = LatticesBrought c × EveryCallBringsLattices rest

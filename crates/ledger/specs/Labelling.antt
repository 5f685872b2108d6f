-- How a labelling of the nodes is shown to be the labels, and a flow path to be a shortest one. Assumes nothing.
use Rattle.std.specs.Prelude.{◌≡◌, ℕ, suc, ◌^◌, ◌<◌, ◌≤◌, false, T, List, length}
use Rattle.lattice.specs.Sets.{has}
use Rattle.ledger.specs.Ledger.{Ledger, node_at, flow_at, carried, IsFlowPath, Brought, Shortest}
use Rattle.ledger.specs.Run.{LabelOf}

-- flow f carries a value v into its end, as another value
abbrev pub Carries : Ledger → ℕ → ℕ → Type 0
Carries L f v = (f < length L.flows) × (0 < carried L (flow_at L f).step v) × ((node_at L (flow_at L f).to).verified ≡ false)

-- the labelling holds the marks of each node, and what flows carry
pub record Closed (L : Ledger) (label : ℕ → ℕ) : Type 0 where
  pub marks : (n v : ℕ) → n < length L.nodes → T (has (node_at L n).marks v) → T (has (label n) v)
  pub flows : (f v : ℕ) → Carries L f v → T (has (label (flow_at L f).from) v) →
      T (has (label (flow_at L f).to) (carried L (flow_at L f).step v))

-- no value is nearer to a mark than `far` says
pub record Apart (L : Ledger) (label : ℕ → ℕ) (far : ℕ → ℕ → ℕ) : Type 0 where
  pub marks : (n v : ℕ) → n < length L.nodes → T (has (node_at L n).marks v) → far n v ≡ 0
  pub flows : (f v : ℕ) → Carries L f v → T (has (label (flow_at L f).from) v) →
      far (flow_at L f).to (carried L (flow_at L f).step v) ≤ suc (far (flow_at L f).from v)

-- a closed labelling that holds nothing but what flow paths bring is the labels
abbrev pub ClosedLabellingsAreLabels : Type 0
ClosedLabellingsAreLabels =
    (L : Ledger) (label : ℕ → ℕ) → Closed L label → ((n : ℕ) → label n < 2 ^ 64) → ((n v : ℕ) → T (has (label n) v) → Brought L n v) →
    (n : ℕ) → LabelOf L n (label n)

-- a flow path of no more flows than `far` says is a shortest one
abbrev pub NearPathsAreShortest : Type 0
NearPathsAreShortest =
    (L : Ledger) (label : ℕ → ℕ) (far : ℕ → ℕ → ℕ) → Closed L label → Apart L label far →
    (fs : List ℕ) (n v : ℕ) → IsFlowPath L fs n v → length fs ≤ far n v → Shortest L fs n v

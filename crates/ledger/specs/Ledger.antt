-- The ledger: what a list of calls makes of a fresh inventory, from the calls and their arguments alone. Assumes nothing.
use Rattle.std.specs.Prelude.{◌≡◌, ℕ, ◌/◌, ◌<◌, ◌≤◌, min, max, Bool, true, false, cond, not, ◌&&◌, T, List, [], ◌∷◌, ◌++◌, length, Some, None, Option, ◌==◌, is_some, nat_lt, slice_index, slice_index_or, slice_set}
use Rattle.std.specs.List.{list_all, position, range_with_len, swap_remove}
use Rattle.lattice.specs.Sets.{has, with, without}
use Rattle.lattice.specs.Schemes.{Scheme, scheme_sizes}
use Rattle.lattice.specs.Faults.{or_else}
use Rattle.refusals.specs.declared.refusal.Refusal.{Refusal}
use Rattle.policy.specs.Policies.{Policy}
use Rattle.policy.specs.declared.label.Label.{Label}
use Rattle.lattice.specs.declared.sizes.Sizes.{Sizes}
use Rattle.policy.specs.Words.{in_range}
use Rattle.policy.specs.Labels.{or_top}
use Rattle.refusals.specs.declared.refusal.Reason.{Reason}
use Rattle.refusals.specs.declared.refusal.Reason.TheVariants.{NoNode, NoStep, BadArgument, FlowStands, NoFlow, NoRoom, Unsettled, SizesDiffer}

-- a node as entered, with its marks
pub record Node : Type 0 where
  pub store : ℕ
  pub purpose : ℕ
  pub role : ℕ
  pub marks : ℕ
  pub verified : Bool

pub record Flow : Type 0 where
  pub from : ℕ
  pub to : ℕ
  pub step : ℕ

pub record Ledger : Type 0 where
  pub sizes : Sizes
  pub node_room : ℕ
  pub flow_room : ℕ
  pub nodes : List Node
  pub steps : List (List ℕ)
  pub flows : List Flow
  pub settled : Bool

pub data Call : Type 0 where
  enter : ℕ → ℕ → ℕ → Call
  step : List ℕ → Call
  mark : ℕ → ℕ → Call
  unmark : ℕ → ℕ → Call
  verify : ℕ → Bool → Call
  draw : ℕ → ℕ → ℕ → Call
  strike : ℕ → ℕ → ℕ → Call
  settle : Call
  judge : ℕ → Scheme → Policy → Call
  path : ℕ → ℕ → ℕ → Call

-- Making one

abbrev pub nearest_size : ℕ → ℕ
nearest_size n = min 64 (max 2 n)

abbrev pub counting : ℕ → List ℕ
counting n = range_with_len 0 n

-- fresh: the sizes asked for, and how many node records, flow records and workspace words were handed over
abbrev pub fresh : Sizes → ℕ → ℕ → ℕ → Ledger
fresh z nodes flows words = record {
  sizes = record { store = nearest_size z.store; purpose = nearest_size z.purpose; role = nearest_size z.role; types = nearest_size z.types };
  node_room = min 4096 (min nodes (words / 128));
  flow_room = min 16384 flows;
  nodes = [];
  steps = counting (nearest_size z.types) ∷ [];
  flows = [];
  settled = true;
}

-- What is declined

abbrev pub unless : Bool → Reason → ℕ → Option Refusal
unless b r place = cond b None (Some (record { reason = r; place = place }))

abbrev pub same_flow : Flow → ℕ → ℕ → ℕ → Bool
same_flow f a b s = (f.from == a && f.to == b) && f.step == s

abbrev pub flow_number : List Flow → ℕ → ℕ → ℕ → Option ℕ
flow_number fs a b s = position (λ f. same_flow f a b s) fs

abbrev pub stands : List Flow → ℕ → ℕ → ℕ → Bool
stands fs a b s = is_some (flow_number fs a b s)

abbrev pub good_row : ℕ → List ℕ → Bool
good_row n row = (length row == n && slice_index row 0 == 0) && list_all (λ v. nat_lt v n) row

abbrev pub good_value : ℕ → ℕ → Bool
good_value n v = nat_lt 0 v && nat_lt v n

abbrev pub same_sizes : Sizes → Sizes → Bool
same_sizes a b = (a.store == b.store && a.purpose == b.purpose) && (a.role == b.role && a.types == b.types)

abbrev pub node_there : Ledger → ℕ → Option Refusal
node_there L n = unless (nat_lt n (length L.nodes)) NoNode n

-- why a call is declined; of path, only what its arguments and the settled state say
abbrev pub declined : Ledger → Call → Option Refusal
declined L (enter a b c) =
    or_else (unless (in_range L.sizes.store a && (in_range L.sizes.purpose b && in_range L.sizes.role c)) BadArgument 0)
    (unless (nat_lt (length L.nodes) L.node_room) NoRoom 0)
declined L (step row) = or_else (unless (good_row L.sizes.types row) BadArgument 0) (unless (nat_lt (length L.steps) 32) NoRoom 0)
declined L (mark n v) = or_else (node_there L n) (unless (good_value L.sizes.types v) BadArgument 0)
declined L (unmark n v) = or_else (node_there L n) (unless (good_value L.sizes.types v) BadArgument 0)
declined L (verify n b) = node_there L n
declined L (draw a b s) =
    or_else (node_there L a) (or_else (node_there L b) (or_else (unless (nat_lt s (length L.steps)) NoStep s)
    (or_else (unless (not (stands L.flows a b s)) FlowStands 0) (unless (nat_lt (length L.flows) L.flow_room) NoRoom 0))))
declined L (strike a b s) =
    or_else (node_there L a) (or_else (node_there L b) (or_else (unless (nat_lt s (length L.steps)) NoStep s) (unless (stands L.flows a b s) NoFlow 0)))
declined L settle = None
declined L (judge n s p) =
    or_else (node_there L n) (or_else (unless L.settled Unsettled 0)
    (unless (same_sizes (scheme_sizes s) L.sizes && same_sizes p.sizes L.sizes) SizesDiffer 0))
declined L (path n v room) = or_else (node_there L n) (or_else (unless (good_value L.sizes.types v) BadArgument 0) (unless L.settled Unsettled 0))

-- What an accepted call does

abbrev pub no_node_yet : Node
no_node_yet = record { store = 0; purpose = 0; role = 0; marks = 0; verified = false }

abbrev pub node_at : Ledger → ℕ → Node
node_at L n = slice_index_or L.nodes n no_node_yet

abbrev pub flow_at : Ledger → ℕ → Flow
flow_at L f = slice_index_or L.flows f (record { from = 0; to = 0; step = 0 })

abbrev pub with_nodes : Ledger → List Node → Ledger
with_nodes L ns = record { sizes = L.sizes; node_room = L.node_room; flow_room = L.flow_room; nodes = ns; steps = L.steps; flows = L.flows; settled = false }

abbrev pub with_flows : Ledger → List Flow → Ledger
with_flows L fs = record { sizes = L.sizes; node_room = L.node_room; flow_room = L.flow_room; nodes = L.nodes; steps = L.steps; flows = fs; settled = false }

abbrev pub with_marks : Node → ℕ → Node
with_marks x m = record { store = x.store; purpose = x.purpose; role = x.role; marks = m; verified = x.verified }

abbrev pub with_verified : Node → Bool → Node
with_verified x b = record { store = x.store; purpose = x.purpose; role = x.role; marks = x.marks; verified = b }

-- the flow numbered k goes, and the last flow takes its number
abbrev pub struck : List Flow → ℕ → List Flow
struck fs k = swap_remove fs k (record { from = 0; to = 0; step = 0 })

abbrev pub struck_at : List Flow → Option ℕ → List Flow
struck_at fs (Some k) = struck fs k
struck_at fs None = fs

abbrev pub accepted : Ledger → Call → Ledger
accepted L (enter a b c) = with_nodes L (L.nodes ++ (record { store = a; purpose = b; role = c; marks = 0; verified = false } ∷ []))
accepted L (step row) = record { sizes = L.sizes; node_room = L.node_room; flow_room = L.flow_room; nodes = L.nodes; steps = L.steps ++ (row ∷ []); flows = L.flows; settled = false }
accepted L (mark n v) = with_nodes L (slice_set L.nodes n (with_marks (node_at L n) (with (node_at L n).marks v)))
accepted L (unmark n v) = with_nodes L (slice_set L.nodes n (with_marks (node_at L n) (without (node_at L n).marks v)))
accepted L (verify n b) = with_nodes L (slice_set L.nodes n (with_verified (node_at L n) b))
accepted L (draw a b s) = with_flows L (L.flows ++ (record { from = a; to = b; step = s } ∷ []))
accepted L (strike a b s) = with_flows L (struck_at L.flows (flow_number L.flows a b s))
accepted L settle = record { sizes = L.sizes; node_room = L.node_room; flow_room = L.flow_room; nodes = L.nodes; steps = L.steps; flows = L.flows; settled = true }
accepted L (judge n s p) = L
accepted L (path n v room) = L

-- the ledger after a call: a declined one does nothing
abbrev pub after : Ledger → Call → Ledger
after L c = elim (declined L c) [ Some r ↦ L | None ↦ accepted L c ]

-- a change is an accepted enter, step, mark, unmark, verify, draw or strike
abbrev pub changing : Call → Bool
changing (enter a b c) = true
changing (step row) = true
changing (mark n v) = true
changing (unmark n v) = true
changing (verify n b) = true
changing (draw a b s) = true
changing (strike a b s) = true
changing settle = false
changing (judge n s p) = false
changing (path n v room) = false

-- Flow paths

-- the value that step t makes of v
abbrev pub carried : Ledger → ℕ → ℕ → ℕ
carried L t v = slice_index (slice_index_or L.steps t []) v

-- the flows fs, one after another, bring value x at node a to node b as value y:
-- each starts where the one before ended, no value on the way is 0, and no node after the first is verified
abbrev pub Trail : Ledger → ℕ → ℕ → List ℕ → ℕ → ℕ → Type 0
Trail L a x [] b y = (a ≡ b) × (x ≡ y)
Trail L a x (f ∷ fs) b y =
    (f < length L.flows) × ((flow_at L f).from ≡ a) × (0 < carried L (flow_at L f).step x) ×
    ((node_at L (flow_at L f).to).verified ≡ false) × Trail L (flow_at L f).to (carried L (flow_at L f).step x) fs b y

-- a flow path starts at a node with one of its marks
abbrev pub IsFlowPath : Ledger → List ℕ → ℕ → ℕ → Type 0
IsFlowPath L fs b y = (a : ℕ) × (x : ℕ) × (a < length L.nodes) × T (has (node_at L a).marks x) × Trail L a x fs b y

-- some flow path brings value v to node n
abbrev pub Brought : Ledger → ℕ → ℕ → Type 0
Brought L n v = ∥ ((fs : List ℕ) × IsFlowPath L fs n v) ∥₁

-- flow paths can bring the set s to node n
abbrev pub CanBring : Ledger → ℕ → ℕ → Type 0
CanBring L n s = (v : ℕ) → T (has s v) → Brought L n v

-- no flow path to the same node and value has fewer flows
abbrev pub Shortest : Ledger → List ℕ → ℕ → ℕ → Type 0
Shortest L fs n v = IsFlowPath L fs n v × ((gs : List ℕ) → IsFlowPath L gs n v → length fs ≤ length gs)

-- the label under which the set d is judged at node n: an attribute left out at the entry is its top alone
abbrev pub label_at : Ledger → ℕ → ℕ → Label
label_at L n d = record {
  store = or_top L.sizes.store (node_at L n).store;
  purpose = or_top L.sizes.purpose (node_at L n).purpose;
  role = or_top L.sizes.role (node_at L n).role;
  types = d;
}

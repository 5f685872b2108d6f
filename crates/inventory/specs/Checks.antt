-- Why a call is declined, by the counts of a view. The proofs show that this is what the ledger says.
use Rattle.std.specs.Prelude.{ℕ, not, ◌&&◌, length, None, Option, nat_lt}
use Rattle.refusals.specs.declared.refusal.Reason.TheVariants.{NoNode, NoStep, BadArgument, FlowStands, NoFlow, NoRoom, Unsettled, SizesDiffer}
use Rattle.policy.specs.Words.{in_range}
use Rattle.lattice.specs.declared.sizes.Sizes.{Sizes}
use Rattle.refusals.specs.declared.refusal.Refusal.{Refusal}
use Rattle.ledger.specs.Ledger.{Call, enter, step, mark, unmark, verify, draw, strike, settle, judge, path, unless, good_row, good_value, stands, same_sizes}
use Rattle.lattice.specs.Faults.{or_else}
use Rattle.lattice.specs.Schemes.{scheme_sizes}
use Rattle.inventory.specs.View.{View, flows_of}

-- whether the nodes and the step of a flow are there
abbrev pub ends_there : View → ℕ → ℕ → ℕ → Option Refusal → Option Refusal
ends_there v a b s rest =
    or_else (unless (nat_lt a v.node_count) NoNode a) (or_else (unless (nat_lt b v.node_count) NoNode b)
    (or_else (unless (nat_lt s (length v.steps)) NoStep s) rest))

-- why a judgement is declined, by the sizes of the lattices and of the policy
abbrev pub judge_refusal : View → ℕ → Sizes → Sizes → Option Refusal
judge_refusal v n a b =
    or_else (unless (nat_lt n v.node_count) NoNode n) (or_else (unless v.settled Unsettled 0)
    (unless (same_sizes a v.sizes && same_sizes b v.sizes) SizesDiffer 0))

abbrev pub refusal_of : View → Call → Option Refusal
refusal_of v (enter a b c) =
    or_else (unless (in_range v.sizes.store a && (in_range v.sizes.purpose b && in_range v.sizes.role c)) BadArgument 0)
    (unless (nat_lt v.node_count v.node_room) NoRoom 0)
refusal_of v (step row) = or_else (unless (good_row v.sizes.types row) BadArgument 0) (unless (nat_lt (length v.steps) 32) NoRoom 0)
refusal_of v (mark n x) = or_else (unless (nat_lt n v.node_count) NoNode n) (unless (good_value v.sizes.types x) BadArgument 0)
refusal_of v (unmark n x) = or_else (unless (nat_lt n v.node_count) NoNode n) (unless (good_value v.sizes.types x) BadArgument 0)
refusal_of v (verify n b) = unless (nat_lt n v.node_count) NoNode n
refusal_of v (draw a b s) =
    ends_there v a b s (or_else (unless (not (stands (flows_of v) a b s)) FlowStands 0) (unless (nat_lt v.flow_count v.flow_room) NoRoom 0))
refusal_of v (strike a b s) = ends_there v a b s (unless (stands (flows_of v) a b s) NoFlow 0)
refusal_of v settle = None
refusal_of v (judge n s p) = judge_refusal v n (scheme_sizes s) p.sizes
refusal_of v (path n x room) =
    or_else (unless (nat_lt n v.node_count) NoNode n) (or_else (unless (good_value v.sizes.types x) BadArgument 0) (unless v.settled Unsettled 0))

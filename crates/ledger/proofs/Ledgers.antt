-- A fresh ledger is sound, and every call keeps it so. Assumes nothing.
use Rattle.std.proofs.Common.{◌≡◌, ℕ, ◌-◌, ◌<◌, ◌≤◌, Bool, true, false, ◌&&◌, T, eqb, ltb, List, [], ◌∷◌, ◌++◌, length, get_or, set, Some, None, Option, refl, arith, ltb→lt, length-append, length-set}
use Rattle.std.proofs.lemmas.Bool.{eq-eqb, lt-ltb}
use Rattle.std.proofs.lemmas.List.FromFn.{length-range_with_len, get_or-range_with_len}
use Rattle.std.proofs.lemmas.List.Quantifiers.{position-Some}
use Rattle.lattice.specs.Sets.{with, without}
use Rattle.lattice.specs.declared.sizes.Sizes.{Sizes}
use Rattle.policy.specs.Words.{in_range}
use Rattle.refusals.specs.declared.refusal.Reason.{Reason}
use Rattle.ledger.specs.Ledger.{Ledger, Node, Flow, Call, enter, step, mark, unmark, verify, draw, strike, settle, judge, path, nearest_size, counting, fresh, unless, flow_number, good_row, good_value, node_there, declined, no_node_yet, node_at, flow_at, with_nodes, with_flows, with_marks, with_verified, same_flow, struck, struck_at, accepted, after}
use Rattle.refusals.specs.declared.refusal.Refusal.{Refusal}
use Rattle.lattice.specs.Faults.{or_else}
use Rattle.ledger.specs.Sound.{GoodSize, GoodNode, GoodFlow, Sound}
use Rattle.std.specs.List.{list_all}
use Rattle.std.proofs.lemmas.List.Sums.{list_all-from_AllPass}
use Rattle.ledger.proofs.Lists.{Each, each_push, each_set, each_take}
use Rattle.lattice.specs.Tests.{T_and, and_T, from_true}
use Rattle.ledger.proofs.Ranges.{range_empty, range_with, range_without}

-- ---- what it means that a call is not declined

pub or_else_none : (a b : Option Refusal) → or_else a b ≡ None → (a ≡ None) × (b ≡ None)
or_else_none (Some r) b h = let z : ◌≡◌ {A = ℕ} 0 1 = cc in absurd (omega arith)
or_else_none None b h = (refl, h)

pub unless_none : (b : Bool) (r : Reason) (place : ℕ) → unless b r place ≡ None → T b
unless_none true r place h = tt
unless_none false r place h = let z : ◌≡◌ {A = ℕ} 0 1 = cc in absurd (omega arith)

pub is_there : (L : Ledger) (n : ℕ) → node_there L n ≡ None → n < length L.nodes
is_there L n h = ltb→lt n (length L.nodes) (unless_none (ltb n (length L.nodes)) _ n h)

pub value_parts : (n v : ℕ) → T (good_value n v) → (0 < v) × (v < n)
value_parts n v h = let parts = T_and (ltb 0 v) (ltb v n) h in (ltb→lt 0 v parts.0, ltb→lt v n parts.1)

-- ---- a fresh ledger

length_counting : (n : ℕ) → length (counting n) ≡ n
length_counting n = length-range_with_len 0 n

get_or_counting : (n v : ℕ) → v < n → get_or (counting n) v 0 ≡ v
get_or_counting n v low = omega (arith, get_or-range_with_len 0 n v 0 low)

counting_good : (n : ℕ) → 0 < n → T (good_row n (counting n))
counting_good n some =
    and_T (eqb (length (counting n)) n && eqb (get_or (counting n) 0 0) 0) (list_all (λ v. ltb v n) (counting n))
    (and_T (eqb (length (counting n)) n) (eqb (get_or (counting n) 0 0) 0)
    (from_true _ (eq-eqb (length (counting n)) n (length_counting n)))
    (from_true _ (eq-eqb (get_or (counting n) 0 0) 0 (get_or_counting n 0 some))))
    (from_true _ (list_all-from_AllPass (λ v. ltb v n) (counting n)
    (λ k d l. let low : k < n = omega (arith, length-range_with_len 0 n) in
    lt-ltb (get_or (counting n) k d) n (omega (arith, get_or-range_with_len 0 n k d low)))))

nearest_good : (n : ℕ) → GoodSize (nearest_size n)
nearest_good n = (omega arith, omega arith)

pub fresh_sound : (z : Sizes) (nodes flows words : ℕ) → Sound (fresh z nodes flows words)
fresh_sound z nodes flows words = record {
  sizes = record { store = nearest_good z.store; purpose = nearest_good z.purpose; role = nearest_good z.role; types = nearest_good z.types };
  nodes = λ n low. absurd (omega arith);
  steps = each_push (λ row. T (good_row (nearest_size z.types) row)) [] [] (counting (nearest_size z.types))
      (λ t low. absurd (omega arith)) (counting_good (nearest_size z.types) (omega (arith, (nearest_good z.types).0)));
  flows = λ f low. absurd (omega arith);
}

-- ---- what each call keeps

abbrev no_flow_yet : Flow
no_flow_yet = record { from = 0; to = 0; step = 0 }

more_nodes : (m n k : ℕ) (f : Flow) → m ≤ n → GoodFlow m k f → GoodFlow n k f
more_nodes m n k f le good = record { from = omega (arith, good.from); to = omega (arith, good.to); step = good.step }

more_steps : (m k j : ℕ) (f : Flow) → k ≤ j → GoodFlow m k f → GoodFlow m j f
more_steps m k j f le good = record { from = good.from; to = good.to; step = omega (arith, good.step) }

-- with another list of nodes, not shorter
nodes_sound : (L : Ledger) (ns : List Node) → Sound L → length L.nodes ≤ length ns → Each (GoodNode L.sizes) no_node_yet ns →
    Sound (with_nodes L ns)
nodes_sound L ns sound longer each = record {
  sizes = sound.sizes;
  nodes = each;
  steps = sound.steps;
  flows = λ f low. more_nodes (length L.nodes) (length ns) (length L.steps) (flow_at L f) longer (sound.flows f low);
}

set_sound : (L : Ledger) (n : ℕ) (x : Node) → Sound L → GoodNode L.sizes x → Sound (with_nodes L (set L.nodes n x))
set_sound L n x sound good =
    nodes_sound L (set L.nodes n x) sound (omega (arith, length-set L.nodes n x))
    (each_set (GoodNode L.sizes) no_node_yet L.nodes n x sound.nodes good)

flows_sound : (L : Ledger) (fs : List Flow) → Sound L → Each (GoodFlow (length L.nodes) (length L.steps)) no_flow_yet fs →
    Sound (with_flows L fs)
flows_sound L fs sound each = record { sizes = sound.sizes; nodes = sound.nodes; steps = sound.steps; flows = each }

struck_each : (P : Flow → Type 0) (fs : List Flow) (k : ℕ) → k < length fs → Each P no_flow_yet fs → Each P no_flow_yet (struck fs k)
struck_each P fs k low each =
    each_take P no_flow_yet (set fs k (get_or fs (length fs - 1) no_flow_yet)) (length fs - 1)
    (each_set P no_flow_yet fs k (get_or fs (length fs - 1) no_flow_yet) each (each (length fs - 1) (omega arith)))

flow_number_below : (fs : List Flow) (a b s k : ℕ) → flow_number fs a b s ≡ Some k → k < length fs
flow_number_below fs a b s k h = (position-Some (λ f. same_flow f a b s) fs k no_flow_yet h).0

struck_at_each : (P : Flow → Type 0) (fs : List Flow) (o : Option ℕ) → ((k : ℕ) → o ≡ Some k → k < length fs) → Each P no_flow_yet fs →
    Each P no_flow_yet (struck_at fs o)
struck_at_each P fs (Some k) low each = struck_each P fs k (low k refl) each
struck_at_each P fs None low each = each

marked_good : (z : Sizes) (x : Node) (m : ℕ) → GoodNode z x → T (in_range z.types m) → GoodNode z (with_marks x m)
marked_good z x m good range = record { store = good.store; purpose = good.purpose; role = good.role; marks = range }

verified_good : (z : Sizes) (x : Node) (b : Bool) → GoodNode z x → GoodNode z (with_verified x b)
verified_good z x b good = record { store = good.store; purpose = good.purpose; role = good.role; marks = good.marks }

pub accepted_sound : (L : Ledger) (c : Call) → Sound L → declined L c ≡ None → Sound (accepted L c)
accepted_sound L (enter a b c) sound h =
    let ranges = unless_none (in_range L.sizes.store a && (in_range L.sizes.purpose b && in_range L.sizes.role c)) _ _ (or_else_none _ _ h).0 in
    let parts = T_and (in_range L.sizes.store a) (in_range L.sizes.purpose b && in_range L.sizes.role c) ranges in
    let others = T_and (in_range L.sizes.purpose b) (in_range L.sizes.role c) parts.1 in
    let x : Node = record { store = a; purpose = b; role = c; marks = 0; verified = false } in
    nodes_sound L (L.nodes ++ (x ∷ [])) sound (omega (arith, length-append L.nodes (x ∷ [])))
    (each_push (GoodNode L.sizes) no_node_yet L.nodes x sound.nodes
    (record { store = parts.0; purpose = others.0; role = others.1; marks = range_empty L.sizes.types }))
accepted_sound L (step row) sound h = record {
  sizes = sound.sizes;
  nodes = sound.nodes;
  steps = each_push (λ r. T (good_row L.sizes.types r)) [] L.steps row sound.steps
      (unless_none (good_row L.sizes.types row) _ _ (or_else_none _ _ h).0);
  flows = λ f low. more_steps (length L.nodes) (length L.steps) (length (L.steps ++ (row ∷ []))) (flow_at L f)
      (omega (arith, length-append L.steps (row ∷ []))) (sound.flows f low);
}
accepted_sound L (mark n v) sound h =
    let parts = or_else_none _ _ h in
    let old = sound.nodes n (is_there L n parts.0) in
    let value = value_parts L.sizes.types v (unless_none (good_value L.sizes.types v) _ _ parts.1) in
    set_sound L n (with_marks (node_at L n) (with (node_at L n).marks v)) sound
    (marked_good L.sizes (node_at L n) (with (node_at L n).marks v) old (range_with L.sizes.types (node_at L n).marks v value.0 value.1 old.marks))
accepted_sound L (unmark n v) sound h =
    let parts = or_else_none _ _ h in
    let old = sound.nodes n (is_there L n parts.0) in
    let value = value_parts L.sizes.types v (unless_none (good_value L.sizes.types v) _ _ parts.1) in
    set_sound L n (with_marks (node_at L n) (without (node_at L n).marks v)) sound
    (marked_good L.sizes (node_at L n) (without (node_at L n).marks v) old (range_without L.sizes.types (node_at L n).marks v value.0 old.marks))
accepted_sound L (verify n b) sound h =
    set_sound L n (with_verified (node_at L n) b) sound (verified_good L.sizes (node_at L n) b (sound.nodes n (is_there L n h)))
accepted_sound L (draw a b s) sound h =
    let first = or_else_none _ _ h in
    let second = or_else_none _ _ first.1 in
    let third = or_else_none _ _ second.1 in
    let f : Flow = record { from = a; to = b; step = s } in
    flows_sound L (L.flows ++ (f ∷ [])) sound
    (each_push (GoodFlow (length L.nodes) (length L.steps)) no_flow_yet L.flows f sound.flows
    (record {
      from = is_there L a first.0;
      to = is_there L b second.0;
      step = ltb→lt s (length L.steps) (unless_none (ltb s (length L.steps)) _ _ third.0);
    }))
accepted_sound L (strike a b s) sound h =
    flows_sound L (struck_at L.flows (flow_number L.flows a b s)) sound
    (struck_at_each (GoodFlow (length L.nodes) (length L.steps)) L.flows (flow_number L.flows a b s)
    (flow_number_below L.flows a b s) sound.flows)
accepted_sound L settle sound h = record { sizes = sound.sizes; nodes = sound.nodes; steps = sound.steps; flows = sound.flows }
accepted_sound L (judge n s p) sound h = sound
accepted_sound L (path n v room) sound h = sound

pub after_sound : (L : Ledger) (c : Call) → Sound L → Sound (after L c)
after_sound L c sound = go (declined L c) refl
  where
    go : (o : Option Refusal) → declined L c ≡ o → Sound (elim o [ Some r ↦ L | None ↦ accepted L c ])
    go (Some r) e = sound
    go None e = accepted_sound L c sound e

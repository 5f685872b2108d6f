-- The walk along the flows of one node, and over the nodes of one round.
use Rattle.std.proofs.Common.{◌≡◌, ℕ, suc, ◌+◌, ◌<◌, ◌≤◌, Option, None, Some, List, length, get_or, sym, refl, ap, ◌∙◌, subst, arith}
use native.Mathlib.Decide.{dec_lt, ℕ_discrete}
use Rattle.flows.specs.declared.leading.Round.{Round}
use Rattle.flows.specs.declared.leading.Wave.{Wave}
use Rattle.flows.specs.Charts.{Ready, SameMemory, Went, LedOn}
use Rattle.flows.specs.Fronts.{Lists}
use Rattle.flows.specs.Graph.{no_flow}
use Rattle.flows.specs.Rounds.{Chained, past_flow}
use Rattle.flows.proofs.Sets.{none_in}
use Rattle.flows.proofs.Spreads.{led_kept, grown_none, grown_more}

pub same_none : (a : Wave) → SameMemory a a
same_none a = record { nodes = refl; workspace = refl; next = refl }

pub same_more : {a b c : Wave} → SameMemory a b → SameMemory b c → SameMemory a c
same_more f g = record { nodes = g.nodes ∙ f.nodes; workspace = g.workspace ∙ f.workspace; next = g.next ∙ f.next }

went_none : (r : Round) (a : Wave) → Went r a a
went_none r a = record { same = same_none a; grown = grown_none (length r.chart.head.now) a.nodes.now a.workspace.now a.next.now }

went_more : {r : Round} {a b c : Wave} → Went r a b → Went r b c → Went r a c
went_more f g = record { same = same_more f.same g.same; grown = grown_more f.grown g.grown }

-- a chain goes down
pub fewer : (cursor next : Option ℕ) (number : ℕ) → cursor ≡ Some number → ((f : ℕ) → next ≡ Some f → f < number) → past_flow next < past_flow cursor
fewer cursor next number at below = subst (λ o. past_flow next < past_flow o) (sym at) (go next below)
  where
    go : (o : Option ℕ) → ((f : ℕ) → o ≡ Some f → f < number) → past_flow o < suc number
    go None b = omega arith
    go (Some f) b = omega (arith, b f refl)

-- what is led on stays so
kept : (r : Round) (a b : Wave) (f : ℕ) → Ready r a → Went r a b → LedOn r a f → LedOn r b f
kept r a b f ready went led =
    led_kept a.nodes.now b.nodes.now r.chart.flows.now r.chart.rows.now (length r.chart.head.now) (length r.chart.flows.now) a.workspace.now b.workspace.now r.fresh.now
    a.next.now b.next.now r.distance f 64 ready.spread.fit.bounded went.grown led

-- the flows of the node from the cursor on are done
pub record Tracing (r : Round) (start wave : Wave) (node : ℕ) (cursor : Option ℕ) : Type 0 where
  pub ready : Ready r wave
  pub went : Went r start wave
  pub led : (f : ℕ) → f < length r.chart.flows.now → (get_or r.chart.flows.now f no_flow).«from» ≡ node → past_flow cursor ≤ f → LedOn r wave f
  pub here : (f : ℕ) → cursor ≡ Some f → (f < length r.chart.flows.now) × ((get_or r.chart.flows.now f no_flow).«from» ≡ node)

pub trace_begin : (r : Round) (wave : Wave) (node : ℕ) → Ready r wave → Tracing r wave wave node (get_or r.chart.head.now node None)
trace_begin r wave node ready = record {
  ready = ready;
  went = went_none r wave;
  led = λ f lf is past. absurd (omega (arith, past, ready.charted.chained.last f lf, ap (λ n. past_flow (get_or r.chart.head.now n None)) is));
  here = ready.charted.chained.head_is node;
}

pub trace_more : (r : Round) (start wave wave' : Wave) (node number : ℕ) (cursor : Option ℕ) → cursor ≡ Some number
    → Tracing r start wave node cursor → Ready r wave' → Went r wave wave' → LedOn r wave' number
    → Tracing r start wave' node (get_or r.chart.link.now number None)
trace_more r start wave wave' node number cursor at t ready went led = record {
  ready = ready;
  went = went_more t.went went;
  led = λ f lf is past. go f lf is past (dec_lt f (suc number));
  here = λ f is. let was = chained.link_is number f (t.here number at).0 is in (omega (arith, was.0, (t.here number at).0), was.1 ∙ (t.here number at).1);
}
  where
    chained : Chained r.chart.flows.now (length r.chart.flows.now) r.chart.head.now r.chart.link.now
    chained = ready.charted.chained

    go : (f : ℕ) → f < length r.chart.flows.now → (get_or r.chart.flows.now f no_flow).«from» ≡ node → past_flow (get_or r.chart.link.now number None) ≤ f
        → Dec (f < suc number) → LedOn r wave' f
    go f lf is past (no l) = kept r wave wave' f t.ready went (t.led f lf is (omega (arith, ap past_flow at)))
    go f lf is past (yes l) = last (ℕ_discrete f number)
      where
        last : Dec (f ≡ number) → LedOn r wave' f
        last (yes e) = subst (λ g. LedOn r wave' g) (sym e) led
        last (no ne) = absurd (omega (arith, past, chained.before f number (omega arith) (t.here number at).0 (is ∙ sym (t.here number at).1)))

-- a round has come to the node at place i
pub record Rounding (r : Round) (start wave : Wave) (nodes : List ℕ) (i : ℕ) : Type 0 where
  pub ready : Ready r wave
  pub went : Went r start wave
  pub led : (f j : ℕ) → f < length r.chart.flows.now → j < i → get_or nodes j 0 ≡ (get_or r.chart.flows.now f no_flow).«from» → LedOn r wave f

pub round_more : (r : Round) (start wave wave' : Wave) (nodes : List ℕ) (i : ℕ)
    → Rounding r start wave nodes i → Ready r wave' → Went r wave wave'
    → ((f : ℕ) → f < length r.chart.flows.now → (get_or r.chart.flows.now f no_flow).«from» ≡ get_or nodes i 0 → LedOn r wave' f)
    → Rounding r start wave' nodes (i + 1)
round_more r start wave wave' nodes i t ready went led = record {
  ready = ready;
  went = went_more t.went went;
  led = λ f j lf lj is. go f j lf lj is (ℕ_discrete j i);
}
  where
    go : (f j : ℕ) → f < length r.chart.flows.now → j < i + 1 → get_or nodes j 0 ≡ (get_or r.chart.flows.now f no_flow).«from» → Dec (j ≡ i) → LedOn r wave' f
    go f j lf lj is (yes e) = led f lf (sym is ∙ ap (λ m. get_or nodes m 0) e)
    go f j lf lj is (no ne) = kept r wave wave' f t.ready went (t.led f j lf (omega arith) is)

pub round_end : (r : Round) (start wave : Wave) (nodes : List ℕ) (i : ℕ)
    → Rounding r start wave nodes i → Lists r.fresh.now nodes → length nodes ≤ i
    → (f : ℕ) → f < length r.chart.flows.now → LedOn r wave f
round_end r start wave nodes i t list all f lf = go (ℕ_discrete (get_or r.fresh.now (get_or r.chart.flows.now f no_flow).«from» 0) 0)
  where
    go : Dec (get_or r.fresh.now (get_or r.chart.flows.now f no_flow).«from» 0 ≡ 0) → LedOn r wave f
    go (yes z) = λ w lw h. absurd (none_in _ w z h)
    go (no ne) = let at = list.there (get_or r.chart.flows.now f no_flow).«from» ne in
        let below = at.1 in t.led f at.0 lf (omega (arith, below)) at.2

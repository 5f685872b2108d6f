-- The flows of each node, chained.
use Rattle.std.proofs.Common.{◌≡◌, ℕ, ◌+◌, ◌<◌, ◌≢◌, Option, None, Some, List, length, get_or, set, sym, ap, ◌∙◌, subst, arith}
use native.Mathlib.Decide.{ℕ_discrete}
use Rattle.std.proofs.lemmas.List.{get_or-set_same, get_or-set_other}
use Rattle.flows.specs.declared.records.FlowRecord.{FlowRecord}
use Rattle.flows.specs.Graph.{no_flow}
use Rattle.flows.specs.Rounds.{Chained, past_flow}

pub chain_more : (fl : List FlowRecord) (k : ℕ) (head link : List (Option ℕ)) → Chained fl k head link
    → (get_or fl k no_flow).«from» < length head → k < length link
    → Chained fl (k + 1) (set head (get_or fl k no_flow).«from» (Some k)) (set link k (get_or head (get_or fl k no_flow).«from» None))
chain_more fl k head link c lh ll = record {
  last = λ f l. go_last f l (ℕ_discrete (get_or fl f no_flow).«from» (get_or fl k no_flow).«from»);
  head_is = λ n f. go_head n f (ℕ_discrete n (get_or fl k no_flow).«from»);
  before = λ f g l lg same. go_before f g l lg same (ℕ_discrete g k);
  link_is = λ g f lg. go_link g f lg (ℕ_discrete g k);
}
  where
    from_k : ℕ
    from_k = (get_or fl k no_flow).«from»

    head' : List (Option ℕ)
    head' = set head from_k (Some k)

    link' : List (Option ℕ)
    link' = set link k (get_or head from_k None)

    head_here : get_or head' from_k None ≡ Some k
    head_here = get_or-set_same head from_k (Some k) None lh

    link_here : get_or link' k None ≡ get_or head from_k None
    link_here = get_or-set_same link k _ None ll

    go_last : (f : ℕ) → f < k + 1 → Dec ((get_or fl f no_flow).«from» ≡ from_k) → f < past_flow (get_or head' (get_or fl f no_flow).«from» None)
    go_last f l (yes e) = subst (λ n. f < past_flow (get_or head' n None)) (sym e) (omega (arith, ap past_flow head_here))
    go_last f l (no ne) =
        let other : f ≢ k = λ e. ne (ap (λ g. (get_or fl g no_flow).«from») e) in
        subst (λ o. f < past_flow o) (sym (get_or-set_other head from_k (get_or fl f no_flow).«from» (Some k) None ne)) (c.last f (omega arith))

    go_head : (n f : ℕ) → Dec (n ≡ from_k) → get_or head' n None ≡ Some f → (f < k + 1) × ((get_or fl f no_flow).«from» ≡ n)
    go_head n f (yes e) is =
        let same : Some k ≡ Some f = sym head_here ∙ sym (ap (λ m. get_or head' m None) e) ∙ is in
        let at : k ≡ f = cc in
        (omega arith, ap (λ g. (get_or fl g no_flow).«from») (sym at) ∙ sym e)
    go_head n f (no o) is =
        let was = c.head_is n f (sym (get_or-set_other head from_k n (Some k) None o) ∙ is) in
        (omega (arith, was.0), was.1)

    go_before : (f g : ℕ) → f < g → g < k + 1 → (get_or fl f no_flow).«from» ≡ (get_or fl g no_flow).«from» → Dec (g ≡ k)
        → f < past_flow (get_or link' g None)
    go_before f g l lg same (yes e) =
        subst (λ m. f < past_flow (get_or link' m None)) (sym e)
        (subst (λ o. f < past_flow o) (sym link_here)
        (subst (λ n. f < past_flow (get_or head n None)) (same ∙ ap (λ m. (get_or fl m no_flow).«from») e) (c.last f (omega arith))))
    go_before f g l lg same (no ne) =
        subst (λ o. f < past_flow o) (sym (get_or-set_other link k g (get_or head from_k None) None ne)) (c.before f g l (omega arith) same)

    go_link : (g f : ℕ) → g < k + 1 → Dec (g ≡ k) → get_or link' g None ≡ Some f → (f < g) × ((get_or fl f no_flow).«from» ≡ (get_or fl g no_flow).«from»)
    go_link g f lg (yes e) is =
        let was = c.head_is from_k f (sym link_here ∙ sym (ap (λ m. get_or link' m None) e) ∙ is) in
        (omega (arith, was.0), was.1 ∙ sym (ap (λ m. (get_or fl m no_flow).«from») e))
    go_link g f lg (no o) is = c.link_is g f (omega arith) (sym (get_or-set_other link k g (get_or head from_k None) None o) ∙ is)

-- Records that differ in their labels alone.
use Rattle.std.proofs.Common.{◌≡◌, ℕ, ◌<◌, List, length, get_or, set, sym, refl, ap, ◌∙◌, subst}
use native.Mathlib.Decide.{ℕ_discrete}
use Rattle.std.proofs.lemmas.List.{get_or-set_same, get_or-set_other}
use Rattle.flows.specs.declared.records.NodeRecord.{NodeRecord}
use Rattle.flows.specs.Graph.{no_node, relabeled}
use Rattle.flows.specs.Settled.{Relabeled}

pub same_verified : {k : ℕ} (a b : List NodeRecord) → Relabeled k a b → (n : ℕ) → (get_or b n no_node).verified ≡ (get_or a n no_node).verified
same_verified a b same n = ap (λ r. r.verified) (same n).0

pub same_marks : {k : ℕ} (a b : List NodeRecord) → Relabeled k a b → (n : ℕ) → (get_or b n no_node).marks ≡ (get_or a n no_node).marks
same_marks a b same n = ap (λ r. r.marks) (same n).0

pub relabeled_none : (k : ℕ) (ns : List NodeRecord) → Relabeled k ns ns
relabeled_none k ns n = (refl, λ _. refl)

pub relabeled_more : (k : ℕ) (a b c : List NodeRecord) → Relabeled k a b → Relabeled k b c → Relabeled k a c
relabeled_more k a b c g h n = ((h n).0 ∙ ap (λ r. relabeled r (get_or c n no_node).label) (g n).0, λ l. (h n).1 l ∙ (g n).1 l)

-- a record that was given another label
pub set_relabeled : (ns : List NodeRecord) (b l : ℕ) → b < length ns → (n : ℕ)
    → get_or (set ns b (relabeled (get_or ns b no_node) l)) n no_node ≡ relabeled (get_or ns n no_node) (get_or (set ns b (relabeled (get_or ns b no_node) l)) n no_node).label
set_relabeled ns b l lb n = go (ℕ_discrete n b)
  where
    here : get_or (set ns b (relabeled (get_or ns b no_node) l)) b no_node ≡ relabeled (get_or ns b no_node) l
    here = get_or-set_same ns b (relabeled (get_or ns b no_node) l) no_node lb

    go : Dec (n ≡ b)
        → get_or (set ns b (relabeled (get_or ns b no_node) l)) n no_node ≡ relabeled (get_or ns n no_node) (get_or (set ns b (relabeled (get_or ns b no_node) l)) n no_node).label
    go (yes e) = subst
        (λ m. get_or (set ns b (relabeled (get_or ns b no_node) l)) m no_node ≡ relabeled (get_or ns m no_node) (get_or (set ns b (relabeled (get_or ns b no_node) l)) m no_node).label) (sym e)
        (here ∙ ap (λ q. relabeled (get_or ns b no_node) q.label) (sym here))
    go (no ne) =
        let other = get_or-set_other ns b n (relabeled (get_or ns b no_node) l) no_node ne in
        other ∙ ap (λ q. relabeled (get_or ns n no_node) q.label) (sym other)

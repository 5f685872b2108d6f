-- One value is put into the label of one node.
use Rattle.std.proofs.Common.{◌≡◌, ℕ, suc, ◌+◌, ◌*◌, ◌<◌, ◌≤◌, ◌≢◌, ◌⊎◌, List, length, get_or, set, sym, ap, ◌∙◌, subst, inl, inr, ⊎_elim, add-one, arith}
use native.Mathlib.Decide.{ℕ_discrete}
use Rattle.std.proofs.lemmas.List.{get_or-set_same, get_or-set_other, length-set}
use Rattle.flows.specs.declared.records.NodeRecord.{NodeRecord}
use Rattle.flows.specs.Graph.{holds, no_node, relabeled}
use Rattle.flows.specs.Certificate.{distance, arrival}
use Rattle.flows.proofs.Sets.{with_value, put_here, put_kept, put_cases}
use Rattle.flows.proofs.Relabels.{set_relabeled}

pub record Put (ns ns' : List NodeRecord) (W W' next next' : List ℕ) (b y d a : ℕ) : Type 0 where
  pub node : (n : ℕ) → get_or ns' n no_node ≡ relabeled (get_or ns n no_node) (get_or ns' n no_node).label
  pub node_other : (n : ℕ) → n ≢ b → get_or ns' n no_node ≡ get_or ns n no_node
  pub label_here : (get_or ns' b no_node).label ≡ with_value (get_or ns b no_node).label y
  pub next_here : get_or next' b 0 ≡ with_value (get_or next b 0) y
  pub next_other : (n : ℕ) → n ≢ b → get_or next' n 0 ≡ get_or next n 0
  pub distance_here : distance W' b y ≡ suc d
  pub arrival_here : arrival W' b y ≡ a
  pub words_past : (i : ℕ) → 128 * suc b ≤ i → get_or W' i 0 ≡ get_or W i 0
  pub words_other : (n v : ℕ) → v < 64 → (n ≡ b → v ≡ y → ⊥) → (distance W' n v ≡ distance W n v) × (arrival W' n v ≡ arrival W n v)

-- the places of the words of two nodes and values differ
words_apart : (n v b y : ℕ) → v < 64 → y < 64 → (n ≡ b → v ≡ y → ⊥) → 128 * n + v ≢ 128 * b + y
words_apart n v b y lv ly ne e = go (ℕ_discrete n b)
  where
    go : Dec (n ≡ b) → ⊥
    go (yes p) = ne p (omega arith)
    go (no p) = omega arith

put_lists : (ns : List NodeRecord) (W next : List ℕ) (b y d a : ℕ)
    → b < length ns → b < length next → 128 * b + 127 < length W → y < 64
    → Put ns (set ns b (relabeled (get_or ns b no_node) (with_value (get_or ns b no_node).label y)))
    W (set (set W (128 * b + y) (suc d)) (128 * b + 64 + y) a) next (set next b (with_value (get_or next b 0) y)) b y d a
put_lists ns W next b y d a lb lnext lw ly = record {
  node = λ n. set_relabeled ns b _ lb n;
  node_other = λ n ne. get_or-set_other ns b n _ no_node ne;
  label_here = ap (λ q. q.label) (get_or-set_same ns b _ no_node lb);
  next_here = get_or-set_same next b _ 0 lnext;
  next_other = λ n ne. get_or-set_other next b n _ 0 ne;
  distance_here = get_or-set_other (set W (128 * b + y) (suc d)) (128 * b + 64 + y) (128 * b + y) a 0 (omega arith)
      ∙ get_or-set_same W (128 * b + y) (suc d) 0 (omega arith);
  arrival_here = get_or-set_same (set W (128 * b + y) (suc d)) (128 * b + 64 + y) a 0 (omega (arith, length-set W (128 * b + y) (suc d)));
  words_past = λ i past. get_or-set_other (set W (128 * b + y) (suc d)) (128 * b + 64 + y) i a 0 (omega arith)
      ∙ get_or-set_other W (128 * b + y) i (suc d) 0 (omega arith);
  words_other = λ n v lv ne. (
    get_or-set_other (set W (128 * b + y) (suc d)) (128 * b + 64 + y) (128 * n + v) a 0 (first n v lv)
        ∙ get_or-set_other W (128 * b + y) (128 * n + v) (suc d) 0 (words_apart n v b y lv ly ne),
    get_or-set_other (set W (128 * b + y) (suc d)) (128 * b + 64 + y) (128 * n + 64 + v) a 0 (second n v lv ne)
        ∙ get_or-set_other W (128 * b + y) (128 * n + 64 + v) (suc d) 0 (third n v lv),
  );
}
  where
    first : (n v : ℕ) → v < 64 → 128 * n + v ≢ 128 * b + 64 + y
    first n v lv = omega arith

    second : (n v : ℕ) → v < 64 → (n ≡ b → v ≡ y → ⊥) → 128 * n + 64 + v ≢ 128 * b + 64 + y
    second n v lv ne e = words_apart n v b y lv ly ne (omega arith)

    third : (n v : ℕ) → v < 64 → 128 * n + 64 + v ≢ 128 * b + y
    third n v lv = omega arith

-- the same, of the lists that a call left
pub put_made : (ns ns' : List NodeRecord) (W W' next next' : List ℕ) (b y d a : ℕ)
    → b < length ns → b < length next → 128 * b + 127 < length W → y < 64
    → ns' ≡ set ns b (relabeled (get_or ns b no_node) (with_value (get_or ns b no_node).label y))
    → next' ≡ set next b (with_value (get_or next b 0) y)
    → W' ≡ set (set W (128 * b + y) (d + 1)) (128 * b + 64 + y) a
    → Put ns ns' W W' next next' b y d a
put_made ns ns' W W' next next' b y d a lb lnext lw ly is_nodes is_next is_words =
    let words : List ℕ = set (set W (128 * b + y) (suc d)) (128 * b + 64 + y) a in
    let words_are : W' ≡ words = is_words ∙ ap (λ k. set (set W (128 * b + y) k) (128 * b + 64 + y) a) (add-one d) in
    subst (λ x. Put ns ns' W W' next x b y d a) (sym is_next)
    (subst (λ x. Put ns ns' W x next (set next b (with_value (get_or next b 0) y)) b y d a) (sym words_are)
    (subst (λ x. Put ns x W words next (set next b (with_value (get_or next b 0) y)) b y d a) (sym is_nodes)
    (put_lists ns W next b y d a lb lnext lw ly)))

module _ {ns ns' : List NodeRecord} {W W' next next' : List ℕ} {b y d a : ℕ} (p : Put ns ns' W W' next next' b y d a) where
  pub put_verified : (n : ℕ) → (get_or ns' n no_node).verified ≡ (get_or ns n no_node).verified
  put_verified n = ap (λ r. r.verified) (p.node n)

  pub put_marks : (n : ℕ) → (get_or ns' n no_node).marks ≡ (get_or ns n no_node).marks
  put_marks n = ap (λ r. r.marks) (p.node n)

  pub label_other : (n : ℕ) → n ≢ b → (get_or ns' n no_node).label ≡ (get_or ns n no_node).label
  label_other n ne = ap (λ r. r.label) (p.node_other n ne)

  pub label_kept : (n v : ℕ) → holds (get_or ns n no_node).label v → holds (get_or ns' n no_node).label v
  label_kept n v h = go (ℕ_discrete n b)
    where
      go : Dec (n ≡ b) → holds (get_or ns' n no_node).label v
      go (yes e) = subst (λ k. holds (get_or ns' k no_node).label v) (sym e)
          (subst (λ s. holds s v) (sym p.label_here) (put_kept _ y v (subst (λ k. holds (get_or ns k no_node).label v) e h)))
      go (no ne) = subst (λ s. holds s v) (sym (label_other n ne)) h

  pub label_cases : (n v : ℕ) → holds (get_or ns' n no_node).label v → holds (get_or ns n no_node).label v ⊎ ((n ≡ b) × (v ≡ y))
  label_cases n v h = go (ℕ_discrete n b)
    where
      go : Dec (n ≡ b) → holds (get_or ns n no_node).label v ⊎ ((n ≡ b) × (v ≡ y))
      go (yes e) = ⊎_elim (λ old. inl (subst (λ k. holds (get_or ns k no_node).label v) (sym e) old)) (λ is. inr (e, is))
          (put_cases _ y v (subst (λ s. holds s v) p.label_here (subst (λ k. holds (get_or ns' k no_node).label v) e h)))
      go (no ne) = inl (subst (λ s. holds s v) (label_other n ne) h)

  pub label_new : holds (get_or ns' b no_node).label y
  label_new = subst (λ s. holds s y) (sym p.label_here) (put_here _ y)

  pub next_kept : (n v : ℕ) → holds (get_or next n 0) v → holds (get_or next' n 0) v
  next_kept n v h = go (ℕ_discrete n b)
    where
      go : Dec (n ≡ b) → holds (get_or next' n 0) v
      go (yes e) = subst (λ k. holds (get_or next' k 0) v) (sym e)
          (subst (λ s. holds s v) (sym p.next_here) (put_kept _ y v (subst (λ k. holds (get_or next k 0) v) e h)))
      go (no ne) = subst (λ s. holds s v) (sym (p.next_other n ne)) h

  pub next_cases : (n v : ℕ) → holds (get_or next' n 0) v → holds (get_or next n 0) v ⊎ ((n ≡ b) × (v ≡ y))
  next_cases n v h = go (ℕ_discrete n b)
    where
      go : Dec (n ≡ b) → holds (get_or next n 0) v ⊎ ((n ≡ b) × (v ≡ y))
      go (yes e) = ⊎_elim (λ old. inl (subst (λ k. holds (get_or next k 0) v) (sym e) old)) (λ is. inr (e, is))
          (put_cases _ y v (subst (λ s. holds s v) p.next_here (subst (λ k. holds (get_or next' k 0) v) e h)))
      go (no ne) = inl (subst (λ s. holds s v) (p.next_other n ne) h)

  pub next_new : holds (get_or next' b 0) y
  next_new = subst (λ s. holds s y) (sym p.next_here) (put_here _ y)

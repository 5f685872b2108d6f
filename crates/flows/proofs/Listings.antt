-- The sets of the nodes, and the list of the nodes that have any values.
use Rattle.std.proofs.Common.{◌≡◌, ℕ, zero, suc, ◌+◌, ◌-◌, ◌<◌, ◌≤◌, ◌≢◌, ◌⊎◌, List, [], ◌∷◌, ◌++◌, length, get_or, take, drop, set, sum, sum_by, replicate, bit_or, inl, inr, ⊎_elim, sym, refl, ap, ◌∙◌, arith}
use Rattle.std.specs.Int.Bits.{or_zero_l, or_self}
use native.Mathlib.Decide.{ℕ_discrete}
use Rattle.std.proofs.lemmas.List.{get_or-set_same, get_or-set_other, get_or_append_left, get_or-append_right, get_or-drop, length-append, length-drop, length-set, length-replicate}
use Rattle.std.proofs.Math.Seq.{get_or-append_seam}
use Rattle.std.proofs.lemmas.List.Sums.{sum_by-cons, sum_by-set}
use Rattle.flows.specs.Fronts.{some, Empty, Lists, Listed}
use Rattle.flows.specs.Rounds.{Cleared}

-- a list with zeros alone
pub sum_none : (xs : List ℕ) → ((n : ℕ) → get_or xs n 0 ≡ 0) → sum xs ≡ 0
sum_none [] none = refl
sum_none (x ∷ xs) none = sum_by-cons (λ y. y) x xs ∙ omega (arith, none 0, sum_none xs (λ n. none (suc n)))

pub none_of_sum : (xs : List ℕ) → sum xs ≡ 0 → (n : ℕ) → get_or xs n 0 ≡ 0
none_of_sum [] e n = refl
none_of_sum (x ∷ xs) e zero = omega (arith, sum_by-cons (λ y. y) x xs)
none_of_sum (x ∷ xs) e (suc n) = none_of_sum xs (omega (arith, sum_by-cons (λ y. y) x xs)) n

some_one : (s : ℕ) → s ≢ 0 → some s ≡ 1
some_one zero ne = absurd (ne refl)
some_one (suc s) ne = refl

some_none : (s : ℕ) → s ≡ 0 → some s ≡ 0
some_none zero e = refl
some_none (suc s) e = absurd (omega arith)

some_most : (xs : List ℕ) → sum_by some xs ≤ length xs
some_most [] = omega arith
some_most (zero ∷ xs) = omega (arith, sum_by-cons some zero xs, some_most xs)
some_most (suc x ∷ xs) = omega (arith, sum_by-cons some (suc x) xs, some_most xs)

some_sum_none : (xs : List ℕ) → ((n : ℕ) → get_or xs n 0 ≡ 0) → sum_by some xs ≡ 0
some_sum_none [] none = refl
some_sum_none (x ∷ xs) none = omega (arith, sum_by-cons some x xs, some_none x (none 0), some_sum_none xs (λ n. none (suc n)))

pub lists_none : (sets : List ℕ) → Empty sets → Listed sets []
lists_none sets empty = record {
  lists = record { long = empty.long; there = λ n ne. absurd (ne (empty.none n)); within = λ j lj. absurd (omega arith) };
  once = sym (some_sum_none sets empty.none);
}

module _ (sets nodes : List ℕ) (n s : ℕ) (l : Listed sets nodes) (room : n < 4096) where
  here : get_or (set sets n s) n 0 ≡ s
  here = get_or-set_same sets n s 0 (omega (arith, l.lists.long))

  other : (m : ℕ) → m ≢ n → get_or (set sets n s) m 0 ≡ get_or sets m 0
  other m ne = get_or-set_other sets n m s 0 ne

  total : sum_by some (set sets n s) + some (get_or sets n 0) ≡ sum_by some sets + some s
  total = sum_by-set some sets n s 0 (omega (arith, l.lists.long))

  -- the set of a node that is listed, or that stays empty
  pub listed_kept : (get_or sets n 0 ≢ 0 → s ≢ 0) → (get_or sets n 0 ≡ 0 → s ≡ 0) → Listed (set sets n s) nodes
  listed_kept stays none = record {
    lists = record { long = length-set sets n s ∙ l.lists.long; there = λ m ne. found m ne (ℕ_discrete m n); within = λ j lj z. inside j lj z (ℕ_discrete (get_or nodes j 0) n) };
    once = count (ℕ_discrete (get_or sets n 0) 0);
  }
    where
      found : (m : ℕ) → get_or (set sets n s) m 0 ≢ 0 → Dec (m ≡ n) → (j : ℕ) × (j < length nodes) × (get_or nodes j 0 ≡ m)
      found m ne (yes e) = l.lists.there m (λ z. ne (ap (λ k. get_or (set sets n s) k 0) e ∙ here ∙ none (sym (ap (λ k. get_or sets k 0) e) ∙ z)))
      found m ne (no o) = l.lists.there m (λ z. ne (other m o ∙ z))

      inside : (j : ℕ) → j < length nodes → get_or (set sets n s) (get_or nodes j 0) 0 ≡ 0 → Dec (get_or nodes j 0 ≡ n) → ⊥
      inside j lj z (yes e) = stays (λ was. l.lists.within j lj (ap (λ k. get_or sets k 0) e ∙ was)) (sym here ∙ sym (ap (λ k. get_or (set sets n s) k 0) e) ∙ z)
      inside j lj z (no o) = l.lists.within j lj (sym (other _ o) ∙ z)

      count : Dec (get_or sets n 0 ≡ 0) → length nodes ≡ sum_by some (set sets n s)
      count (yes z) = omega (arith, l.once, total, some_none _ z, some_none _ (none z))
      count (no ne) = omega (arith, l.once, total, some_one _ ne, some_one _ (stays ne))

  -- one more node
  module _ (was : get_or sets n 0 ≡ 0) (now : s ≢ 0) where
    once_more : sum_by some (set sets n s) ≡ suc (sum_by some sets)
    once_more = omega (arith, total, some_none _ was, some_one _ now)

    pub listed_room : length nodes < 4096
    listed_room = omega (arith, l.once, once_more, some_most (set sets n s), length-set sets n s, l.lists.long)

    pub listed_more : Listed (set sets n s) (nodes ++ n ∷ [])
    listed_more = record {
      lists = record { long = length-set sets n s ∙ l.lists.long; there = λ m ne. found m ne (ℕ_discrete m n); within = λ j lj z. inside j lj z (ℕ_discrete j (length nodes)) };
      once = omega (arith, length-append nodes (n ∷ []), l.once, once_more);
    }
      where
        last : get_or (nodes ++ n ∷ []) (length nodes) 0 ≡ n
        last = get_or-append_seam nodes n [] 0

        found : (m : ℕ) → get_or (set sets n s) m 0 ≢ 0 → Dec (m ≡ n) → (j : ℕ) × (j < length (nodes ++ n ∷ [])) × (get_or (nodes ++ n ∷ []) j 0 ≡ m)
        found m ne (yes e) = (length nodes, omega (arith, length-append nodes (n ∷ [])), last ∙ sym e)
        found m ne (no o) =
            let old = l.lists.there m (λ z. ne (other m o ∙ z)) in
            let below = old.1 in
            (old.0, omega (arith, below, length-append nodes (n ∷ [])), get_or_append_left nodes (n ∷ []) 0 old.0 below ∙ old.2)

        inside : (j : ℕ) → j < length (nodes ++ n ∷ []) → get_or (set sets n s) (get_or (nodes ++ n ∷ []) j 0) 0 ≡ 0 → Dec (j ≡ length nodes) → ⊥
        inside j lj z (yes e) = now (sym here ∙ sym (ap (λ k. get_or (set sets n s) k 0) (ap (λ k. get_or (nodes ++ n ∷ []) k 0) e ∙ last)) ∙ z)
        inside j lj z (no o) =
            let below : j < length nodes = omega (arith, length-append nodes (n ∷ [])) in
            let same = get_or_append_left nodes (n ∷ []) 0 j below in
            let apart : get_or nodes j 0 ≢ n = λ e. l.lists.within j below (ap (λ k. get_or sets k 0) e ∙ was) in
            l.lists.within j below (sym (other _ apart) ∙ sym (ap (λ k. get_or (set sets n s) k 0) same) ∙ z)

-- a list that has the default alone
pub same_reads : {X : Type 0} (d : X) (k n : ℕ) → get_or (replicate k d) n d ≡ d
same_reads d zero n = refl
same_reads d (suc k) zero = refl
same_reads d (suc k) (suc n) = same_reads d k n

pub front_reads : {X : Type 0} (d : X) (xs : List X) → ((n : ℕ) → get_or xs n d ≡ d) → (k n : ℕ) → get_or (take k xs) n d ≡ d
front_reads d xs none zero n = refl
front_reads d [] none (suc k) n = refl
front_reads d (x ∷ xs) none (suc k) zero = none 0
front_reads d (x ∷ xs) none (suc k) (suc n) = front_reads d xs (λ m. none (suc m)) k n

pub empty_zeros : Empty (replicate 4096 0)
empty_zeros = record { long = length-replicate {A = ℕ} 4096 0; none = same_reads 0 4096 }

-- a list whose first part was filled with zeros
pub cleared : (k : ℕ) (before front : List ℕ) → k ≤ length before → front ≡ replicate k 0 → Cleared k before (front ++ drop k before)
cleared k before front fits is = record {
  below = λ i l. get_or_append_left front (drop k before) 0 i (omega (arith, front_long)) ∙ ap (λ xs. get_or xs i 0) is ∙ same_reads 0 k i;
  past = λ i l. get_or-append_right front (drop k before) k i 0 front_long l ∙ get_or-drop k before (i - k) 0 ∙ ap (λ j. get_or before j 0) (back i l);
  long = omega (arith, length-append front (drop k before), length-drop k before, front_long);
}
  where
    front_long : length front ≡ k
    front_long = ap length is ∙ length-replicate k 0

    back : (i : ℕ) → k ≤ i → k + (i - k) ≡ i
    back i l = omega arith

-- the sets that are listed before place i are emptied
pub record Clearing (before sets nodes : List ℕ) (i : ℕ) : Type 0 where
  pub long : length sets ≡ 4096
  pub done : (j : ℕ) → j < i → get_or sets (get_or nodes j 0) 0 ≡ 0
  pub others : (n : ℕ) → get_or before n 0 ≡ 0 → get_or sets n 0 ≡ 0

pub clearing_end : (before sets nodes : List ℕ) (i : ℕ) → Listed before nodes → length nodes ≤ i → Clearing before sets nodes i → Empty sets
clearing_end before sets nodes i l all c = record { long = c.long; none = λ n. go n (ℕ_discrete (get_or before n 0) 0) }
  where
    go : (n : ℕ) → Dec (get_or before n 0 ≡ 0) → get_or sets n 0 ≡ 0
    go n (yes z) = c.others n z
    go n (no ne) =
        let at = l.lists.there n ne in
        let below = at.1 in
        sym (ap (λ k. get_or sets k 0) at.2) ∙ c.done at.0 (omega (arith, below))

-- the sets of the nodes that are listed before place i are the other's, and the further ones are so too or empty
pub record Taking (other sets nodes : List ℕ) (i : ℕ) : Type 0 where
  pub long : length sets ≡ 4096
  pub done : (j : ℕ) → j < i → get_or sets (get_or nodes j 0) 0 ≡ get_or other (get_or nodes j 0) 0
  pub rest : (n : ℕ) → (get_or sets n 0 ≡ 0) ⊎ (get_or sets n 0 ≡ get_or other n 0)

pub taking_start : (other sets nodes : List ℕ) → Empty sets → Taking other sets nodes 0
taking_start other sets nodes e = record { long = e.long; done = λ j l. absurd (omega arith); rest = λ n. inl (e.none n) }

module _ (other sets nodes : List ℕ) (i : ℕ) (l : Lists other nodes) (t : Taking other sets nodes i) (n : ℕ) (room : n < 4096) (is : n ≡ get_or nodes i 0) where
  -- what is added to the empty set or to itself
  joined : bit_or (get_or sets n 0) (get_or other n 0) ≡ get_or other n 0
  joined = ⊎_elim (λ z. ap (λ k. bit_or k (get_or other n 0)) z ∙ or_zero_l _) (λ e. ap (λ k. bit_or k (get_or other n 0)) e ∙ or_self _) (t.rest n)

  taken_here : get_or (set sets n (bit_or (get_or sets n 0) (get_or other n 0))) n 0 ≡ get_or other n 0
  taken_here = get_or-set_same sets n _ 0 (omega (arith, t.long)) ∙ joined

  kept_there : (m : ℕ) → m ≢ n → get_or (set sets n (bit_or (get_or sets n 0) (get_or other n 0))) m 0 ≡ get_or sets m 0
  kept_there m ne = get_or-set_other sets n m _ 0 ne

  pub taking_more : Taking other (set sets n (bit_or (get_or sets n 0) (get_or other n 0))) nodes (i + 1)
  taking_more = record {
    long = length-set sets n _ ∙ t.long;
    done = λ j lj. so_far j lj (ℕ_discrete (get_or nodes j 0) n);
    rest = λ m. further m (ℕ_discrete m n);
  }
    where
      so_far : (j : ℕ) → j < i + 1 → Dec (get_or nodes j 0 ≡ n) → get_or (set sets n (bit_or (get_or sets n 0) (get_or other n 0))) (get_or nodes j 0) 0 ≡ get_or other (get_or nodes j 0) 0
      so_far j lj (yes e) = ap (λ k. get_or (set sets n (bit_or (get_or sets n 0) (get_or other n 0))) k 0) e ∙ taken_here ∙ sym (ap (λ k. get_or other k 0) e)
      so_far j lj (no ne) = kept_there _ ne ∙ earlier j lj ne (ℕ_discrete j i)
        where
          earlier : (j : ℕ) → j < i + 1 → get_or nodes j 0 ≢ n → Dec (j ≡ i) → get_or sets (get_or nodes j 0) 0 ≡ get_or other (get_or nodes j 0) 0
          earlier j lj ne (yes e) = absurd (ne (ap (λ k. get_or nodes k 0) e ∙ sym is))
          earlier j lj ne (no o) = t.done j (omega arith)

      further : (m : ℕ) → Dec (m ≡ n) → (get_or (set sets n (bit_or (get_or sets n 0) (get_or other n 0))) m 0 ≡ 0) ⊎ (get_or (set sets n (bit_or (get_or sets n 0) (get_or other n 0))) m 0 ≡ get_or other m 0)
      further m (yes e) = inr (ap (λ k. get_or (set sets n (bit_or (get_or sets n 0) (get_or other n 0))) k 0) e ∙ taken_here ∙ sym (ap (λ k. get_or other k 0) e))
      further m (no ne) = ⊎_elim (λ z. inl (kept_there m ne ∙ z)) (λ e. inr (kept_there m ne ∙ e)) (t.rest m)

pub taking_end : (other sets nodes : List ℕ) (i : ℕ) → Lists other nodes → length nodes ≤ i → Taking other sets nodes i
    → (n : ℕ) → get_or sets n 0 ≡ get_or other n 0
taking_end other sets nodes i l all t n = go (ℕ_discrete (get_or other n 0) 0)
  where
    go : Dec (get_or other n 0 ≡ 0) → get_or sets n 0 ≡ get_or other n 0
    go (yes z) = ⊎_elim (λ e. e ∙ sym z) (λ e. e) (t.rest n)
    go (no ne) =
        let at = l.there n ne in
        let below = at.1 in
        sym (ap (λ k. get_or sets k 0) at.2) ∙ t.done at.0 (omega (arith, below)) ∙ ap (λ k. get_or other k 0) at.2

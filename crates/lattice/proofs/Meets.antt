-- The meet in a lattice, found by a search over all values. Assumes nothing.
use Rattle.std.proofs.Common.{◌≡◌, ℕ, zero, suc, ◌+◌, ◌<◌, Bool, true, false, ◌&&◌, cond, Some, sym, refl, ap, subst, ◌∙◌, arith, add-one}
use Rattle.std.specs.List.{fold, range_with_len}
use Rattle.std.proofs.lemmas.List.Sums.{fold_push}
use Rattle.lattice.specs.Order.{Order, Lattice, meet}
use Rattle.lattice.specs.Tests.{T_and, and_T, from_true, from_false}
use Rattle.lattice.specs.Tables.{Best, best_start, best_take, best_keep, best_end}
use Rattle.lattice.proofs.Values.{range_end}

-- one turn of the search: a lower bound gives way to a greater one
abbrev pub nearer : Order → ℕ → ℕ → ℕ → ℕ → ℕ
nearer o a b best x = cond (o.below x a && o.below x b && o.below best x) x best

module _ (o : Order) (l : Lattice o) (a b : ℕ) where
  best_next : (best x : ℕ) → Best o a b best x → Best o a b (nearer o a b best x) (x + 1)
  best_next best x w = go (o.below x a && o.below x b && o.below best x) refl
    where
      go : (t : Bool) → (o.below x a && o.below x b && o.below best x) ≡ t → Best o a b (cond t x best) (x + 1)
      go true e =
          let u = T_and (o.below x a && o.below x b) (o.below best x) (from_true _ e) in
          let v = T_and (o.below x a) (o.below x b) u.0 in
          best_take o l a b best x w v.0 v.1 u.1
      go false e =
          best_keep o l a b best x w (λ p q r. from_false _ e
          (and_T (o.below x a && o.below x b) (o.below best x) (and_T (o.below x a) (o.below x b) p q) r))

  best_of : a < o.size → b < o.size → (n : ℕ) → Best o a b (fold (nearer o a b) 0 (range_with_len 0 n)) n
  best_of h k zero = best_start o l a b h k
  best_of h k (suc n) =
      subst (λ y. Best o a b y (suc n)) (sym (ap (fold (nearer o a b) 0) (range_end 0 n n (omega arith)) ∙ fold_push (nearer o a b) 0 (range_with_len 0 n) n))
      (rw add-one at (best_next (fold (nearer o a b) 0 (range_with_len 0 n)) n (best_of h k n)))

  -- the search over all values finds the meet
  pub meet_search : a < o.size → b < o.size → Some (fold (nearer o a b) 0 (range_with_len 0 o.size)) ≡ meet o a b
  meet_search h k = best_end o l a b (fold (nearer o a b) 0 (range_with_len 0 o.size)) o.size h k (omega arith) (best_of h k o.size)

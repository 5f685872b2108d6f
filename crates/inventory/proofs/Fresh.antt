-- A new inventory.
use Rattle.std.proofs.Common.{◌≡◌, ℕ, zero, suc, ◌-◌, ◌/◌, ◌<◌, ◌≤◌, min, true, List, [], ◌∷◌, ◌++◌, length, get_or, take, replicate, sym, refl, ap, ◌∙◌, subst, arith}
use Rattle.std.proofs.lemmas.List.{take_at}
use Rattle.flows.specs.declared.records.NodeRecord.{NodeRecord}
use Rattle.flows.specs.declared.records.FlowRecord.{FlowRecord}
use Rattle.lattice.specs.declared.sizes.Sizes.{Sizes}
use Rattle.ledger.specs.Ledger.{fresh, counting, nearest_size, good_row}
use Rattle.inventory.specs.View.{nearest_sizes}
use Rattle.inventory.specs.View.{made_of, made_new, first_steps, ledger_of}
use Rattle.inventory.specs.Sound.{Sound, GoodSize, GoodRows, BoundedRows, SilentRows}
use Rattle.std.proofs.lemmas.List.FromFn.{length-range_with_len}
use Rattle.inventory.proofs.Outcomes.{Parts, parts}
use Rattle.inventory.proofs.RowLaws.{counting_good, padded_bounded, padded_silent}
use Rattle.inventory.proofs.Lists.{every_more}

nearest_good : (n : ℕ) → GoodSize (nearest_size n)
nearest_good n = (omega arith, omega arith)

-- the identity, read off its row
front : (n : ℕ) → take n (counting n ++ replicate (64 - n) 0) ≡ counting n
front n = take_at (counting n) (replicate (64 - n) 0) n (length-range_with_len 0 n)

first_good : (n : ℕ) → 0 < n → GoodRows n (first_steps n)
first_good n pos zero l = ap (good_row n) (front n) ∙ counting_good n pos
first_good n pos (suc k) l = absurd (omega arith)

-- the identity with zeros behind it is a padded row
abbrev identity : ℕ → List ℕ
identity n = counting n ++ replicate (64 - n) 0

padded_identity : (n : ℕ) → counting n ++ replicate (64 - length (counting n)) 0 ≡ identity n
padded_identity n = ap (λ k. counting n ++ replicate (64 - k) 0) (length-range_with_len 0 n)

first_bounded : (n : ℕ) → 0 < n → BoundedRows n (first_steps n)
first_bounded n pos =
    every_more (λ r. (v : ℕ) → get_or r v 0 < n) [] (identity n) [] (λ v. pos)
    (λ v. subst (λ r. get_or r v 0 < n) (padded_identity n) (padded_bounded n (counting n) (length-range_with_len 0 n) (counting_good n pos) pos v)) (λ i v. pos)

first_silent : (n : ℕ) → SilentRows n (first_steps n)
first_silent n =
    every_more (λ r. (v : ℕ) → n ≤ v → get_or r v 0 ≡ 0) [] (identity n) [] (λ v past. refl)
    (λ v past. subst (λ r. get_or r v 0 ≡ 0) (padded_identity n) (padded_silent n (counting n) (length-range_with_len 0 n) v past)) (λ i v past. refl)

module _ (z : Sizes) (ns : List NodeRecord) (fs : List FlowRecord) (ws : List ℕ) where
  pub fresh_sound : Sound (made_new z ns fs ws)
  fresh_sound = record {
    sized = (nearest_good z.store, nearest_good z.purpose, nearest_good z.role, nearest_good z.types);
    node_fits = (omega arith, omega arith, omega arith, omega arith);
    flow_fits = (omega arith, omega arith, omega arith);
    nodes_good = λ k l. absurd (omega arith);
    flows_good = λ k l. absurd (omega arith);
    flows_apart = λ i j p. absurd (omega (arith, p.0));
    rows_good = first_good (nearest_size z.types) (omega arith);
    rows_bounded = first_bounded (nearest_size z.types) (omega arith);
    rows_silent = first_silent (nearest_size z.types);
    labels_settled = ∣ (λ _. (
      (λ n v l lv h far. absurd (omega (arith, l))),
      (λ n v l lv h far. absurd (omega (arith, l))),
      (λ n v l lv h. absurd (omega (arith, l))),
      (λ f w l lw h some way. absurd (omega (arith, l))),
    )) ∣₁;
  }

  pub fresh_ledger : ledger_of (made_new z ns fs ws) ≡ fresh z (length ns) (length fs) (length ws)
  unfolding ledger_of
  fresh_ledger =
      ap (λ row. record {
        sizes = nearest_sizes z;
        node_room = min 4096 (min (length ns) (length ws / 128));
        flow_room = min 16384 (length fs);
        nodes = [];
        steps = row ∷ [];
        flows = [];
        settled = true;
      }) (front (nearest_size z.types))

  -- what was made of the clamped sizes, the first rows and the rooms
  pub made_fresh : (sizes : Sizes) (steps : List (List ℕ)) (nodes flows : ℕ) → sizes ≡ nearest_sizes z → steps ≡ first_steps sizes.types
      → nodes ≡ min 4096 (min (length ns) (length ws / 128)) → flows ≡ min 16384 (length fs)
      → record {
        kept : Parts (made_of ns fs ws steps 0 0 nodes flows sizes true);
        memory : made_of ns fs ws steps 0 0 nodes flows sizes true ≡ made_new z ns fs ws;
        ledger : ledger_of (made_of ns fs ws steps 0 0 nodes flows sizes true) ≡ fresh z (length ns) (length fs) (length ws);
      }
  made_fresh sizes steps nodes flows e₁ e₂ e₃ e₄ =
      let is : made_of ns fs ws steps 0 0 nodes flows sizes true ≡ made_new z ns fs ws =
      λ i. made_of ns fs ws ((e₂ ∙ ap (λ y. first_steps y.types) e₁) i) 0 0 (e₃ i) (e₄ i) (e₁ i) true in
      record { kept = parts _ (subst Sound (sym is) fresh_sound); memory = is; ledger = ap ledger_of is ∙ fresh_ledger }

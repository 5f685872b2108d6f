-- The values that flow paths of a sound ledger bring go from 1 to the size less 1. Assumes nothing.
use Rattle.std.proofs.Common.{◌≡◌, ℕ, ◌<◌, ◌&&◌, T, eqb, ltb, List, [], ◌∷◌, length, get_or, ap, inl, inr, arith, eqb→eq, lt→ltb}
use mathlib.Core.Logic.{∥∥₁_elim}
use lib.Dec.{T_prop}
use lib.ListN.{get_or-eq_default}
use Rattle.std.proofs.lemmas.Bool.{cases_lt, ltb-true}
use Rattle.ledger.specs.Ledger.{Ledger, good_row, good_value, node_at, flow_at, carried, Trail, IsFlowPath, Brought}
use Rattle.ledger.specs.Sound.{Sound}
use Rattle.std.specs.List.{list_all}
use Rattle.std.proofs.lemmas.List.Sums.{AllPass-from_list_all}
use Rattle.lattice.specs.Tests.{T_and, and_T, is_true}
use Rattle.ledger.proofs.Ranges.{range_value}

row_parts : (n : ℕ) (row : List ℕ) → T (good_row n row) → (length row ≡ n) × ((v : ℕ) → v < n → get_or row v 0 < n)
row_parts n row h =
    let parts = T_and (eqb (length row) n && eqb (get_or row 0 0) 0) (list_all (λ v. ltb v n) row) h in
    let ends = T_and (eqb (length row) n) (eqb (get_or row 0 0) 0) parts.0 in (
      eqb→eq (length row) n ends.0,
      λ v low. ltb-true (get_or row v 0) n (AllPass-from_list_all (λ v. ltb v n) row (is_true _ parts.1) v 0 (omega (arith, eqb→eq (length row) n ends.0))),
    )

-- a good row makes values below the size of every number
row_below : (n : ℕ) (row : List ℕ) (v : ℕ) → 0 < n → T (good_row n row) → get_or row v 0 < n
row_below n row v some good =
    let parts = row_parts n row good in
    elim (cases_lt v n) [
      | inl low ↦ parts.1 v low
      | inr high ↦ omega (arith, get_or-eq_default row 0 {n = v} (omega (arith, parts.0)))
    ]

pub carried_below : (L : Ledger) → Sound L → (t v : ℕ) → carried L t v < L.sizes.types
carried_below L sound t v =
    let some : 0 < L.sizes.types = omega (arith, sound.sizes.types.0) in
    elim (cases_lt t (length L.steps)) [
      | inl low ↦ row_below L.sizes.types (get_or L.steps t []) v some (sound.steps t low)
      | inr high ↦ omega (arith, ap (λ row. get_or row v 0) (get_or-eq_default L.steps [] {n = t} high))
    ]

pub trail_value : (L : Ledger) → Sound L → (fs : List ℕ) (a x b y : ℕ) → 0 < x → x < L.sizes.types → Trail L a x fs b y →
    (0 < y) × (y < L.sizes.types)
trail_value L sound [] a x b y some low trail = (omega (arith, trail.1), omega (arith, trail.1))
trail_value L sound (f ∷ fs) a x b y some low trail =
    trail_value L sound fs (flow_at L f).to (carried L (flow_at L f).step x) b y trail.2 (carried_below L sound (flow_at L f).step x) trail.4

pub path_value : (L : Ledger) → Sound L → (fs : List ℕ) (b y : ℕ) → IsFlowPath L fs b y → T (good_value L.sizes.types y)
path_value L sound fs b y (a, x, inside, marked, trail) =
    let first = range_value L.sizes.types (node_at L a).marks x (sound.nodes a inside).marks marked in
    let last = trail_value L sound fs a x b y first.0 first.1 trail in
    and_T (ltb 0 y) (ltb y L.sizes.types) (lt→ltb 0 y last.0) (lt→ltb y L.sizes.types last.1)

pub brought_value : (L : Ledger) → Sound L → (n v : ℕ) → Brought L n v → T (good_value L.sizes.types v)
brought_value L sound n v brought = ∥∥₁_elim brought (T_prop (good_value L.sizes.types v)) (λ found. path_value L sound found.0 n v found.1)

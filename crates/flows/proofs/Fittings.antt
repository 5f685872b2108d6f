-- What fits, part by part.
use Rattle.std.proofs.Common.{ℕ, ◌*◌, ◌<◌, ◌≤◌, List, [], length, get_or, All, sym, subst, arith}
use native.Mathlib.Decide.{dec_lt}
use Rattle.std.proofs.lemmas.List.{get_or_past}
use Rattle.std.proofs.lemmas.List.Elements.{All-get_or, All-from_get_or}
use Rattle.flows.specs.declared.records.NodeRecord.{NodeRecord}
use Rattle.flows.specs.declared.records.FlowRecord.{FlowRecord}
use Rattle.flows.specs.Graph.{whole, no_flow}
use Rattle.flows.specs.Fitting.{Fitting, FlowFits}

-- what holds of each element and of the default holds wherever a list is read
every_read : {X : Type 0} (P : X → Type 0) (xs : List X) (d : X) → P d → All P xs → (i : ℕ) → P (get_or xs i d)
every_read P xs d none all i = go (dec_lt i (length xs))
  where
    go : Dec (i < length xs) → P (get_or xs i d)
    go (yes l) = All-get_or P xs i d l all
    go (no l) = subst P (sym (get_or_past xs i d (omega arith))) none

module _ (ns : List NodeRecord) (W : List ℕ) (fl : List FlowRecord) (rows : List (List ℕ)) where
  pub fitting_of : (length ns ≤ 4096) × (length fl ≤ 16384) × (128 * length ns ≤ length W)
      → ((f : ℕ) → f < length fl → FlowFits (length ns) (length rows) (get_or fl f no_flow)) → All (All (λ v. v < 64)) rows → Fitting (whole ns fl rows) W
  fitting_of sizes flows small = record {
    few_nodes = sizes.0;
    few_flows = sizes.1;
    nodes_room = omega arith;
    flows_room = omega arith;
    words_room = sizes.2;
    joined = λ f l. ((flows f l).0, (flows f l).1);
    stepped = λ f l. (flows f l).2;
    bounded = λ t v. every_read (λ x. x < 64) _ 0 (omega arith) (every_read (All (λ x. x < 64)) rows [] (λ k d l. absurd (omega arith)) small t) v;
  }

  pub rows_of : Fitting (whole ns fl rows) W → All (All (λ v. v < 64)) rows
  rows_of fit = All-from_get_or (All (λ v. v < 64)) rows [] (λ t _. All-from_get_or (λ v. v < 64) (get_or rows t []) 0 (λ v _. fit.bounded t v))

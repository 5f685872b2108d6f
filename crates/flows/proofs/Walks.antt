-- The walk from a value back along its hops.
use Rattle.std.proofs.Common.{◌≡◌, ℕ, suc, ◌+◌, ◌-◌, ◌/◌, ◌%◌, ◌<◌, List, [], ◌∷◌, ◌++◌, length, get_or, take, reverse, set, sym, ap, ◌∙◌, append_assoc, arith}
use Rattle.std.proofs.lemmas.List.{reverse-append, take_all, take_more_set}
use Rattle.flows.specs.declared.records.FlowRecord.{FlowRecord}
use Rattle.flows.specs.Graph.{no_flow}
use Rattle.flows.specs.Certificate.{arrival}
use Rattle.flows.specs.Paths.{hops}

-- the walk has come to value `held` at node `at`, and the last `done` hops are written, the last first
pub record Walked (W : List ℕ) (flows : List FlowRecord) (n x count : ℕ) (piece : List ℕ) (at held done : ℕ) : Type 0 where
  pub written : hops W flows (count - done) at held ++ reverse (take done piece) ≡ hops W flows count n x

-- one hop more is written
pub walk_more : (W : List ℕ) (flows : List FlowRecord) (n x count : ℕ) (piece : List ℕ) (at held done a start : ℕ)
    → done < length piece → length piece ≡ count → a ≡ arrival W at held → start ≡ (get_or flows (a / 64) no_flow).«from»
    → Walked W flows n x count piece at held done
    → Walked W flows n x count (set piece done (a / 64)) start (a % 64) (done + 1)
unfolding hops
walk_more W flows n x count piece at held done a start within long read is walked =
    let k : ℕ = count - (done + 1) in
    let one : count - done ≡ suc k = omega arith in
    let back = hops W flows k (get_or flows (a / 64) no_flow).«from» (a % 64) in
    let last : hops W flows (suc k) at held ≡ back ++ (a / 64 ∷ []) =
    ap (λ b. hops W flows k (get_or flows (b / 64) no_flow).«from» (b % 64) ++ (b / 64 ∷ [])) (sym read) in
    record {
      written = ap (λ s. hops W flows k s (a % 64) ++ reverse (take (done + 1) (set piece done (a / 64)))) is
          ∙ ap (λ l. back ++ reverse l) (take_more_set piece done (a / 64) within)
          ∙ ap (λ l. back ++ l) (reverse-append (take done piece) (a / 64 ∷ []))
          ∙ sym (append_assoc back (a / 64 ∷ []) (reverse (take done piece)))
          ∙ ap (λ l. l ++ reverse (take done piece)) (sym last)
          ∙ ap (λ j. hops W flows j at held ++ reverse (take done piece)) (sym one)
          ∙ walked.written;
    }

-- at its end the walk has written all hops
pub walk_end : (W : List ℕ) (flows : List FlowRecord) (n x count : ℕ) (piece : List ℕ) (at held done : ℕ) → length piece ≡ count → done ≡ count
    → Walked W flows n x count piece at held done → reverse piece ≡ hops W flows count n x
unfolding hops
walk_end W flows n x count piece at held done long all walked =
    let none : count - done ≡ 0 = omega arith in
    let whole : take done piece ≡ piece = take_all done piece (omega arith) in
    sym (ap (λ k. hops W flows k at held ++ reverse (take done piece)) none ∙ ap reverse whole) ∙ walked.written

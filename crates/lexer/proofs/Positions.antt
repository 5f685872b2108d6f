-- What a search for the first byte that passes a test answers.
use Rattle.std.proofs.Common.{◌≡◌, ℕ, ◌<◌, ◌≤◌, Bool, ltb, List, length, Some, None, Option, not, sym, ap, ◌∙◌, inl, inr, arith}
use Rattle.std.specs.List.{position, position_or_len}
use Rattle.std.specs.Option.{unwrap_or}
use Rattle.std.proofs.lemmas.Bool.{cases_lt, lt-ltb, le-ltb, ltb-true, cond-true, cond-false}
use Rattle.std.proofs.lemmas.Option.{cond_some}
use Rattle.std.proofs.lemmas.List.Sums.{prefix_len-le-length}

module _ (p : ℕ → Bool) (bs : List ℕ) (r : Option ℕ) (is : r ≡ position p bs) where
  pub found : (n : ℕ) → r ≡ Some n → (n ≡ position_or_len p bs) × (n < length bs)
  found n e =
      let h = cond_some (ltb (position_or_len p bs) (length bs)) (position_or_len p bs) n (sym is ∙ e) in
      (sym h.1, omega (arith, ltb-true _ _ h.0, h.1))

  pub missed : r ≡ None → length bs ≤ position_or_len p bs
  missed e =
      elim (cases_lt (position_or_len p bs) (length bs)) [
        | inl l ↦ let k : position p bs ≡ Some (position_or_len p bs) = cond-true _ _ _ (lt-ltb _ _ l) in let z : ◌≡◌ {A = ℕ} 0 1 = cc in absurd (omega arith)
        | inr h ↦ h
      ]

  -- where the position, or else the end, is taken
  pub reached : (n : ℕ) → n ≡ unwrap_or r (length bs) → (n ≡ position_or_len p bs) × (n ≤ length bs)
  reached n e =
      elim (cases_lt (position_or_len p bs) (length bs)) [
        | inl l ↦
            let k : position p bs ≡ Some (position_or_len p bs) = cond-true _ _ _ (lt-ltb _ _ l) in
            let h : n ≡ position_or_len p bs = e ∙ ap (λ o. unwrap_or o (length bs)) (is ∙ k) in
            (h, omega arith)
        | inr l ↦
            let k : position p bs ≡ None = cond-false _ _ _ (le-ltb _ _ l) in
            let h : n ≡ length bs = e ∙ ap (λ o. unwrap_or o (length bs)) (is ∙ k) in
            (omega (arith, prefix_len-le-length (λ b. not (p b)) bs), omega arith)
      ]

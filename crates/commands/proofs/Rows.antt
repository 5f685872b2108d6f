-- Rows by their entries.
use Rattle.std.proofs.Common.{◌≡◌, ℕ, zero, suc, ◌+◌, ◌<◌, ◌≤◌, List, [], ◌∷◌, ◌++◌, length, get_or, take, set, sym, refl, ap, ◌∙◌, subst, arith}
use denote.Param.Members.{Mut}
use native.Mathlib.Decide.{ℕ_discrete}
use Rattle.std.specs.Fn.{Called}
use Rattle.std.specs.Array.{IsFromFnResult, IsFromFnResultFrom}
use Rattle.std.proofs.lemmas.List.{take_more_set}
use Rattle.std.proofs.lemmas.List.FromFn.{fill_by_all, map-range_with_len_more}
use Rattle.commands.specs.Meanings.{tabled}

-- the entries that a closure made, which computes h
module _ {F : Type 0} (g : Mut F (ℕ × Unit {0}) ℕ) (h : ℕ → ℕ) (f : F) (computes : (i x : ℕ) (q : F) → Called g f (i, tt) x q → (q ≡ f) × (x ≡ h i)) (row : List ℕ) where
  entries : (n i : ℕ) → IsFromFnResultFrom g f row i n → (k : ℕ) → i ≤ k → k < i + n → get_or row k 0 ≡ h k
  entries zero i made k low high = absurd (omega arith)
  entries (suc n) i (q, y, here, called, rest) k low high =
      let same : (q ≡ f) × (y ≡ h i) = computes i y q called in
      elim (ℕ_discrete k i) [
        | yes e ↦ rw e (here.1 0 ∙ same.1)
        | no ne ↦ entries n (i + 1) (subst (λ p. IsFromFnResultFrom g p row (i + 1) n) same.0 rest) k (omega arith) (omega arith)
      ]

  pub made_is : (n : ℕ) → IsFromFnResult g f row n → row ≡ tabled n h
  unfolding tabled
  made_is n made = fill_by_all h row n 0 made.long (λ k l. entries n 0 made.each k (omega arith) (omega arith))

-- a row that is filled from the front: nothing, and one entry more
pub tabled_none : (f : ℕ → ℕ) → [] ≡ tabled 0 f
unfolding tabled
tabled_none f = refl

pub tabled_more : (f : ℕ → ℕ) (row : List ℕ) (i x : ℕ) → i < length row → x ≡ f i → take i row ≡ tabled i f → take (i + 1) (set row i x) ≡ tabled (i + 1) f
unfolding tabled
tabled_more f row i x l e front =
    take_more_set row i x l ∙ ap (λ (t : List ℕ). t ++ (x ∷ [])) front ∙ ap (λ (y : ℕ). tabled i f ++ (y ∷ [])) e
    ∙ sym (map-range_with_len_more f 0 i i (omega arith))

-- Where a line ends.
use Rattle.std.proofs.Common.{◌≡◌, ℕ, ◌+◌, ◌<◌, ◌≤◌, true, false, eqb, List, [], ◌∷◌, length, take, drop, refl, inl, inr, add-one, arith}
use Rattle.std.specs.List.{position_or_len}
use Rattle.std.proofs.lemmas.List.{take_all, drop_all}
use Rattle.std.proofs.lemmas.Bool.{cases_Bool}
use Rattle.lexer.specs.Lines.{lines_of}
use Rattle.std.specs.List.{onto_first}
use Rattle.lexer.proofs.Fronts.{front, front_none, front_stop, front_goes}

abbrev line_end : List ℕ → ℕ
line_end bs = front (λ b. eqb b 10) bs

pub line_none : lines_of [] ≡ []
unfolding lines_of
line_none = refl

line_here : (b : ℕ) (bs : List ℕ) → eqb b 10 ≡ true → lines_of (b ∷ bs) ≡ [] ∷ lines_of bs
unfolding lines_of
line_here b bs e = simp e

line_later : (b : ℕ) (bs : List ℕ) → eqb b 10 ≡ false → lines_of (b ∷ bs) ≡ onto_first b (lines_of bs)
unfolding lines_of
line_later b bs e = simp e

lines_first : (b : ℕ) (bs : List ℕ) → lines_of (b ∷ bs) ≡ take (line_end (b ∷ bs)) (b ∷ bs) ∷ lines_of (drop (line_end (b ∷ bs) + 1) (b ∷ bs))
lines_first b [] =
    elim (cases_Bool (eqb b 10)) [
      | inl e ↦ rw (line_here b [] e, front_stop (λ x. eqb x 10) b [] e)
      | inr e ↦ rw (line_later b [] e, front_goes (λ x. eqb x 10) b [] e, add-one, line_none, front_none)
    ]
lines_first b (c ∷ bs) =
    elim (cases_Bool (eqb b 10)) [
      | inl e ↦ rw (line_here b (c ∷ bs) e, front_stop (λ x. eqb x 10) b (c ∷ bs) e)
      | inr e ↦ rw (line_later b (c ∷ bs) e, front_goes (λ x. eqb x 10) b (c ∷ bs) e, add-one, lines_first c bs, add-one)
    ]

-- the first line ends before the first newline
pub line_cut : (text : List ℕ) (n : ℕ) → n ≡ position_or_len (λ b. eqb b 10) text → n < length text → lines_of text ≡ take n text ∷ lines_of (drop (n + 1) text)
unfolding front
line_cut [] n e h = absurd (omega arith)
line_cut (b ∷ bs) n e h = rw e (lines_first b bs)

-- without a newline the text is one line
pub line_whole : (text : List ℕ) → 0 < length text → length text ≤ position_or_len (λ b. eqb b 10) text → lines_of text ≡ text ∷ lines_of []
unfolding front
line_whole [] z h = absurd (omega arith)
line_whole (b ∷ bs) z h =
    let n : ℕ = position_or_len (λ b. eqb b 10) (b ∷ bs) in
    let whole = take_all n (b ∷ bs) h in
    let beyond = drop_all (n + 1) (b ∷ bs) (omega arith) in
    let first : lines_of (b ∷ bs) ≡ take n (b ∷ bs) ∷ lines_of (drop (n + 1) (b ∷ bs)) = lines_first b bs in
    cc

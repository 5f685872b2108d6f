-- Where a word begins and ends.
use Rattle.std.proofs.Common.{◌≡◌, ℕ, suc, ◌-◌, ◌<◌, ◌≤◌, Bool, true, false, not, eqb, ◌≢◌, List, [], ◌∷◌, length, take, drop, sym, refl, ap, ◌∙◌, inl, inr, arith}
use Rattle.std.specs.List.{position_or_len, onto_first}
use Rattle.std.proofs.lemmas.List.{take_rest, drop_all, length-take-le, length-drop}
use Rattle.std.proofs.ByRecursion.{All-weaker}
use Rattle.std.proofs.lemmas.Bool.{cases_Bool, both_ways, eqb-true, or_cases, not-false, not_from_true, not_from_false}
use Rattle.lexer.specs.Classes.{is_blank, in_word}
use Rattle.lexer.specs.Words.{words_of, begins_word, IsWord}
use Rattle.lexer.proofs.Fronts.{front, front_none, front_stop, front_goes, front_passes, front_again}

-- the bytes of a class in front
run : (ℕ → Bool) → List ℕ → ℕ
run belongs bs = front (λ b. not (belongs b)) bs

module _ (belongs : ℕ → Bool) where
  run_none : run belongs [] ≡ 0
  unfolding run
  run_none = front_none _

  run_goes : (b : ℕ) (bs : List ℕ) → belongs b ≡ true → run belongs (b ∷ bs) ≡ suc (run belongs bs)
  unfolding run
  run_goes b bs e = front_goes _ b bs (not_from_true _ e)

  run_stops : (b : ℕ) (bs : List ℕ) → belongs b ≡ false → run belongs (b ∷ bs) ≡ 0
  unfolding run
  run_stops b bs e = front_stop _ b bs (not_from_false _ e)

word_none : words_of [] ≡ []
unfolding words_of
word_none = refl

word_goes : (b : ℕ) (bs : List ℕ) → in_word b ≡ true → begins_word bs ≡ true → words_of (b ∷ bs) ≡ onto_first b (words_of bs)
unfolding words_of
word_goes b bs e f = simp (e, f)

word_alone : (b : ℕ) (bs : List ℕ) → in_word b ≡ true → begins_word bs ≡ false → words_of (b ∷ bs) ≡ (b ∷ []) ∷ words_of bs
unfolding words_of
word_alone b bs e f = simp (e, f)

blank_outside : (b : ℕ) → is_blank b ≡ true → in_word b ≡ false
blank_outside b e = simp e

blank_no_comment : (b : ℕ) → is_blank b ≡ true → eqb b 35 ≡ false
blank_no_comment b e =
    elim (cases_Bool (eqb b 35)) [
      | inl h ↦ let n : is_blank b ≡ false = rw (eqb-true b 35 h) in absurd (both_ways _ n e)
      | inr h ↦ h
    ]

word_blank : (b : ℕ) (bs : List ℕ) → is_blank b ≡ true → words_of (b ∷ bs) ≡ words_of bs
unfolding words_of
word_blank b bs e = rw (blank_outside b e, blank_no_comment b e)

word_comment : (b : ℕ) (bs : List ℕ) → in_word b ≡ false → is_blank b ≡ false → words_of (b ∷ bs) ≡ []
unfolding words_of
word_comment b bs e f =
    elim (or_cases (is_blank b) (eqb b 35) (not-false _ e)) [
      | inl h ↦ absurd (both_ways _ f h)
      | inr h ↦ rw (e, h)
    ]

words_skip : (bs : List ℕ) → words_of bs ≡ words_of (drop (run is_blank bs) bs)
words_skip [] = rw run_none
words_skip (b ∷ bs) =
    elim (cases_Bool (is_blank b)) [
      | inl e ↦ rw (word_blank b bs e, run_goes is_blank b bs e) (words_skip bs)
      | inr e ↦ rw (run_stops is_blank b bs e)
    ]

begins_run : (bs : List ℕ) → begins_word bs ≡ false → run in_word bs ≡ 0
begins_run [] e = run_none in_word
begins_run (b ∷ bs) e = run_stops in_word b bs e

words_first : (bs : List ℕ) → begins_word bs ≡ true → words_of bs ≡ take (run in_word bs) bs ∷ words_of (drop (run in_word bs) bs)
words_first [] e = absurd (both_ways false refl e)
words_first (b ∷ bs) e =
    elim (cases_Bool (begins_word bs)) [
      | inl f ↦ rw (word_goes b bs e f, run_goes in_word b bs e, words_first bs f)
      | inr f ↦ rw (word_alone b bs e f, run_goes in_word b bs e, begins_run bs f)
    ]

words_over : (bs : List ℕ) → run in_word bs ≡ 0 → run is_blank bs ≡ 0 → words_of bs ≡ []
words_over [] e f = word_none
words_over (b ∷ bs) e f =
    elim (cases_Bool (in_word b)) [
      | inl h ↦ absurd (omega (arith, e, run_goes in_word b bs h))
      | inr h ↦ elim (cases_Bool (is_blank b)) [
        | inl k ↦ absurd (omega (arith, f, run_goes is_blank b bs k))
        | inr k ↦ word_comment b bs h k
      ]
    ]

-- a byte of a word is neither blank nor '#'
plain : (b : ℕ) → not (in_word b) ≡ false → (b ≢ 32) × (b ≢ 9) × (b ≢ 13) × (b ≢ 35)
plain b n =
    let h : in_word b ≡ true = not-false _ n in
    (λ e. both_ways _ (rw e) h, λ e. both_ways _ (rw e) h, λ e. both_ways _ (rw e) h, λ e. both_ways _ (rw e) h)

begins_from : (bs : List ℕ) → 0 < run in_word bs → begins_word bs ≡ true
begins_from bs h = elim (cases_Bool (begins_word bs)) [ inl e ↦ e | inr e ↦ absurd (omega (arith, begins_run bs e)) ]

-- only blanks
pub words_blank : (line : List ℕ) → length line ≤ position_or_len (λ b. not (is_blank b)) line → words_of line ≡ []
unfolding run front
words_blank line h = words_skip line ∙ ap words_of (drop_all (run is_blank line) line h) ∙ word_none

-- The line after the first n blanks, where the next m bytes are a word.
module _ (line rest : List ℕ) (n m : ℕ) (begin : n ≡ position_or_len (λ b. not (is_blank b)) line) (left : rest ≡ take (length line - n) (drop n line)) (end : m ≡ position_or_len (λ b. not (in_word b)) rest) where
  rest_is : rest ≡ drop n line
  rest_is = left ∙ take_rest line n

  skipped : words_of line ≡ words_of rest
  unfolding run front
  skipped = rw (rest_is, begin) (words_skip line)

  pub word_over : m ≡ 0 → words_of line ≡ []
  unfolding run front
  word_over z = skipped ∙ words_over rest (sym end ∙ z) (rw (rest_is, begin) (front_again (λ b. not (is_blank b)) line))

  pub word_cut : 0 < m → words_of line ≡ take m rest ∷ words_of (drop m rest)
  unfolding run front
  word_cut h = skipped ∙ rw end (words_first rest (begins_from rest (omega (arith, end))))

  pub word_bytes : 0 < m → m ≤ length rest → IsWord (take m rest)
  unfolding front
  word_bytes h k = (rw (length-take-le m rest k) h, rw end (All-weaker _ _ plain _ (front_passes (λ b. not (in_word b)) rest)))

  pub word_shorter : 0 < m → m ≤ length rest → length (drop m rest) < length line
  word_shorter h k = rw (length-drop m rest) (omega (arith, ap length rest_is, length-drop n line))

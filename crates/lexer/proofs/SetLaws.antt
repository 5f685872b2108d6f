-- A set has the numbers of its pieces and no others.
use Rattle.std.proofs.Common.{◌≡◌, ℕ, true, false, eqb, ◌⊎◌, List, [], ◌∷◌, length, IfOk, Some, None, Ok, Err, Decides, Option, Result, sym, refl, ◌∙◌, subst, inl, inr, arith}
use Rattle.std.proofs.lemmas.Bool.{cases_Bool, cases_lt, and_parts, eqb-true, both_ways, le-leb, lt-leb, cond-true, cond-false}
use Rattle.lexer.specs.Numbers.{number_of, up_to}
use Rattle.lexer.specs.Sets.{has_value, with_value, pieces, gather, is_dash, set_of, Among, Members}
use Rattle.lexer.specs.declared.numbers.NumberFault.{NumberFault}
use Rattle.lexer.specs.declared.numbers.NumberFault.TheVariants.{TooLarge}
use Rattle.lexer.proofs.Bits.{put_here, put_kept, put_cases, none_in}
use Rattle.lexer.proofs.Gathers.{gather_ok, gather_err, gather_none}

number_from : (most v : ℕ) (o : Option ℕ) → up_to most o ≡ Ok v → o ≡ Some v
number_from most v None e = let z : ◌≡◌ {A = ℕ} 0 1 = cc in absurd (omega arith)
number_from most v (Some n) e =
    elim (cases_lt most n) [
      | inl h ↦
          let k : up_to most (Some n) ≡ Err TooLarge = rw (lt-leb n most h) in
          let z : ◌≡◌ {A = ℕ} 0 1 = cc in absurd (omega arith)
      | inr h ↦ let k : up_to most (Some n) ≡ Ok n = rw (le-leb n most h) in cc
    ]

abbrev Gathered : ℕ → ℕ → List (List ℕ) → Type 0
Gathered found s ps = (v : ℕ) → Decides (has_value s v) ((has_value found v ≡ true) ⊎ Among v ps)

step : (piece : List ℕ) (ps : List (List ℕ)) (found s x : ℕ) → number_of piece ≡ Some x → Gathered (with_value found x) s ps → Gathered found s (piece ∷ ps)
step piece ps found s x is rest v = (there, back)
  where
    there : has_value s v ≡ true → (has_value found v ≡ true) ⊎ ((number_of piece ≡ Some v) ⊎ Among v ps)
    there h =
        elim ((rest v).0 h) [
          | inl k ↦ elim (put_cases found x v k) [ inl old ↦ inl old | inr e ↦ inr (inl (rw e is)) ]
          | inr later ↦ inr (inr later)
        ]

    back : (has_value found v ≡ true) ⊎ ((number_of piece ≡ Some v) ⊎ Among v ps) → has_value s v ≡ true
    back (inl old) = (rest v).1 (inl (put_kept found x v old))
    back (inr (inl e)) = let same : x ≡ v = cc in (rest v).1 (inl (subst (λ u. has_value (with_value found x) u ≡ true) same (put_here found x)))
    back (inr (inr later)) = (rest v).1 (inr later)

gathered : (ps : List (List ℕ)) (found s : ℕ) → gather found ps ≡ Ok s → Gathered found s ps
gathered [] found s e v =
    let same : found ≡ s = cc (gather_none found) in
    (λ h. inl (rw same h), λ h. elim h [ inl k ↦ rw (← same) k | inr none ↦ absurd none ])
gathered (piece ∷ ps) found s e v = go (up_to 63 (number_of piece)) refl (λ x. gathered ps (with_value found x) s) v
  where
    go : (r : Result ℕ NumberFault) → up_to 63 (number_of piece) ≡ r
        → ((x : ℕ) → gather (with_value found x) ps ≡ Ok s → Gathered (with_value found x) s ps) → Gathered found s (piece ∷ ps)
    go (Ok x) is rest = step piece ps found s x (number_from 63 x (number_of piece) is) (rest x (sym (gather_ok found x piece ps is) ∙ e))
    go (Err fault) is rest = let bad = gather_err found fault piece ps is in let z : ◌≡◌ {A = ℕ} 0 1 = cc in absurd (omega arith)

dash : (word : List ℕ) → is_dash word ≡ true → word ≡ 45 ∷ []
dash [] e = absurd (both_ways false refl e)
dash (b ∷ []) e = let h = and_parts (eqb (length (b ∷ [])) 1) (eqb b 45) e in rw (eqb-true b 45 h.1)
dash (b ∷ c ∷ bs) e = let h = and_parts (eqb (length (b ∷ c ∷ bs)) 1) (eqb b 45) e in absurd (omega (arith, eqb-true (length (b ∷ c ∷ bs)) 1 h.0))

dash_empty : (v : ℕ) → Among v (pieces (45 ∷ [])) → ⊥
unfolding number_of
dash_empty v (inl e) = let z : ◌≡◌ {A = ℕ} 0 1 = cc in omega arith
dash_empty v (inr none) = none

pub set_members : (word : List ℕ) (r : Result ℕ NumberFault) → r ≡ set_of word → IfOk r (λ s. Members s word)
unfolding set_of
set_members word (Err fault) e = tt
set_members word (Ok s) e = elim (cases_Bool (is_dash word)) [ inl d ↦ empty d | inr d ↦ full d ]
  where
    empty : is_dash word ≡ true → Members s word
    empty d v =
        let zero_set : ◌≡◌ {A = Result ℕ NumberFault} (Ok s) (Ok 0) = e ∙ cond-true (is_dash word) (Ok 0) (gather 0 (pieces word)) d in
        let same : s ≡ 0 = cc in
        (λ h. absurd (none_in v (rw same at h)), λ m. absurd (dash_empty v (rw (dash word d) at m)))

    full : is_dash word ≡ false → Members s word
    full d v =
        let all : gather 0 (pieces word) ≡ Ok s = sym (e ∙ cond-false (is_dash word) (Ok 0) (gather 0 (pieces word)) d) in
        let h = gathered (pieces word) 0 s all v in
        (λ k. elim (h.0 k) [ inl old ↦ absurd (none_in v old) | inr m ↦ m ], λ m. h.1 (inr m))

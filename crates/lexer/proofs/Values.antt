-- The numbers that digits and marks write.
use Rattle.std.proofs.Common.{◌≡◌, ℕ, ◌^◌, ◌<◌, ◌≤◌, Bool, true, false, eqb, ltb, List, [], ◌∷◌, length, get_or, take, drop, Some, None, Ok, Err, Option, Result, sym, refl, ap, ◌∙◌, inl, inr, arith}
use Rattle.std.specs.Char.{digit_value}
use Rattle.std.specs.List.{list_all}
use Rattle.std.specs.Str.{IsUtf8, IsAscii}
use Rattle.std.specs.Str.Parse.{AllDigits, digits_value, without_leading_plus, IsNumeral}
use Rattle.std.specs.Cmp.Lexicographic.{pointwise}
use Rattle.std.proofs.lemmas.Bool.{cases_Bool, cases_lt, and_parts, and_right, ltb-true, le-leb, lt-leb, eqb-true, cond-true, cond-false}
use Rattle.std.proofs.lemmas.List.{get_or_past}
use Rattle.std.proofs.lemmas.Str.{IsUtf8-from_ascii}
use Rattle.std.proofs.lemmas.Str.Ascii.{IsAscii-nil, IsAscii-cons}
use Rattle.lexer.specs.Classes.{one_or_more}
use Rattle.lexer.specs.Numbers.{in_base, is_marked, number_of, up_to}
use Rattle.lexer.specs.declared.numbers.NumberFault.{NumberFault}
use Rattle.lexer.specs.declared.numbers.NumberFault.TheVariants.{TooLarge}

digit_ascii : (c : ℕ) → digit_value c < 36 → c < 128
digit_ascii c h = grind (arith)

module _ (base : ℕ) (high : base ≤ 36) where
  abbrev is_digit : ℕ → Bool
  is_digit d = ltb (digit_value d) base

  digits_all : (ds : List ℕ) → list_all is_digit ds ≡ true → AllDigits base ds
  digits_all [] h = search
  digits_all (d ∷ ds) h = let k = and_parts (is_digit d) (list_all is_digit ds) h in (ltb-true _ _ k.0, digits_all ds k.1)

  digits_ascii : (ds : List ℕ) → AllDigits base ds → IsAscii ds
  digits_ascii [] h = IsAscii-nil
  digits_ascii (d ∷ ds) h = IsAscii-cons d ds (digit_ascii d (omega (arith, h.0))) (digits_ascii ds h.1)

-- digits as the library reads them from a text: none is a sign
module _ (base : ℕ) (high : base ≤ 36) (ds : List ℕ) (numeral : one_or_more (λ d. ltb (digit_value d) base) ds ≡ true) where
  parts : (ltb 0 (length ds) ≡ true) × (list_all (λ d. ltb (digit_value d) base) ds ≡ true)
  parts = and_parts (ltb 0 (length ds)) (list_all (λ d. ltb (digit_value d) base) ds) numeral

  digits : AllDigits base ds
  digits = digits_all base high ds parts.1

  pub digits_text : IsUtf8 ds
  digits_text = IsUtf8-from_ascii ds (digits_ascii base high ds digits)

  read : in_base base ds ≡ Some (digits_value base ds)
  read = rw numeral

  -- no digit is a plus (43)
  unsigned : without_leading_plus ds ≡ ds
  unsigned = first ds (ltb-true 0 (length ds) parts.0) digits
    where
      first : (bs : List ℕ) → 0 < length bs → AllDigits base bs → without_leading_plus bs ≡ bs
      first [] h k = absurd (omega arith)
      first (b ∷ bs) h k = elim (cases_Bool (eqb b 43)) [
        | inl e ↦ absurd (omega (arith, k.0, ap digit_value (eqb-true b 43 e)))
        | inr e ↦ rw e
      ]

  module _ (most : ℕ) (text : List ℕ) (same : text ≡ ds) where
    value_is : digits_value base (without_leading_plus text) ≡ digits_value base ds
    value_is = ap (λ bs. digits_value base (without_leading_plus bs)) same ∙ ap (digits_value base) unsigned

    pub read_fits : (n : ℕ) → n ≡ digits_value base (without_leading_plus text) → n ≤ most → Ok n ≡ up_to most (in_base base ds)
    read_fits n e h = rw (read, ← value_is, ← e, le-leb n most h)

    passes : most < digits_value base ds → Err TooLarge ≡ up_to most (in_base base ds)
    passes h = rw (read, lt-leb (digits_value base ds) most h)

    pub read_passes : (n : ℕ) → n ≡ digits_value base (without_leading_plus text) → most < n → Err TooLarge ≡ up_to most (in_base base ds)
    read_passes n e h = passes (omega (arith, e, value_is))

    pub read_fails : most < 2 ^ 64 → (IsNumeral base (without_leading_plus text) × (digits_value base (without_leading_plus text) < 2 ^ 64) → ⊥)
        → Err TooLarge ≡ up_to most (in_base base ds)
    read_fails h none =
        elim (cases_lt (digits_value base ds) (2 ^ 64)) [
          | inl l ↦
              let is : IsNumeral base (without_leading_plus text) = rw (same, unsigned) (ltb-true 0 (length ds) parts.0, digits) in
              absurd (none (is, omega (arith, value_is)))
          | inr l ↦ passes (omega arith)
        ]

-- the marks of a hexadecimal number, '0' (48) and 'x' (120)
pub mark_is : (word : List ℕ) → pointwise eqb (take 2 word) (48 ∷ 120 ∷ []) ≡ is_marked word
mark_is [] = refl
mark_is (a ∷ []) = elim (cases_Bool (eqb a 48)) [ inl e ↦ rw e | inr e ↦ rw e ]
mark_is (a ∷ b ∷ bs) = elim (cases_Bool (eqb a 48)) [ inl e ↦ rw e (elim (cases_Bool (eqb b 120)) [ inl f ↦ rw f | inr f ↦ rw f ]) | inr e ↦ rw e ]

pub short_unmarked : (word : List ℕ) → length word < 2 → false ≡ is_marked word
short_unmarked word h = sym (and_right (eqb (get_or word 0 0) 48) _ (rw (get_or_past word 1 0 (omega arith))))

pub marked_number : (word : List ℕ) (most : ℕ) (r : Result ℕ NumberFault) → is_marked word ≡ true
    → r ≡ up_to most (in_base 16 (drop 2 word)) → r ≡ up_to most (number_of word)
unfolding number_of
marked_number word most r m e = e ∙ ap (up_to most) (sym (cond-true (is_marked word) (in_base 16 (drop 2 word)) (in_base 10 word) m))

pub plain_number : (word : List ℕ) (most : ℕ) (r : Result ℕ NumberFault) → is_marked word ≡ false → r ≡ up_to most (in_base 10 word)
    → r ≡ up_to most (number_of word)
unfolding number_of
plain_number word most r m e = e ∙ ap (up_to most) (sym (cond-false (is_marked word) (in_base 16 (drop 2 word)) (in_base 10 word) m))

pub up_to_most : (most v : ℕ) (o : Option ℕ) → Ok v ≡ up_to most o → v ≤ most
up_to_most most v None e = let z : ◌≡◌ {A = ℕ} 0 1 = cc in omega arith
up_to_most most v (Some n) e =
    elim (cases_lt most n) [
      | inl h ↦
          let k : up_to most (Some n) ≡ Err TooLarge = rw (lt-leb n most h) in
          let z : ◌≡◌ {A = ℕ} 0 1 = cc in absurd (omega arith)
      | inr h ↦
          let k : up_to most (Some n) ≡ Ok n = rw (le-leb n most h) in
          let same : v ≡ n = cc in omega arith
    ]

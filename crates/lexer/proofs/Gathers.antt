-- The pieces of a set, one after another.
use Rattle.std.proofs.Common.{◌≡◌, ℕ, ◌+◌, ◌<◌, true, false, eqb, List, [], ◌∷◌, length, get_or, drop, Ok, Err, Result, sym, refl, ◌∙◌, inl, inr, add-one, drop-cons, arith}
use Rattle.std.proofs.lemmas.Bool.{cases_Bool, false_from_ne_true, eqb-true, cond-true, cond-false}
use Rattle.std.specs.Cmp.Lexicographic.{pointwise}
use Rattle.lexer.specs.Numbers.{number_of, up_to}
use Rattle.lexer.specs.Sets.{pieces, gather, with_value, is_dash, set_of}
use Rattle.lexer.specs.declared.numbers.NumberFault.{NumberFault}

pub gather_ok : (found v : ℕ) (piece : List ℕ) (more : List (List ℕ)) → up_to 63 (number_of piece) ≡ Ok v
    → gather found (piece ∷ more) ≡ gather (with_value found v) more
unfolding gather
gather_ok found v piece more e = rw (e, gather)

pub gather_err : (found : ℕ) (fault : NumberFault) (piece : List ℕ) (more : List (List ℕ)) → up_to 63 (number_of piece) ≡ Err fault
    → gather found (piece ∷ more) ≡ Err fault
unfolding gather
gather_err found fault piece more e = rw (e, gather)

pub gather_none : (found : ℕ) → gather found [] ≡ Ok found
unfolding gather
gather_none found = refl

-- the piece of number n
module _ (found n : ℕ) (all : List (List ℕ)) (piece : List ℕ) (at : (n < length all) × (piece ≡ get_or all n piece)) where
  turn : drop n all ≡ piece ∷ drop (n + 1) all
  turn = let h : n < length all = at.0 in rw (add-one, drop-cons all n piece, ← at.1)

  pub set_more : (v next : ℕ) → next ≡ with_value found v → Ok v ≡ up_to 63 (number_of piece) → gather next (drop (n + 1) all) ≡ gather found (drop n all)
  set_more v next is e = rw (is, turn) (sym (gather_ok found v piece _ (sym e)))

  pub set_fault : (fault : NumberFault) → Err fault ≡ up_to 63 (number_of piece) → Err fault ≡ gather found (drop n all)
  set_fault fault e = rw turn (sym (gather_err found fault piece _ (sym e)))

-- a test for the word '-' (45)
pub dash_is : (word : List ℕ) → pointwise eqb word (45 ∷ []) ≡ is_dash word
dash_is [] = refl
dash_is (b ∷ []) = elim (cases_Bool (eqb b 45)) [ inl e ↦ rw e | inr e ↦ rw e ]
dash_is (b ∷ c ∷ bs) =
    let long : eqb (length (b ∷ c ∷ bs)) 1 ≡ false = false_from_ne_true _ (λ e. omega (arith, eqb-true (length (b ∷ c ∷ bs)) 1 e)) in
    elim (cases_Bool (eqb b 45)) [ inl e ↦ rw (e, long) | inr e ↦ rw (e, long) ]

-- what the pieces give is what the word writes
pub set_from : (word : List ℕ) (r : Result ℕ NumberFault) → is_dash word ≡ false → r ≡ gather 0 (pieces word) → r ≡ set_of word
unfolding set_of
set_from word r d e = e ∙ sym (cond-false (is_dash word) (Ok 0) (gather 0 (pieces word)) d)

pub set_none : (word : List ℕ) → is_dash word ≡ true → Ok 0 ≡ set_of word
unfolding set_of
set_none word d = sym (cond-true (is_dash word) (Ok 0) (gather 0 (pieces word)) d)

-- How far a text goes before the first byte that passes a test.
use Rattle.std.proofs.Common.{◌≡◌, ℕ, suc, Bool, true, false, eqb, ltb, List, [], ◌∷◌, length, take, drop, refl, inl, inr, one-add, arith}
use lib.Dec.{eqb-suc-suc, eqb-zero-suc}
use Rattle.std.specs.List.{prefix_len, position_or_len, list_all, AllByRecursion}
use Rattle.std.proofs.lemmas.Bool.{cases_Bool, eqb-false, lt-ltb}
use Rattle.lexer.specs.Classes.{one_or_more}

unfoldable pub front : (ℕ → Bool) → List ℕ → ℕ
front p bs = position_or_len p bs

pub front_none : (p : ℕ → Bool) → front p [] ≡ 0
unfolding front
front_none p = refl

pub front_stop : (p : ℕ → Bool) (b : ℕ) (bs : List ℕ) → p b ≡ true → front p (b ∷ bs) ≡ 0
unfolding front
front_stop p b bs e = simp e

pub front_goes : (p : ℕ → Bool) (b : ℕ) (bs : List ℕ) → p b ≡ false → front p (b ∷ bs) ≡ suc (front p bs)
unfolding front
front_goes p b bs e = simp (e, one-add)

-- no byte of the front passes
pub front_passes : (p : ℕ → Bool) (bs : List ℕ) → AllByRecursion (λ b. p b ≡ false) (take (front p bs) bs)
front_passes p [] = rw front_none tt
front_passes p (b ∷ bs) =
    elim (cases_Bool (p b)) [
      | inl e ↦ rw (front_stop p b bs e) tt
      | inr e ↦ rw (front_goes p b bs e) (e, front_passes p bs)
    ]

-- the byte behind the front does
pub front_again : (p : ℕ → Bool) (bs : List ℕ) → front p (drop (front p bs) bs) ≡ 0
front_again p [] = rw (front_none p, front_none p)
front_again p (b ∷ bs) =
    elim (cases_Bool (p b)) [
      | inl e ↦ rw (front_stop p b bs e) (front_stop p b bs e)
      | inr e ↦ rw (front_goes p b bs e) (front_again p bs)
    ]

-- the bytes in front that pass are the whole text where every byte passes
pub front_every : (p : ℕ → Bool) (bs : List ℕ) → eqb (prefix_len p bs) (length bs) ≡ list_all p bs
front_every p [] = refl
front_every p (b ∷ bs) =
    elim (cases_Bool (p b)) [
      | inl e ↦ rw (e, one-add, eqb-suc-suc (prefix_len p bs) (length bs)) (front_every p bs)
      | inr e ↦ rw (e, eqb-zero-suc (length bs))
    ]

pub whole_front : (p : ℕ → Bool) (bs : List ℕ) (n : ℕ) → eqb (length bs) 0 ≡ false → n ≡ prefix_len p bs → eqb n (length bs) ≡ one_or_more p bs
whole_front p bs n some e =
    let h : ltb 0 (length bs) ≡ true = lt-ltb 0 (length bs) (omega (arith, eqb-false _ 0 some)) in rw (h, e) (front_every p bs)

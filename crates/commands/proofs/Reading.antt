-- The values of arguments, one after another.
use Rattle.std.proofs.Common.{◌≡◌, ℕ, ◌+◌, ◌<◌, Bool, true, false, cond, ltb, List, [], ◌∷◌, ◌++◌, length, get_or, drop, Some, None, Ok, Err, Option, Result, sym, refl, ap, ◌∙◌, append_assoc, add-one, drop-cons}
use Rattle.commands.specs.declared.faults.Fault.{Fault}
use Rattle.commands.specs.declared.faults.Fault.TheVariants.{MissingWord, SurplusWord}
use Rattle.commands.specs.declared.verbs.Verb.{Verb}
use Rattle.commands.specs.declared.verbs.Kind.{Kind}
use Rattle.commands.specs.Verbs.{kinds_of}
use Rattle.commands.specs.Values.{value_of, kind_at, in_front, values_from}

-- some values, and then those of a result
abbrev pub behind : List ℕ → Result (List ℕ) Fault → Result (List ℕ) Fault
behind ns (Ok ms) = Ok (ns ++ ms)
behind ns (Err f) = Err f

pub behind_none : (r : Result (List ℕ) Fault) → r ≡ behind [] r
behind_none (Ok ms) = refl
behind_none (Err f) = refl

pub behind_push : (ns : List ℕ) (n : ℕ) (r : Result (List ℕ) Fault) → behind ns (in_front n r) ≡ behind (ns ++ (n ∷ [])) r
behind_push ns n (Ok ms) = ap (λ (l : List ℕ). Ok l) (sym (append_assoc ns (n ∷ []) ms))
behind_push ns n (Err f) = refl

-- the words that are left begin with the word of this number
pub turn : (all : List (List ℕ)) (n : ℕ) (word : List ℕ) → (n < length all) × (word ≡ get_or all n word) → drop n all ≡ word ∷ drop (n + 1) all
turn all n word at = let h : n < length all = at.0 in rw (add-one, drop-cons all n word, ← at.1)

module _ (verb : Verb) (at : ℕ) where
  -- what a further word gives, by its kind and its value
  abbrev by_value : List (List ℕ) → Result ℕ Fault → Result (List ℕ) Fault
  by_value words v = elim v [ Err f ↦ Err f | Ok n ↦ in_front n (values_from verb (at + 1) words) ]

  abbrev by_kind : List ℕ → List (List ℕ) → Option Kind → Result (List ℕ) Fault
  by_kind word words k = elim k [ None ↦ Err SurplusWord | Some kind ↦ by_value words (value_of kind word) ]

  from_cons : (word : List ℕ) (words : List (List ℕ)) → values_from verb at (word ∷ words) ≡ by_kind word words (kind_at verb at)
  unfolding values_from
  from_cons word words = refl

  pub surplus : (all : List (List ℕ)) (word : List ℕ) (words : List (List ℕ)) → all ≡ word ∷ words → None ≡ kind_at verb at → values_from verb at all ≡ Err SurplusWord
  surplus all word words e none = ap (values_from verb at) e ∙ from_cons word words ∙ ap (by_kind word words) (sym none)

  pub faulty : (all : List (List ℕ)) (word : List ℕ) (words : List (List ℕ)) (kind : Kind) (f : Fault) → all ≡ word ∷ words → Some kind ≡ kind_at verb at →
      Err f ≡ value_of kind word → values_from verb at all ≡ Err f
  faulty all word words kind f e some bad = ap (values_from verb at) e ∙ from_cons word words ∙ ap (by_kind word words) (sym some) ∙ ap (by_value words) (sym bad)

  pub further : (all : List (List ℕ)) (word : List ℕ) (words : List (List ℕ)) (kind : Kind) (n : ℕ) → all ≡ word ∷ words → Some kind ≡ kind_at verb at →
      Ok n ≡ value_of kind word → values_from verb at all ≡ in_front n (values_from verb (at + 1) words)
  further all word words kind n e some good = ap (values_from verb at) e ∙ from_cons word words ∙ ap (by_kind word words) (sym some) ∙ ap (by_value words) (sym good)

  from_none : values_from verb at [] ≡ cond (ltb at (length (kinds_of verb))) (Err MissingWord) (Ok [])
  unfolding values_from
  from_none = refl

  pub missing : (all : List (List ℕ)) → all ≡ [] → ltb at (length (kinds_of verb)) ≡ true → values_from verb at all ≡ Err MissingWord
  missing all e short = ap (values_from verb at) e ∙ from_none ∙ ap (λ (b : Bool). cond b (Err MissingWord) (Ok [])) short

  pub whole : (all : List (List ℕ)) → all ≡ [] → ltb at (length (kinds_of verb)) ≡ false → values_from verb at all ≡ Ok []
  whole all e long = ap (values_from verb at) e ∙ from_none ∙ ap (λ (b : Bool). cond b (Err MissingWord) (Ok [])) long

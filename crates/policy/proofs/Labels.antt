-- The list of a clause, one value after the other; and which number a word is.
use Rattle.std.proofs.Common.{◌≡◌, ℕ, zero, suc, ◌+◌, ◌*◌, ◌/◌, ◌%◌, ◌^◌, ◌<◌, ◌≤◌, Bool, true, false, cond, ◌||◌, eqb, leb, [], ◌∷◌, ◌++◌, Some, None, Option, sym, refl, ap, ◌∙◌, subst, append_assoc, append-nil, one-mul, arith, lit<}
use native.Mathlib.Nat.{pow-le-pow_right}
use lib.Bits.{bit_or}
use lib.Pow.{low}
use Rattle.std.proofs.lemmas.Bool.{eqb-true, eqb-false, eq-eqb, lt-ltb, leb-false, and_parts, and_from, or_parts, cond_both}
use Rattle.policy.specs.declared.label.Label.{Label}
use Rattle.lattice.specs.declared.sizes.Sizes.{Sizes}
use Rattle.policy.specs.declared.clause.Kind.TheVariants.{Allow, Deny}
use Rattle.refusals.specs.declared.refusal.Reason.TheVariants.{BadValue, NotRising}
use Rattle.policy.specs.declared.word.Word.{Word}
use Rattle.policy.specs.declared.word.Word.TheVariants.{Head, Value, Except, End}
use Rattle.policy.specs.Decode.{word_of, value, value_word_of, plain}
use Rattle.policy.specs.Words.{ALLOW, DENY, EXCEPT, END, value_word, values_below, list_words, in_range, list_in_range, size_of, value_fault, Small}
use Rattle.policy.specs.Walk.{listed, empty}
use Rattle.policy.proofs.Values.{values_push, values_none, or_pow, pow_suc_two, mod_low}

-- which number a word is
abbrev pub Encodes : ℕ → Word → Type 0
Encodes w (Head Allow) = w ≡ ALLOW
Encodes w (Head Deny) = w ≡ DENY
Encodes w (Value v) = w ≡ value_word v.attribute v.code
Encodes w Except = w ≡ EXCEPT
Encodes w End = w ≡ END

-- a number that is read as a word spells it
abbrev EncodesSome : ℕ → Option Word → Type 0
EncodesSome w None = Unit {0}
EncodesSome w (Some x) = Encodes w x

plain_encodes : (w : ℕ) (x : Word) → (w % 2 ^ 28 ≡ 0 → Encodes w x) → EncodesSome w (plain w x)
plain_encodes w x f = cond_both (eqb (w % 2 ^ 28) 0) (Some x) None (λ y. EncodesSome w y) (λ e. f (eqb-true _ _ e)) (λ e. tt)

value_encodes : (w : ℕ) → w / 2 ^ 28 ≡ 3 → EncodesSome w (value_word_of w)
value_encodes w h =
    cond_both (eqb ((w / 2 ^ 8) % 2 ^ 16) 0) (Some (value ((w / 2 ^ 24) % 2 ^ 4) (w % 2 ^ 8))) None (λ y. EncodesSome w y)
    (λ e. let z : (w / 2 ^ 8) % 2 ^ 16 ≡ 0 = eqb-true _ _ e in omega arith) (λ e. tt)

encodes_some : (w : ℕ) → EncodesSome w (word_of w)
encodes_some w =
    let q = w / 2 ^ 28 in
    let P : Option Word → Type 0 = λ y. EncodesSome w y in
    cond_both (eqb q 1) _ _ P (λ e. let h : q ≡ 1 = eqb-true _ _ e in plain_encodes w (Head Allow) (λ g. omega arith))
    (λ _. cond_both (eqb q 2) _ _ P (λ e. let h : q ≡ 2 = eqb-true _ _ e in plain_encodes w (Head Deny) (λ g. omega arith))
    (λ _. cond_both (eqb q 3) _ _ P (λ e. let h : q ≡ 3 = eqb-true _ _ e in value_encodes w h)
    (λ _. cond_both (eqb q 4) _ _ P (λ e. let h : q ≡ 4 = eqb-true _ _ e in plain_encodes w Except (λ g. omega arith))
    (λ _. cond_both (eqb q 5) _ _ P (λ e. let h : q ≡ 5 = eqb-true _ _ e in plain_encodes w End (λ g. omega arith)) (λ _. tt)))))

pub encodes : (w : ℕ) (x : Word) → word_of w ≡ Some x → Encodes w x
encodes w x e = subst (EncodesSome w) e (encodes_some w)

-- every value of the set s of attribute b is at or below `last`
abbrev pub Under : ℕ → ℕ → ℕ → Type 0
Under last b s = (n : ℕ) → last < b * 256 + n → s < 2 ^ n

pub record UnderAll (last : ℕ) (l : Label) : Type 0 where
  pub store : Under last 0 l.store
  pub purpose : Under last 1 l.purpose
  pub role : Under last 2 l.role
  pub types : Under last 3 l.types

pow_mono : (m n : ℕ) → m ≤ n → 2 ^ m ≤ 2 ^ n
pow_mono m n h = pow-le-pow_right (lit< tt) h

pub push_below : (s c n : ℕ) → s < 2 ^ c → c < n → bit_or s (2 ^ c) < 2 ^ n
push_below s c n h k = let e = or_pow s c h in let u = pow_suc_two c in let m = pow_mono (suc c) n k in omega arith

under_push : (a c s : ℕ) → s < 2 ^ c → Under (a * 256 + c) a (bit_or s (2 ^ c))
under_push a c s h n k = push_below s c n h (omega arith)

under_keep : (last last' b s : ℕ) → last ≤ last' → Under last b s → Under last' b s
under_keep last last' b s h u n k = u n (omega arith)

pub range_push : (n s c : ℕ) → in_range n s ≡ true → s < 2 ^ c → 1 ≤ c → c < n → in_range n (bit_or s (2 ^ c)) ≡ true
range_push n s c r h lo hi =
    let p = and_parts _ _ r in
    let even : s % 2 ≡ 0 = eqb-true _ _ p.1 in
    let one : bit_or s (2 ^ c) ≡ 1 * 2 ^ c + s = or_pow s c h ∙ ap (λ k. k + s) (sym (one-mul (2 ^ c))) in
    let m : bit_or s (2 ^ c) % 2 ^ c ≡ s = ap (λ k. k % 2 ^ c) one ∙ low 1 c h in
    let e : bit_or s (2 ^ c) % 2 ^ 1 ≡ s % 2 ^ 1 = sym (mod_low (bit_or s (2 ^ c)) c 1 lo) ∙ ap (λ k. k % 2 ^ 1) m in
    and_from _ _ (lt-ltb _ _ (push_below s c n h hi)) (eq-eqb _ _ (e ∙ even))

-- what a value without a fault tells
pub record SoundValue (z : Sizes) (last a c : ℕ) : Type 0 where
  pub attribute : a < 4
  pub low : 1 ≤ c
  pub high : c < size_of z a
  pub rises : last < a * 256 + c

pub sound_value : (z : Sizes) (last a c : ℕ) → value_fault z last a c ≡ None → SoundValue z last a c
sound_value z last a c e = by (leb 4 a || (eqb c 0 || leb (size_of z a) c)) (leb (a * 256 + c) last) refl refl e
  where
    by : (p q : Bool) → (leb 4 a || (eqb c 0 || leb (size_of z a) c)) ≡ p → leb (a * 256 + c) last ≡ q → cond p (Some BadValue) (cond q (Some NotRising) None) ≡ None → SoundValue z last a c
    by true q ep eq e = absurd (let z : ◌≡◌ {A = ℕ} 0 1 = cc in omega arith)
    by false true ep eq e = absurd (let z : ◌≡◌ {A = ℕ} 0 1 = cc in omega arith)
    by false false ep eq e =
        let one = or_parts _ _ ep in
        let two = or_parts _ _ one.1 in
        record { attribute = leb-false 4 a one.0; low = (let ne = eqb-false c 0 two.0 in omega arith); high = leb-false _ _ two.1; rises = leb-false _ _ eq }

pub record Pushed (z : Sizes) (a c : ℕ) (l : Label) : Type 0 where
  pub ranged : list_in_range z (listed a c l) ≡ true
  pub under : UnderAll (a * 256 + c) (listed a c l)
  pub words : list_words (listed a c l) ≡ list_words l ++ (value_word a c ∷ [])

-- the parts of a list in range
pub ranges : (z : Sizes) (l : Label) → list_in_range z l ≡ true
    → ((in_range z.store l.store ≡ true) × (in_range z.purpose l.purpose ≡ true)) × ((in_range z.role l.role ≡ true) × (in_range z.types l.types ≡ true))
ranges z l e = let p = and_parts _ _ e in (and_parts _ _ p.0, and_parts _ _ p.1)

empty_by : (a s : ℕ) → s < 2 ^ 0 → values_below a s 64 ≡ []
empty_by a s h = let e : s ≡ 0 = omega arith in ap (λ k. values_below a k 64) e ∙ values_none a 64

pub pushed : (z : Sizes) → Small z → (last a c : ℕ) (l : Label) → SoundValue z last a c → list_in_range z l ≡ true → UnderAll last l → Pushed z a c l
pushed z small last zero c l v r u =
    let rs = ranges z l r in
    let hi : c < z.store = v.high in
    let lt : l.store < 2 ^ c = u.store c v.rises in
    let e₁ = empty_by 1 l.purpose (u.purpose 0 (omega (arith, v.rises))) in
    let e₂ = empty_by 2 l.role (u.role 0 (omega (arith, v.rises))) in
    let e₃ = empty_by 3 l.types (u.types 0 (omega (arith, v.rises))) in
    let push = values_push 0 l.store c lt (omega arith) in
    record {
      ranged = and_from _ _ (and_from _ _ (range_push _ _ c rs.0.0 lt v.low hi) rs.0.1) (and_from _ _ rs.1.0 rs.1.1);
      under = record { store = under_push 0 c _ lt; purpose = under_keep last _ 1 _ (omega (arith, v.rises)) u.purpose; role = under_keep last _ 2 _ (omega (arith, v.rises)) u.role; types = under_keep last _ 3 _ (omega (arith, v.rises)) u.types };
      words = simp (push, e₁, e₂, e₃, append-nil);
    }
pushed z small last (suc zero) c l v r u =
    let rs = ranges z l r in
    let hi : c < z.purpose = v.high in
    let lt : l.purpose < 2 ^ c = u.purpose c v.rises in
    let e₂ = empty_by 2 l.role (u.role 0 (omega (arith, v.rises))) in
    let e₃ = empty_by 3 l.types (u.types 0 (omega (arith, v.rises))) in
    let push = values_push 1 l.purpose c lt (omega arith) in
    record {
      ranged = and_from _ _ (and_from _ _ rs.0.0 (range_push _ _ c rs.0.1 lt v.low hi)) (and_from _ _ rs.1.0 rs.1.1);
      under = record { store = under_keep last _ 0 _ (omega (arith, v.rises)) u.store; purpose = under_push 1 c _ lt; role = under_keep last _ 2 _ (omega (arith, v.rises)) u.role; types = under_keep last _ 3 _ (omega (arith, v.rises)) u.types };
      words = simp (push, e₂, e₃, append-nil, append_assoc);
    }
pushed z small last (suc (suc zero)) c l v r u =
    let rs = ranges z l r in
    let hi : c < z.role = v.high in
    let lt : l.role < 2 ^ c = u.role c v.rises in
    let e₃ = empty_by 3 l.types (u.types 0 (omega (arith, v.rises))) in
    let push = values_push 2 l.role c lt (omega arith) in
    record {
      ranged = and_from _ _ (and_from _ _ rs.0.0 rs.0.1) (and_from _ _ (range_push _ _ c rs.1.0 lt v.low hi) rs.1.1);
      under = record { store = under_keep last _ 0 _ (omega (arith, v.rises)) u.store; purpose = under_keep last _ 1 _ (omega (arith, v.rises)) u.purpose; role = under_push 2 c _ lt; types = under_keep last _ 3 _ (omega (arith, v.rises)) u.types };
      words = simp (push, e₃, append-nil, append_assoc);
    }
pushed z small last (suc (suc (suc zero))) c l v r u =
    let rs = ranges z l r in
    let hi : c < z.types = v.high in
    let lt : l.types < 2 ^ c = u.types c v.rises in
    let push = values_push 3 l.types c lt (omega arith) in
    record {
      ranged = and_from _ _ (and_from _ _ rs.0.0 rs.0.1) (and_from _ _ rs.1.0 (range_push _ _ c rs.1.1 lt v.low hi));
      under = record { store = under_keep last _ 0 _ (omega (arith, v.rises)) u.store; purpose = under_keep last _ 1 _ (omega (arith, v.rises)) u.purpose; role = under_keep last _ 2 _ (omega (arith, v.rises)) u.role; types = under_push 3 c _ lt };
      words = simp (push, append_assoc);
    }
pushed z small last (suc (suc (suc (suc a)))) c l v r u = absurd (omega (arith, v.attribute))

pub list_empty : list_words empty ≡ []
list_empty = simp (values_none 0 64, values_none 1 64, values_none 2 64, values_none 3 64)

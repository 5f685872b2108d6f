-- The words of a policy are read without a fault, and make that policy's clause.
use Rattle.std.proofs.Common.{◌≡◌, ℕ, zero, suc, ◌+◌, ◌-◌, ◌*◌, ◌/◌, ◌%◌, ◌^◌, ◌<◌, ◌≤◌, Bool, true, false, cond, ◌||◌, eqb, leb, ◌⊎◌, List, [], ◌∷◌, ◌++◌, length, Some, None, Option, Ok, Err, sym, refl, ap, ◌∙◌, subst, inl, inr, append_assoc, append-nil, mod-eq_of_lt, arith, lit<}
use native.Mathlib.Nat.{pow-le-pow_right}
use lib.Bits.{bit_or}
use Rattle.std.proofs.lemmas.Bool.{eqb-true, eq-eqb, ne_eqb, ltb-true, lt-leb, and_parts, or_from, cases_lt}
use Rattle.policy.specs.declared.label.Label.{Label}
use Rattle.lattice.specs.declared.sizes.Sizes.{Sizes}
use Rattle.policy.specs.declared.clause.Kind.{Kind}
use Rattle.policy.specs.declared.clause.Kind.TheVariants.{Allow, Deny}
use Rattle.policy.specs.declared.draft.Phase.{Phase}
use Rattle.policy.specs.declared.draft.Phase.TheVariants.{Listing, Excepting, Excepted}
use Rattle.refusals.specs.declared.refusal.Reason.TheVariants.{MisplacedWord, BadValue, NotRising, SameKind, TooNested}
use Rattle.policy.specs.declared.word.Word.{Word}
use Rattle.policy.specs.declared.word.Word.TheVariants.{Head, Except, End}
use Rattle.lattice.specs.Sets.{has}
use Rattle.policy.specs.Clauses.{Clause, Clauses, allow, deny, none, more, clause_count, clauses_count}
use Rattle.policy.specs.Decode.{value, word_of}
use Rattle.policy.specs.Words.{Frame, Reading, fault, fault_in, head_fault, value_fault, same_kind, size_of, advanced, ended, opened, values_below, value_word, list_words, in_range, list_in_range, spelled, spelled_exceptions, spelled_rest, EXCEPT, END, well_formed, depth, depths, Small}
use Rattle.policy.specs.Walk.{walk, listed, empty}
use Rattle.policy.specs.Records.{clause_of}
use Rattle.policy.proofs.Values.{has_high, bit_on, low_on, low_off}
use Rattle.policy.proofs.Labels.{ranges}
use Rattle.policy.proofs.Trees.{count_pos}
use Rattle.policy.proofs.Grown.{Node, snoc, shut, grown, checked_on, walk_on}
use Rattle.policy.proofs.Sound.{HEAD, other, others, Waits}

-- the word of a value says that value
pub decode_value : (a n : ℕ) → a < 4 → n < 64 → word_of (value_word a n) ≡ Some (value a n)
decode_value a n ha hn =
    let w = value_word a n in
    let q : w / 2 ^ 28 ≡ 3 = omega arith in
    let m : (w / 2 ^ 8) % 2 ^ 16 ≡ 0 = omega arith in
    let ea : (w / 2 ^ 24) % 2 ^ 4 ≡ a = omega arith in
    let en : w % 2 ^ 8 ≡ n = omega arith in
    let P : Word → Option Word = λ x. cond (eqb (w % 2 ^ 28) 0) (Some x) None in
    let V : ℕ → ℕ → Option Word = λ q m. cond (eqb q 1) (P (Head Allow)) (cond (eqb q 2) (P (Head Deny)) (cond (eqb q 3) (cond (eqb m 0) (Some (value ((w / 2 ^ 24) % 2 ^ 4) (w % 2 ^ 8))) None) (cond (eqb q 4) (P Except) (cond (eqb q 5) (P End) None)))) in
    ap (λ q. V q ((w / 2 ^ 8) % 2 ^ 16)) q ∙ ap (λ m. V 3 m) m ∙ ap (λ b. Some (value b (w % 2 ^ 8))) ea ∙ ap (λ n. Some (value a n)) en

-- the label with v as its set of attribute a
abbrev pub put : ℕ → ℕ → Label → Label
put a v l =
    cond (eqb a 0) (record { store = v; purpose = l.purpose; role = l.role; types = l.types })
    (cond (eqb a 1) (record { store = l.store; purpose = v; role = l.role; types = l.types })
    (cond (eqb a 2) (record { store = l.store; purpose = l.purpose; role = v; types = l.types })
    (record { store = l.store; purpose = l.purpose; role = l.role; types = v })))

inserted_put : (a n v : ℕ) (l : Label) → a < 4 → listed a n (put a v l) ≡ put a (bit_or v (2 ^ n)) l
inserted_put zero n v l h = refl
inserted_put (suc zero) n v l h = refl
inserted_put (suc (suc zero)) n v l h = refl
inserted_put (suc (suc (suc zero))) n v l h = refl
inserted_put (suc (suc (suc (suc a)))) n v l h = absurd (omega arith)

abbrev pub top : Kind → Phase → ℕ → Frame
top k p t = record { kind = k; phase = p; last = t }

abbrev pub reads : List Frame → ℕ → Reading
reads fs heads = record { open_clauses = fs; heads = heads }

abbrev pub node : Label → Clauses → Node
node l es = record { list = l; exceptions = es }

abbrev pub join : Clauses → Clauses → Clauses
join none es = es
join (more x xs) es = more x (join xs es)

join_none : (xs : Clauses) → join xs none ≡ xs
join_none none = refl
join_none (more x xs) = ap (more x) (join_none xs)

join_snoc : (xs : Clauses) (e : Clause) (es : Clauses) → join (snoc xs e) es ≡ join xs (more e es)
join_snoc none e es = refl
join_snoc (more x xs) e es = ap (more x) (join_snoc xs e es)

module _ (z : Sizes) (small : Small z) where
  -- the words lead from one state to another
  abbrev pub Leads : Reading → List Node → List ℕ → Reading → List Node → List ℕ → Type 0
  Leads r ys ws s xs us = (i : ℕ) → (j : ℕ) × (walk grown z r ys i ws ≡ walk grown z s xs j us)

  stays : (r : Reading) (ys : List Node) (ws : List ℕ) → Leads r ys ws r ys ws
  stays r ys ws i = (i, refl)

  then : (r s t : Reading) (ys xs vs : List Node) (ws us ts : List ℕ) → Leads r ys ws s xs us → Leads s xs us t vs ts → Leads r ys ws t vs ts
  then r s t ys xs vs ws us ts p q i = let a = p i in let b = q a.0 in (b.0, a.1 ∙ b.1)

  one : (r : Reading) (ys : List Node) (w : ℕ) (ws : List ℕ) (v : Word) → word_of w ≡ Some v → fault z r v ≡ None → Leads r ys (w ∷ ws) (advanced r v) (grown r v ys) ws
  one r ys w ws v e f i = (i + 1, walk_on grown z r ys i w ws v (checked_on (word_of w) (fault z r) v e f))

  size_small : (a : ℕ) → size_of z a ≤ 64
  size_small a = cond_le (eqb a 0) z.store _ small.0.0 (cond_le (eqb a 1) z.purpose _ small.0.1 (cond_le (eqb a 2) z.role z.types small.1.0 small.1.1))
    where
      cond_le : (b : Bool) (x y : ℕ) → x ≤ 64 → y ≤ 64 → cond b x y ≤ 64
      cond_le true x y p q = p
      cond_le false x y p q = q

  -- a value of a set in range
  value_in : (n s v : ℕ) → in_range n s ≡ true → has s v ≡ true → (1 ≤ v) × (v < n)
  value_in n s v r h =
      let p = and_parts _ _ r in
      let lt : s < 2 ^ n = ltb-true _ _ p.0 in
      let even : s % 2 ≡ 0 = eqb-true _ _ p.1 in
      (low v h even, high (cases_lt v n) lt)
    where
      low : (v : ℕ) → has s v ≡ true → s % 2 ≡ 0 → 1 ≤ v
      low zero h e = absurd (let b : (s / 1) % 2 ≡ 1 = bit_on s 0 h in omega arith)
      low (suc v) h e = omega arith

      high : (v < n) ⊎ (n ≤ v) → s < 2 ^ n → v < n
      high (inl q) lt = q
      high (inr q) lt =
          let up : 2 ^ n ≤ 2 ^ v = pow-le-pow_right (lit< tt) q in
          let lt' : s < 2 ^ v = omega arith in
          let off = has_high s v lt' in
          absurd (let z : ◌≡◌ {A = ℕ} 0 1 = (let t : true ≡ false = sym h ∙ off in ap (λ b. cond b 0 1) t) in omega arith)

  clean_value : (last a c : ℕ) → a < 4 → 1 ≤ c → c < size_of z a → last < a * 256 + c → value_fault z last a c ≡ None
  clean_value last a c ha lo hi up =
      let p : (leb 4 a || (eqb c 0 || leb (size_of z a) c)) ≡ false = or_from _ _ (lt-leb 4 a ha) (or_from _ _ (ne_eqb c 0 (λ e. omega arith)) (lt-leb _ _ hi)) in
      let q : leb (a * 256 + c) last ≡ false = lt-leb _ _ up in
      ap (λ b. cond b (Some BadValue) (cond (leb (a * 256 + c) last) (Some NotRising) None)) p ∙ ap (λ b. cond b (Some NotRising) None) q

  module _ (k : Kind) (fs : List Frame) (heads : ℕ) (es : Clauses) (ys : List Node) where
    abbrev Valued : ℕ → ℕ → ℕ → ℕ → Label → List ℕ → Type 0
    Valued a s n t l rest =
        (t' : ℕ) × (t' ≤ a * 256 + (n - 1)) × Leads (reads (top k Listing t ∷ fs) heads) (node (put a 0 l) es ∷ ys) (values_below a s n ++ rest) (reads (top k Listing t' ∷ fs) heads) (node (put a (s % 2 ^ n) l) es ∷ ys) rest

    value_lead : (a : ℕ) → a < 4 → (s : ℕ) → in_range (size_of z a) s ≡ true → (t : ℕ) (l : Label) (n : ℕ) (rest : List ℕ) → suc n ≤ 64 → ((rest : List ℕ) → Valued a s n t l rest) → (b : Bool) → has s n ≡ b → Valued a s (suc n) t l rest
    unfolding values_below
    value_lead a ha s r t l n rest hn before true h =
        let ih = before (value_word a n ∷ rest) in
        let t' = ih.0 in
        let v = value_in (size_of z a) s n r h in
        let words : values_below a s n ++ (value_word a n ∷ rest) ≡ (values_below a s n ++ cond (has s n) (value_word a n ∷ []) []) ++ rest =
        sym (append_assoc (values_below a s n) (value_word a n ∷ []) rest) ∙ ap (λ b. (values_below a s n ++ cond b (value_word a n ∷ []) []) ++ rest) (sym h) in
        let clean = clean_value t' a n ha v.0 v.1 (let b = ih.1 in let c = v.0 in omega arith) in
        let step = one (reads (top k Listing t' ∷ fs) heads) (node (put a (s % 2 ^ n) l) es ∷ ys) (value_word a n) rest (value a n) (decode_value a n ha (omega arith)) clean in
        let made : listed a n (put a (s % 2 ^ n) l) ≡ put a (s % 2 ^ suc n) l = inserted_put a n (s % 2 ^ n) l ha ∙ ap (λ v. put a v l) (low_on s n h) in
        let all = then (reads (top k Listing t ∷ fs) heads) (reads (top k Listing t' ∷ fs) heads) (reads (top k Listing (a * 256 + n) ∷ fs) heads)
        (node (put a 0 l) es ∷ ys) (node (put a (s % 2 ^ n) l) es ∷ ys) (node (listed a n (put a (s % 2 ^ n) l)) es ∷ ys)
        (values_below a s n ++ (value_word a n ∷ rest)) (value_word a n ∷ rest) rest ih.2 step in
        let all₁ = subst (λ x. Leads (reads (top k Listing t ∷ fs) heads) (node (put a 0 l) es ∷ ys) (values_below a s n ++ (value_word a n ∷ rest)) (reads (top k Listing (a * 256 + n) ∷ fs) heads) (node x es ∷ ys) rest) made all in (
          a * 256 + n,
          omega arith,
          subst (λ ws. Leads (reads (top k Listing t ∷ fs) heads) (node (put a 0 l) es ∷ ys) ws (reads (top k Listing (a * 256 + n) ∷ fs) heads) (node (put a (s % 2 ^ suc n) l) es ∷ ys) rest) words all₁,
        )
    value_lead a ha s r t l n rest hn before false h =
        let ih = before rest in
        let t' = ih.0 in
        let words : values_below a s n ++ rest ≡ (values_below a s n ++ cond (has s n) (value_word a n ∷ []) []) ++ rest =
        ap (λ xs. xs ++ rest) (sym (append-nil (values_below a s n)) ∙ ap (λ b. values_below a s n ++ cond b (value_word a n ∷ []) []) (sym h)) in
        let all₁ = subst (λ v. Leads (reads (top k Listing t ∷ fs) heads) (node (put a 0 l) es ∷ ys) (values_below a s n ++ rest) (reads (top k Listing t' ∷ fs) heads) (node (put a v l) es ∷ ys) rest) (sym (low_off s n h)) ih.2 in (
          t',
          let b = ih.1 in omega arith,
          subst (λ ws. Leads (reads (top k Listing t ∷ fs) heads) (node (put a 0 l) es ∷ ys) ws (reads (top k Listing t' ∷ fs) heads) (node (put a (s % 2 ^ suc n) l) es ∷ ys) rest) words all₁,
        )

    values_lead : (a : ℕ) → a < 4 → (s : ℕ) → in_range (size_of z a) s ≡ true → (t : ℕ) → t ≤ a * 256 → (l : Label) (n : ℕ) (rest : List ℕ) → n ≤ 64 → Valued a s n t l rest
    unfolding values_below
    values_lead a ha s r t ht l zero rest hn =
        let e : 0 ≡ s % 2 ^ 0 = omega arith in
        (t, omega arith, subst (λ v. Leads (reads (top k Listing t ∷ fs) heads) (node (put a 0 l) es ∷ ys) rest (reads (top k Listing t ∷ fs) heads) (node (put a v l) es ∷ ys) rest) e (stays (reads (top k Listing t ∷ fs) heads) (node (put a 0 l) es ∷ ys) rest))
    values_lead a ha s r t ht l (suc n) rest hn = value_lead a ha s r t l n rest hn (λ us. values_lead a ha s r t ht l n us (omega arith)) (has s n) refl

    whole : (n s : ℕ) → n ≤ 64 → in_range n s ≡ true → s % 2 ^ 64 ≡ s
    whole n s h r =
        let lt : s < 2 ^ n = ltb-true _ _ (and_parts _ _ r).0 in
        let up : 2 ^ n ≤ 2 ^ 64 = pow-le-pow_right (lit< tt) h in
        mod-eq_of_lt (let q : s < 2 ^ 64 = omega arith in q)

    abbrev Listed : Label → List ℕ → Type 0
    Listed l rest = (t : ℕ) × Leads (reads (top k Listing 0 ∷ fs) heads) (node empty es ∷ ys) (list_words l ++ rest) (reads (top k Listing t ∷ fs) heads) (node l es ∷ ys) rest

    list_lead : (l : Label) → list_in_range z l ≡ true → (rest : List ℕ) → Listed l rest
    list_lead l r rest =
        let rs = ranges z l r in
        let m₀ = l.store % 2 ^ 64 in
        let m₁ = l.purpose % 2 ^ 64 in
        let m₂ = l.role % 2 ^ 64 in
        let m₃ = l.types % 2 ^ 64 in
        let l₀ : Label = record { store = m₀; purpose = 0; role = 0; types = 0 } in
        let l₁ : Label = record { store = m₀; purpose = m₁; role = 0; types = 0 } in
        let l₂ : Label = record { store = m₀; purpose = m₁; role = m₂; types = 0 } in
        let l₃ : Label = record { store = m₀; purpose = m₁; role = m₂; types = m₃ } in
        let w₃ : List ℕ = values_below 3 l.types 64 ++ rest in
        let w₂ : List ℕ = values_below 2 l.role 64 ++ w₃ in
        let w₁ : List ℕ = values_below 1 l.purpose 64 ++ w₂ in
        let w₀ : List ℕ = values_below 0 l.store 64 ++ w₁ in
        let a₀ = values_lead 0 (lit< tt) l.store rs.0.0 0 (omega arith) empty 64 w₁ (omega arith) in
        let a₁ = values_lead 1 (lit< tt) l.purpose rs.0.1 a₀.0 (let b = a₀.1 in omega arith) l₀ 64 w₂ (omega arith) in
        let a₂ = values_lead 2 (lit< tt) l.role rs.1.0 a₁.0 (let b = a₁.1 in omega arith) l₁ 64 w₃ (omega arith) in
        let a₃ = values_lead 3 (lit< tt) l.types rs.1.1 a₂.0 (let b = a₂.1 in omega arith) l₂ 64 rest (omega arith) in
        let S : ℕ → Reading = λ t. reads (top k Listing t ∷ fs) heads in
        let N : Label → List Node = λ l. node l es ∷ ys in
        let p₁ = then (S 0) (S a₀.0) (S a₁.0) (N empty) (N l₀) (N l₁) w₀ w₁ w₂ a₀.2 a₁.2 in
        let p₂ = then (S 0) (S a₁.0) (S a₂.0) (N empty) (N l₁) (N l₂) w₀ w₂ w₃ p₁ a₂.2 in
        let p₃ = then (S 0) (S a₂.0) (S a₃.0) (N empty) (N l₂) (N l₃) w₀ w₃ rest p₂ a₃.2 in
        let e₀ : m₀ ≡ l.store = whole z.store l.store small.0.0 rs.0.0 in
        let e₁ : m₁ ≡ l.purpose = whole z.purpose l.purpose small.0.1 rs.0.1 in
        let e₂ : m₂ ≡ l.role = whole z.role l.role small.1.0 rs.1.0 in
        let e₃ : m₃ ≡ l.types = whole z.types l.types small.1.1 rs.1.1 in
        let made : l₃ ≡ l = λ i. record { store = e₀ i; purpose = e₁ i; role = e₂ i; types = e₃ i } in
        let words : w₀ ≡ list_words l ++ rest = sym (simp append_assoc) in (
          a₃.0,
          subst (λ ws. Leads (S 0) (N empty) ws (S a₃.0) (N l) rest) words (subst (λ x. Leads (S 0) (N empty) w₀ (S a₃.0) (N x) rest) made p₃),
        )

  -- a head may stand here
  abbrev pub Enters : Kind → List Frame → ℕ → Type 0
  Enters k [] heads = heads ≡ 0
  Enters k (f ∷ fs) heads = (k ≡ other f.kind) × Waits f.phase

  apart : (k h : Kind) → h ≡ other k → same_kind k h ≡ false
  apart Allow Allow e = absurd (let z : ◌≡◌ {A = ℕ} 0 1 = cc in omega arith)
  apart Allow Deny e = refl
  apart Deny Allow e = refl
  apart Deny Deny e = absurd (let z : ◌≡◌ {A = ℕ} 0 1 = cc in omega arith)

  clean_inner : (n heads : ℕ) (k h : Kind) → h ≡ other k → n < 16 → heads < 256 → head_fault n heads k h ≡ None
  clean_inner n heads k h e d f =
      let p : (leb 16 n || leb 256 heads) ≡ false = or_from _ _ (lt-leb 16 n d) (lt-leb 256 heads f) in
      ap (λ b. cond b (Some SameKind) (cond (leb 16 n || leb 256 heads) (Some TooNested) None)) (apart k h e) ∙ ap (λ b. cond b (Some TooNested) None) p

  clean_head : (k : Kind) (fs : List Frame) (heads : ℕ) → Enters k fs heads → length fs < 16 → heads < 256 → fault z (reads fs heads) (Head k) ≡ None
  clean_head k [] heads e d f = ap (λ b. cond b None (Some MisplacedWord)) (eq-eqb heads 0 e)
  clean_head k (f ∷ fs) heads (e, wait) d few = by f.phase wait
    where
      by : (p : Phase) → Waits p → fault_in z (suc (length fs)) heads f.kind f.last p (Head k) ≡ None
      by Listing w = absurd w
      by Excepting w = clean_inner (suc (length fs)) heads f.kind k e d few
      by Excepted w = clean_inner (suc (length fs)) heads f.kind k e d few

  abbrev kind_of : Clause → Kind
  kind_of (allow l es) = Allow
  kind_of (deny l es) = Deny

  others_parts : (k : Kind) (e : Clause) (es : Clauses) → others z k (more e es) ≡ true → (kind_of e ≡ other k) × (well_formed z e ≡ true) × (others z k es ≡ true)
  others_parts Allow (allow l ds) es h = absurd (let z : ◌≡◌ {A = ℕ} 0 1 = cc in omega arith)
  others_parts Allow (deny l ds) es h = let p = and_parts _ _ h in (refl, p.0, p.1)
  others_parts Deny (allow l ds) es h = let p = and_parts _ _ h in (refl, p.0, p.1)
  others_parts Deny (deny l ds) es h = absurd (let z : ◌≡◌ {A = ℕ} 0 1 = cc in omega arith)

  abbrev Whole : Clause → Type 0
  Whole c = (fs : List Frame) (heads : ℕ) (y : Node) (ys : List Node) (rest : List ℕ) → Enters (kind_of c) fs heads → length fs + depth c ≤ 16 → heads + clause_count c ≤ 256 → well_formed z c ≡ true
      → Leads (reads fs heads) (y ∷ ys) (spelled c ++ rest) (reads (ended fs) (heads + clause_count c)) (node y.list (snoc y.exceptions c) ∷ ys) rest

  abbrev Ending : Clauses → Type 0
  Ending es = (k : Kind) (fs : List Frame) (heads t : ℕ) (l : Label) (ys : List Node) (rest : List ℕ) → suc (length fs) + depths es ≤ 16 → heads + clauses_count es ≤ 256 → others z k es ≡ true
      → Leads (reads (top k Listing t ∷ fs) heads) (node l none ∷ ys) (spelled_exceptions es ++ (END ∷ rest)) (reads (ended fs) (heads + clauses_count es)) (shut k (node l es ∷ ys)) rest

  abbrev Following : Clauses → Type 0
  Following es = (k : Kind) (fs : List Frame) (heads t : ℕ) (l : Label) (xs : Clauses) (ys : List Node) (rest : List ℕ) → suc (length fs) + depths es ≤ 16 → heads + clauses_count es ≤ 256 → others z k es ≡ true
      → Leads (reads (top k Excepted t ∷ fs) heads) (node l xs ∷ ys) (spelled_rest es ++ rest) (reads (top k Excepted t ∷ fs) (heads + clauses_count es)) (node l (join xs es) ∷ ys) rest

  head_word : (k : Kind) → word_of (HEAD k) ≡ Some (Head k)
  head_word Allow = refl
  head_word Deny = refl

  clause_lead : (k : Kind) (l : Label) (es : Clauses) → Ending es → (fs : List Frame) (heads : ℕ) (y : Node) (ys : List Node) (rest : List ℕ) → Enters k fs heads → length fs + (1 + depths es) ≤ 16 → heads + (1 + clauses_count es) ≤ 256
      → list_in_range z l ≡ true → others z k es ≡ true
      → Leads (reads fs heads) (y ∷ ys) (HEAD k ∷ ((list_words l ++ (spelled_exceptions es ++ (END ∷ []))) ++ rest)) (reads (ended fs) (heads + (1 + clauses_count es))) (node y.list (snoc y.exceptions (clause_of k l es)) ∷ ys) rest
  clause_lead k l es ending fs heads y ys rest enters deep few r o =
      let w₂ : List ℕ = spelled_exceptions es ++ (END ∷ rest) in
      let w₁ : List ℕ = list_words l ++ w₂ in
      let words : w₁ ≡ (list_words l ++ (spelled_exceptions es ++ (END ∷ []))) ++ rest = sym (simp append_assoc) in
      let p₀ = one (reads fs heads) (y ∷ ys) (HEAD k) w₁ (Head k) (head_word k) (clean_head k fs heads enters (omega arith) (omega arith)) in
      let p₁ = list_lead k fs (heads + 1) none (y ∷ ys) l r w₂ in
      let p₂ = ending k fs (heads + 1) p₁.0 l (y ∷ ys) rest (omega arith) (omega arith) o in
      let q₁ = then (reads fs heads) (reads (opened k ∷ fs) (heads + 1)) (reads (top k Listing p₁.0 ∷ fs) (heads + 1)) (y ∷ ys) (node empty none ∷ y ∷ ys) (node l none ∷ y ∷ ys) (HEAD k ∷ w₁) w₁ w₂ p₀ p₁.1 in
      let q₂ = then (reads fs heads) (reads (top k Listing p₁.0 ∷ fs) (heads + 1)) (reads (ended fs) (heads + 1 + clauses_count es)) (y ∷ ys) (node l none ∷ y ∷ ys) (shut k (node l es ∷ y ∷ ys)) (HEAD k ∷ w₁) w₂ rest q₁ p₂ in
      let n : heads + 1 + clauses_count es ≡ heads + (1 + clauses_count es) = omega arith in
      let q₃ = subst (λ m. Leads (reads fs heads) (y ∷ ys) (HEAD k ∷ w₁) (reads (ended fs) m) (shut k (node l es ∷ y ∷ ys)) rest) n q₂ in
      subst (λ ws. Leads (reads fs heads) (y ∷ ys) (HEAD k ∷ ws) (reads (ended fs) (heads + (1 + clauses_count es))) (shut k (node l es ∷ y ∷ ys)) rest) words q₃

  ending_none : Ending none
  ending_none k fs heads t l ys rest d few o =
      let p = one (reads (top k Listing t ∷ fs) heads) (node l none ∷ ys) END rest End refl refl in
      let n : heads ≡ heads + 0 = omega arith in
      subst (λ m. Leads (reads (top k Listing t ∷ fs) heads) (node l none ∷ ys) (END ∷ rest) (reads (ended fs) m) (shut k (node l none ∷ ys)) rest) n p

  ending_more : (e : Clause) (es : Clauses) → Whole e → Following es → Ending (more e es)
  ending_more e es first following k fs heads t l ys rest d few o =
      let op = others_parts k e es o in
      let w₂ : List ℕ = END ∷ rest in
      let w₁ : List ℕ = spelled_rest es ++ w₂ in
      let w₀ : List ℕ = spelled e ++ w₁ in
      let words : w₀ ≡ (spelled e ++ spelled_rest es) ++ w₂ = sym (append_assoc (spelled e) (spelled_rest es) w₂) in
      let S : Phase → ℕ → Reading = λ p h. reads (top k p t ∷ fs) h in
      let p₀ = one (S Listing heads) (node l none ∷ ys) EXCEPT w₀ Except refl refl in
      let p₁ = first (top k Excepting t ∷ fs) heads (node l none) ys w₁ (op.0, tt) (let z : suc (length fs) + depth e ≤ 16 = omega arith in z) (omega arith) op.1 in
      let p₂ = following k fs (heads + clause_count e) t l (more e none) ys w₂ (omega arith) (omega arith) op.2 in
      let p₃ = one (S Excepted (heads + clause_count e + clauses_count es)) (node l (more e es) ∷ ys) END rest End refl refl in
      let q₁ = then (S Listing heads) (S Excepting heads) (S Excepted (heads + clause_count e)) (node l none ∷ ys) (node l none ∷ ys) (node l (more e none) ∷ ys) (EXCEPT ∷ w₀) w₀ w₁ p₀ p₁ in
      let q₂ = then (S Listing heads) (S Excepted (heads + clause_count e)) (S Excepted (heads + clause_count e + clauses_count es)) (node l none ∷ ys) (node l (more e none) ∷ ys) (node l (more e es) ∷ ys) (EXCEPT ∷ w₀) w₁ w₂ q₁ p₂ in
      let q₃ = then (S Listing heads) (S Excepted (heads + clause_count e + clauses_count es)) (reads (ended fs) (heads + clause_count e + clauses_count es)) (node l none ∷ ys) (node l (more e es) ∷ ys) (shut k (node l (more e es) ∷ ys)) (EXCEPT ∷ w₀) w₂ rest q₂ p₃ in
      let n : heads + clause_count e + clauses_count es ≡ heads + (clause_count e + clauses_count es) = omega arith in
      let q₄ = subst (λ m. Leads (S Listing heads) (node l none ∷ ys) (EXCEPT ∷ w₀) (reads (ended fs) m) (shut k (node l (more e es) ∷ ys)) rest) n q₃ in
      subst (λ ws. Leads (S Listing heads) (node l none ∷ ys) (EXCEPT ∷ ws) (reads (ended fs) (heads + (clause_count e + clauses_count es))) (shut k (node l (more e es) ∷ ys)) rest) words q₄

  following_none : Following none
  following_none k fs heads t l xs ys rest d few o =
      let n : heads ≡ heads + 0 = omega arith in
      let p = stays (reads (top k Excepted t ∷ fs) heads) (node l xs ∷ ys) rest in
      let q = subst (λ m. Leads (reads (top k Excepted t ∷ fs) heads) (node l xs ∷ ys) rest (reads (top k Excepted t ∷ fs) m) (node l xs ∷ ys) rest) n p in
      subst (λ cs. Leads (reads (top k Excepted t ∷ fs) heads) (node l xs ∷ ys) rest (reads (top k Excepted t ∷ fs) (heads + 0)) (node l cs ∷ ys) rest) (sym (join_none xs)) q

  following_more : (e : Clause) (es : Clauses) → Whole e → Following es → Following (more e es)
  following_more e es first following k fs heads t l xs ys rest d few o =
      let op = others_parts k e es o in
      let w₁ : List ℕ = spelled_rest es ++ rest in
      let w₀ : List ℕ = spelled e ++ w₁ in
      let words : w₀ ≡ (spelled e ++ spelled_rest es) ++ rest = sym (append_assoc (spelled e) (spelled_rest es) rest) in
      let S : ℕ → Reading = λ h. reads (top k Excepted t ∷ fs) h in
      let p₁ = first (top k Excepted t ∷ fs) heads (node l xs) ys w₁ (op.0, tt) (let z : suc (length fs) + depth e ≤ 16 = omega arith in z) (omega arith) op.1 in
      let p₂ = following k fs (heads + clause_count e) t l (snoc xs e) ys rest (omega arith) (omega arith) op.2 in
      let q₁ = then (S heads) (S (heads + clause_count e)) (S (heads + clause_count e + clauses_count es)) (node l xs ∷ ys) (node l (snoc xs e) ∷ ys) (node l (join (snoc xs e) es) ∷ ys) w₀ w₁ rest p₁ p₂ in
      let n : heads + clause_count e + clauses_count es ≡ heads + (clause_count e + clauses_count es) = omega arith in
      let q₂ = subst (λ m. Leads (S heads) (node l xs ∷ ys) w₀ (S m) (node l (join (snoc xs e) es) ∷ ys) rest) n q₁ in
      let q₃ = subst (λ cs. Leads (S heads) (node l xs ∷ ys) w₀ (S (heads + (clause_count e + clauses_count es))) (node l cs ∷ ys) rest) (join_snoc xs e es) q₂ in
      subst (λ ws. Leads (S heads) (node l xs ∷ ys) ws (S (heads + (clause_count e + clauses_count es))) (node l (join xs (more e es)) ∷ ys) rest) words q₃

  mutual
    pub leads : (c : Clause) → Whole c
    leads (allow l es) fs heads y ys rest enters deep few w = let p = and_parts _ _ w in clause_lead Allow l es (endings es) fs heads y ys rest enters deep few p.0 p.1
    leads (deny l es) fs heads y ys rest enters deep few w = let p = and_parts _ _ w in clause_lead Deny l es (endings es) fs heads y ys rest enters deep few p.0 p.1

    endings : (es : Clauses) → Ending es
    endings none = ending_none
    endings (more e es) = ending_more e es (leads e) (followings es)

    followings : (es : Clauses) → Following es
    followings none = following_none
    followings (more e es) = following_more e es (leads e) (followings es)

  -- the words of a policy make its clause
  pub complete : (c : Clause) → well_formed z c ≡ true → depth c ≤ 16 → clause_count c ≤ 256
      → walk grown z (reads [] 0) (node empty none ∷ []) 0 (spelled c) ≡ Ok (node empty (more c none) ∷ [])
  unfolding walk
  complete c w d n =
      let p = leads c [] 0 (node empty none) [] [] refl (omega arith) (omega arith) w 0 in
      let m : 0 + clause_count c ≡ clause_count c = omega arith in
      let ne : clause_count c ≡ 0 → ⊥ = λ e. omega (arith, count_pos c) in
      ap (λ ws. walk grown z (reads [] 0) (node empty none ∷ []) 0 ws) (sym (append-nil (spelled c))) ∙ p.1
      ∙ ap (λ h. cond (eqb h 0) (Err (record { reason = MisplacedWord; place = p.0 })) (Ok (node empty (more c none) ∷ []))) m
      ∙ ap (λ b. cond b (Err (record { reason = MisplacedWord; place = p.0 })) (Ok (node empty (more c none) ∷ []))) (ne_eqb (clause_count c) 0 ne)

-- Words that are read without a fault spell a policy: the invariant of the reading.
use Rattle.std.proofs.Common.{◌≡◌, ℕ, suc, ◌+◌, ◌*◌, ◌<◌, ◌≤◌, max, Bool, true, false, cond, ◌||◌, eqb, leb, List, [], ◌∷◌, ◌++◌, length, Some, None, Ok, Err, Option, Result, sym, refl, ap, ◌∙◌, subst, append_assoc, append-nil, arith}
use Rattle.std.proofs.lemmas.Bool.{eqb-true, eq-eqb, ne_eqb, lt-ltb, leb-false, and_parts, and_from, or_parts}
use Rattle.std.proofs.lemmas.Nat.{pow_pos}
use Rattle.policy.specs.declared.label.Label.{Label}
use Rattle.lattice.specs.declared.sizes.Sizes.{Sizes}
use Rattle.policy.specs.declared.clause.Kind.{Kind}
use Rattle.policy.specs.declared.clause.Kind.TheVariants.{Allow, Deny}
use Rattle.policy.specs.declared.draft.Phase.{Phase}
use Rattle.policy.specs.declared.draft.Phase.TheVariants.{Listing, Excepting, Excepted}
use Rattle.refusals.specs.declared.refusal.Reason.{Reason}
use Rattle.refusals.specs.declared.refusal.Reason.TheVariants.{MisplacedWord, SameKind, TooNested}
use Rattle.refusals.specs.declared.refusal.Refusal.{Refusal}
use Rattle.policy.specs.declared.word.Word.{Word}
use Rattle.policy.specs.declared.word.Word.TheVariants.{Head, Value, Except, End}
use Rattle.policy.specs.Clauses.{Clause, Clauses, allow, deny, none, more, clause_count, clauses_count}
use Rattle.policy.specs.Decode.{word_of}
use Rattle.policy.specs.Words.{Frame, Reading, fault, admitted, fault_in, fault_outside, head_fault, value_fault, same_kind, advanced, ended, opened, list_words, in_range, list_in_range, spelled, spelled_exceptions, spelled_rest, ALLOW, DENY, EXCEPT, END, value_word, well_formed, all_deny, all_allow, depth, depths, Small}
use Rattle.policy.specs.Walk.{walk, listed, empty}
use Rattle.policy.specs.Records.{clause_of}
use Rattle.policy.proofs.Labels.{Encodes, encodes, UnderAll, pushed, sound_value, list_empty}
use Rattle.policy.proofs.Trees.{count_pos}
use Rattle.policy.proofs.Grown.{Node, snoc, shut, grown, checked_parts, walk_on, walk_stop}

abbrev pub HEAD : Kind → ℕ
HEAD Allow = ALLOW
HEAD Deny = DENY

abbrev pub other : Kind → Kind
other Allow = Deny
other Deny = Allow

-- the exceptions of a clause of kind k are well-formed
abbrev pub others : Sizes → Kind → Clauses → Bool
others z Allow es = all_deny z es
others z Deny es = all_allow z es

-- a clause within n others
abbrev pub GoodClause : Sizes → ℕ → Clause → Type 0
GoodClause z n c = (well_formed z c ≡ true) × (n + depth c ≤ 16)

-- what is read of the exceptions in each phase
abbrev pub part : Phase → Clauses → List ℕ
part Listing es = []
part Excepting es = EXCEPT ∷ []
part Excepted es = spelled_exceptions es

abbrev pub Part : Phase → Clauses → Type 0
Part Listing es = es ≡ none
Part Excepting es = es ≡ none
Part Excepted none = ⊥
Part Excepted (more e es) = Unit {0}

abbrev pub Waits : Phase → Type 0
Waits Listing = ⊥
Waits Excepting = Unit {0}
Waits Excepted = Unit {0}

pub record GoodFrame (z : Sizes) (n : ℕ) (f : Frame) (y : Node) : Type 0 where
  pub ranged : list_in_range z y.list ≡ true
  pub under : UnderAll f.last y.list
  pub parts : Part f.phase y.exceptions
  pub well : others z f.kind y.exceptions ≡ true
  pub deep : n + depths y.exceptions ≤ 16

abbrev pub GoodUnder : Sizes → Kind → List Frame → List Node → Type 0
GoodUnder z k [] [] = ⊥
GoodUnder z k [] (y ∷ []) = y.exceptions ≡ none
GoodUnder z k [] (y ∷ x ∷ ys) = ⊥
GoodUnder z k (f ∷ fs) [] = ⊥
GoodUnder z k (f ∷ fs) (y ∷ ys) = GoodFrame z (suc (length fs)) f y × (k ≡ other f.kind) × Waits f.phase × GoodUnder z f.kind fs ys

abbrev pub Outside : Sizes → Clauses → Type 0
Outside z none = Unit {0}
Outside z (more c none) = GoodClause z 0 c
Outside z (more c (more d es)) = ⊥

abbrev pub Good : Sizes → List Frame → List Node → Type 0
Good z [] [] = ⊥
Good z [] (y ∷ []) = Outside z y.exceptions
Good z [] (y ∷ x ∷ ys) = ⊥
Good z (f ∷ fs) [] = ⊥
Good z (f ∷ fs) (y ∷ ys) = GoodFrame z (suc (length fs)) f y × GoodUnder z f.kind fs ys

abbrev pub count_open : List Frame → List Node → ℕ
count_open [] [] = 0
count_open [] (y ∷ ys) = clauses_count y.exceptions
count_open (f ∷ fs) [] = 0
count_open (f ∷ fs) (y ∷ ys) = count_open fs ys + (1 + clauses_count y.exceptions)

abbrev pub spelled_open : List Frame → List Node → List ℕ
spelled_open [] [] = []
spelled_open [] (y ∷ ys) = spelled_rest y.exceptions
spelled_open (f ∷ fs) [] = []
spelled_open (f ∷ fs) (y ∷ ys) = spelled_open fs ys ++ (HEAD f.kind ∷ (list_words y.list ++ part f.phase y.exceptions))

-- one more exception
spelled_snoc : (es : Clauses) (c : Clause) → spelled_rest (snoc es c) ≡ spelled_rest es ++ spelled c
spelled_snoc none c = append-nil (spelled c)
spelled_snoc (more e es) c = ap (λ xs. spelled e ++ xs) (spelled_snoc es c) ∙ sym (append_assoc (spelled e) (spelled_rest es) (spelled c))

part_snoc : (p : Phase) (es : Clauses) (c : Clause) → Waits p → Part p es → part Excepted (snoc es c) ≡ part p es ++ spelled c
part_snoc Listing es c w h = absurd w
part_snoc Excepting none c w h = ap (λ xs. EXCEPT ∷ xs) (append-nil (spelled c))
part_snoc Excepting (more e es) c w h = absurd (let z : ◌≡◌ {A = ℕ} 0 1 = cc in omega arith)
part_snoc Excepted none c w h = absurd h
part_snoc Excepted (more e es) c w h = ap (λ xs. EXCEPT ∷ xs) (ap (λ xs. spelled e ++ xs) (spelled_snoc es c) ∙ sym (append_assoc (spelled e) (spelled_rest es) (spelled c)))

pub count_snoc : (es : Clauses) (c : Clause) → clauses_count (snoc es c) ≡ clauses_count es + clause_count c
count_snoc none c = omega arith
count_snoc (more e es) c = omega (arith, count_snoc es c)

depths_snoc : (es : Clauses) (c : Clause) → depths (snoc es c) ≤ max (depths es) (depth c)
depths_snoc none c = omega arith
depths_snoc (more e es) c = omega (arith, depths_snoc es c)

allow_snoc : (z : Sizes) (es : Clauses) (l : Label) (ds : Clauses) → all_allow z es ≡ true → well_formed z (allow l ds) ≡ true → all_allow z (snoc es (allow l ds)) ≡ true
allow_snoc z none l ds h w = and_from _ _ w refl
allow_snoc z (more e es) l ds h w = let p = and_parts _ _ h in and_from _ _ p.0 (allow_snoc z es l ds p.1 w)

deny_snoc : (z : Sizes) (es : Clauses) (l : Label) (ds : Clauses) → all_deny z es ≡ true → well_formed z (deny l ds) ≡ true → all_deny z (snoc es (deny l ds)) ≡ true
deny_snoc z none l ds h w = and_from _ _ w refl
deny_snoc z (more e es) l ds h w = let p = and_parts _ _ h in and_from _ _ p.0 (deny_snoc z es l ds p.1 w)

others_snoc : (z : Sizes) (k : Kind) (es : Clauses) (l : Label) (ds : Clauses) → others z k es ≡ true → well_formed z (clause_of (other k) l ds) ≡ true → others z k (snoc es (clause_of (other k) l ds)) ≡ true
others_snoc z Allow es l ds h w = deny_snoc z es l ds h w
others_snoc z Deny es l ds h w = allow_snoc z es l ds h w

well_of : (z : Sizes) (k : Kind) (l : Label) (es : Clauses) → list_in_range z l ≡ true → others z k es ≡ true → well_formed z (clause_of k l es) ≡ true
well_of z Allow l es r o = and_from _ _ r o
well_of z Deny l es r o = and_from _ _ r o

depth_of : (k : Kind) (l : Label) (es : Clauses) → depth (clause_of k l es) ≡ 1 + depths es
depth_of Allow l es = refl
depth_of Deny l es = refl

pub count_of : (k : Kind) (l : Label) (es : Clauses) → clause_count (clause_of k l es) ≡ 1 + clauses_count es
count_of Allow l es = refl
count_of Deny l es = refl

spelled_of : (k : Kind) (l : Label) (es : Clauses) → spelled (clause_of k l es) ≡ HEAD k ∷ (list_words l ++ (spelled_exceptions es ++ (END ∷ [])))
spelled_of Allow l es = refl
spelled_of Deny l es = refl

-- the state after one more word
pub record Next (z : Sizes) (fs gs : List Frame) (ys xs : List Node) (heads heads' w : ℕ) : Type 0 where
  pub good : Good z gs xs
  pub count : heads' ≡ count_open gs xs
  pub few : heads' ≤ 256
  pub words : spelled_open gs xs ≡ spelled_open fs ys ++ (w ∷ [])

-- a head that is no fault
pub record SoundHead (n heads : ℕ) (k h : Kind) : Type 0 where
  pub kind : h ≡ other k
  pub deep : n < 16
  pub few : heads < 256

kind_other : (k h : Kind) → same_kind k h ≡ false → h ≡ other k
kind_other Allow Allow e = absurd (let z : ◌≡◌ {A = ℕ} 0 1 = cc in omega arith)
kind_other Allow Deny e = refl
kind_other Deny Allow e = refl
kind_other Deny Deny e = absurd (let z : ◌≡◌ {A = ℕ} 0 1 = cc in omega arith)

pub sound_head : (n heads : ℕ) (k h : Kind) → head_fault n heads k h ≡ None → SoundHead n heads k h
sound_head n heads k h e = by (same_kind k h) (leb 16 n || leb 256 heads) refl refl e
  where
    by : (p q : Bool) → same_kind k h ≡ p → (leb 16 n || leb 256 heads) ≡ q → cond p (Some SameKind) (cond q (Some TooNested) None) ≡ None → SoundHead n heads k h
    by true q ep eq e = absurd (let z : ◌≡◌ {A = ℕ} 0 1 = cc in omega arith)
    by false true ep eq e = absurd (let z : ◌≡◌ {A = ℕ} 0 1 = cc in omega arith)
    by false false ep eq e = let p = or_parts _ _ eq in record { kind = kind_other k h ep; deep = leb-false _ _ p.0; few = leb-false _ _ p.1 }

new_frame : (z : Sizes) (n : ℕ) (k : Kind) → n ≤ 16 → list_in_range z empty ≡ true → GoodFrame z n (opened k) (record { list = empty; exceptions = none })
new_frame z n Allow h r = record { ranged = r; under = record { store = λ m _. pow_pos m; purpose = λ m _. pow_pos m; role = λ m _. pow_pos m; types = λ m _. pow_pos m }; parts = refl; well = refl; deep = omega arith }
new_frame z n Deny h r = record { ranged = r; under = record { store = λ m _. pow_pos m; purpose = λ m _. pow_pos m; role = λ m _. pow_pos m; types = λ m _. pow_pos m }; parts = refl; well = refl; deep = omega arith }

empty_in_range : (z : Sizes) → list_in_range z empty ≡ true
empty_in_range z = let p : (n : ℕ) → in_range n 0 ≡ true = λ n. and_from _ _ (lt-ltb _ _ (pow_pos n)) refl in and_from _ _ (and_from _ _ (p z.store) (p z.purpose)) (and_from _ _ (p z.role) (p z.types))

head_words : (k : Kind) (xs : List ℕ) → HEAD k ∷ (list_words empty ++ []) ≡ HEAD k ∷ []
head_words k xs = ap (λ ys. HEAD k ∷ ys) (append-nil (list_words empty) ∙ list_empty)

head_encoded : (w : ℕ) (k : Kind) → Encodes w (Head k) → w ≡ HEAD k
head_encoded w Allow e = e
head_encoded w Deny e = e

module _ (z : Sizes) (small : Small z) (w : ℕ) where
  -- the first head
  outside_head : (h : ℕ) (k : Kind) (y : Node) (es : Clauses) → y.exceptions ≡ es → Outside z es → h ≡ clauses_count es → fault_outside h (Head k) ≡ None → w ≡ HEAD k
      → Next z [] (opened k ∷ []) (y ∷ []) (record { list = empty; exceptions = none } ∷ y ∷ []) h (h + 1) w
  outside_head h k y none ey g c e ew =
      record {
        good = (new_frame z 1 k (omega arith) (empty_in_range z), ey);
        count = omega (arith, ap clauses_count ey);
        few = omega arith;
        words = ap (λ xs. spelled_rest y.exceptions ++ xs) (head_words k [] ∙ ap (λ v. v ∷ []) (sym ew));
      }
  outside_head h k y (more d ds) ey g c e ew = absurd (by (eqb h 0) refl e)
    where
      by : (b : Bool) → eqb h 0 ≡ b → cond b None (Some MisplacedWord) ≡ None → ⊥
      by true eb q = let zero_h = eqb-true _ _ eb in omega (arith, count_pos d)
      by false eb q = let z : ◌≡◌ {A = ℕ} 0 1 = cc in omega arith

  module _ (f : Frame) (fs : List Frame) (y : Node) (ys : List Node) (heads : ℕ) (g : GoodFrame z (suc (length fs)) f y) (u : GoodUnder z f.kind fs ys) (n : heads ≡ count_open (f ∷ fs) (y ∷ ys)) (few : heads ≤ 256) where
    inner_head : (k : Kind) → Waits f.phase → head_fault (suc (length fs)) heads f.kind k ≡ None → w ≡ HEAD k
        → Next z (f ∷ fs) (opened k ∷ f ∷ fs) (y ∷ ys) (record { list = empty; exceptions = none } ∷ y ∷ ys) heads (heads + 1) w
    inner_head k wait e ew =
        let s = sound_head (suc (length fs)) heads f.kind k e in
        record {
          good = (new_frame z (suc (suc (length fs))) k s.deep (empty_in_range z), (g, s.kind, wait, u));
          count = omega arith;
          few = omega (arith, s.few);
          words = ap (λ xs. spelled_open (f ∷ fs) (y ∷ ys) ++ xs) (head_words k [] ∙ ap (λ v. v ∷ []) (sym ew));
        }

  -- the words of the top clause, one longer
  longer : (fs : List Frame) (ys : List Node) (h : ℕ) (xs us : List ℕ) → (spelled_open fs ys ++ (h ∷ xs)) ++ us ≡ spelled_open fs ys ++ (h ∷ (xs ++ us))
  longer fs ys h xs us = append_assoc (spelled_open fs ys) (h ∷ xs) us

  abbrev top : Kind → Phase → ℕ → Frame
  top k p t = record { kind = k; phase = p; last = t }

  value_step : (k : Kind) (t a c : ℕ) (fs : List Frame) (y : Node) (ys : List Node) (heads : ℕ) → GoodFrame z (suc (length fs)) (top k Listing t) y → GoodUnder z k fs ys → heads ≡ count_open (top k Listing t ∷ fs) (y ∷ ys) → heads ≤ 256
      → value_fault z t a c ≡ None → w ≡ value_word a c
      → Next z (top k Listing t ∷ fs) (top k Listing (a * 256 + c) ∷ fs) (y ∷ ys) (record { list = listed a c y.list; exceptions = y.exceptions } ∷ ys) heads heads w
  value_step k t a c fs y ys heads g u n few e ew =
      let p = pushed z small t a c y.list (sound_value z t a c e) g.ranged g.under in
      record {
        good = (record { ranged = p.ranged; under = p.under; parts = g.parts; well = g.well; deep = g.deep }, u);
        count = n;
        few = few;
        words =
            ap (λ xs. spelled_open fs ys ++ (HEAD k ∷ xs)) (append-nil (list_words (listed a c y.list)) ∙ p.words ∙ ap (λ v. list_words y.list ++ (v ∷ [])) (sym ew) ∙ ap (λ xs. xs ++ (w ∷ [])) (sym (append-nil (list_words y.list))))
            ∙ sym (longer fs ys (HEAD k) (list_words y.list ++ []) (w ∷ []));
      }

  except_step : (k : Kind) (t : ℕ) (fs : List Frame) (y : Node) (ys : List Node) (heads : ℕ) → GoodFrame z (suc (length fs)) (top k Listing t) y → GoodUnder z k fs ys → heads ≡ count_open (top k Listing t ∷ fs) (y ∷ ys) → heads ≤ 256
      → w ≡ EXCEPT
      → Next z (top k Listing t ∷ fs) (top k Excepting t ∷ fs) (y ∷ ys) (y ∷ ys) heads heads w
  except_step k t fs y ys heads g u n few ew =
      record {
        good = (record { ranged = g.ranged; under = g.under; parts = g.parts; well = g.well; deep = g.deep }, u);
        count = n;
        few = few;
        words =
            ap (λ xs. spelled_open fs ys ++ (HEAD k ∷ xs)) (ap (λ v. list_words y.list ++ (v ∷ [])) (sym ew) ∙ ap (λ xs. xs ++ (w ∷ [])) (sym (append-nil (list_words y.list))))
            ∙ sym (longer fs ys (HEAD k) (list_words y.list ++ []) (w ∷ []));
      }

  -- the words of a clause that ends
  ending : (k : Kind) (p : Phase) (l : Label) (es : Clauses) → part p es ≡ spelled_exceptions es → w ≡ END → HEAD k ∷ ((list_words l ++ part p es) ++ (w ∷ [])) ≡ spelled (clause_of k l es)
  ending k p l es e ew =
      ap (λ xs. HEAD k ∷ ((list_words l ++ xs) ++ (w ∷ []))) e
      ∙ ap (λ v. HEAD k ∷ ((list_words l ++ spelled_exceptions es) ++ (v ∷ []))) ew
      ∙ ap (λ xs. HEAD k ∷ xs) (append_assoc (list_words l) (spelled_exceptions es) (END ∷ []))
      ∙ sym (spelled_of k l es)

  outside_one : (es : Clauses) (c : Clause) → es ≡ none → GoodClause z 0 c → Outside z (snoc es c)
  outside_one none c e g = g
  outside_one (more d ds) c e g = absurd (let z : ◌≡◌ {A = ℕ} 0 1 = cc in omega arith)

  end_step : (k : Kind) (p : Phase) (t : ℕ) (fs : List Frame) (y : Node) (ys : List Node) (heads : ℕ) → GoodFrame z (suc (length fs)) (top k p t) y → GoodUnder z k fs ys → heads ≡ count_open (top k p t ∷ fs) (y ∷ ys) → heads ≤ 256
      → part p y.exceptions ≡ spelled_exceptions y.exceptions → w ≡ END
      → Next z (top k p t ∷ fs) (ended fs) (y ∷ ys) (shut k (y ∷ ys)) heads heads w
  end_step k p t [] y [] heads g u n few e ew = absurd u
  end_step k p t [] y (x ∷ []) heads g u n few e ew =
      let c = clause_of k y.list y.exceptions in
      record {
        good = outside_one x.exceptions c u (well_of z k y.list y.exceptions g.ranged g.well, omega (arith, depth_of k y.list y.exceptions, g.deep));
        count = omega (arith, count_snoc x.exceptions c, count_of k y.list y.exceptions);
        few = few;
        words = spelled_snoc x.exceptions c ∙ ap (λ xs. spelled_rest x.exceptions ++ xs) (sym (ending k p y.list y.exceptions e ew)) ∙ sym (longer [] (x ∷ []) (HEAD k) (list_words y.list ++ part p y.exceptions) (w ∷ []));
      }
  end_step k p t [] y (x ∷ x' ∷ ys) heads g u n few e ew = absurd u
  end_step k p t (f ∷ fs) y [] heads g u n few e ew = absurd u
  end_step k p t (f ∷ fs) y (x ∷ ys) heads g (gx, ek, wait, under) n few e ew =
      let c = clause_of k y.list y.exceptions in
      let well : well_formed z c ≡ true = well_of z k y.list y.exceptions g.ranged g.well in
      let many : others z f.kind (snoc x.exceptions c) ≡ true =
      subst (λ j. well_formed z (clause_of j y.list y.exceptions) ≡ true → others z f.kind (snoc x.exceptions (clause_of j y.list y.exceptions)) ≡ true) (sym ek)
      (others_snoc z f.kind x.exceptions y.list y.exceptions gx.well) well in
      record {
        good = (record { ranged = gx.ranged; under = gx.under; parts = some x.exceptions c; well = many; deep = omega (arith, depths_snoc x.exceptions c, depth_of k y.list y.exceptions, g.deep, gx.deep) }, under);
        count = omega (arith, count_snoc x.exceptions c, count_of k y.list y.exceptions);
        few = few;
        words =
            ap (λ xs. spelled_open fs ys ++ (HEAD f.kind ∷ (list_words x.list ++ xs))) (part_snoc f.phase x.exceptions c wait gx.parts)
            ∙ ap (λ xs. spelled_open fs ys ++ (HEAD f.kind ∷ xs)) (sym (append_assoc (list_words x.list) (part f.phase x.exceptions) (spelled c)))
            ∙ sym (longer fs ys (HEAD f.kind) (list_words x.list ++ part f.phase x.exceptions) (spelled c))
            ∙ ap (λ xs. spelled_open (f ∷ fs) (x ∷ ys) ++ xs) (sym (ending k p y.list y.exceptions e ew))
            ∙ sym (longer (f ∷ fs) (x ∷ ys) (HEAD k) (list_words y.list ++ part p y.exceptions) (w ∷ []));
      }
    where
      some : (es : Clauses) (c : Clause) → Part Excepted (snoc es c)
      some none c = tt
      some (more d ds) c = tt

  listing_part : (es : Clauses) → es ≡ none → part Listing es ≡ spelled_exceptions es
  listing_part es e = ap spelled_exceptions (sym e)

  impossible : {r : Reason} → ◌≡◌ {A = Option Reason} (Some r) None → ⊥
  impossible e = let z : ◌≡◌ {A = ℕ} 0 1 = cc in omega arith

  abbrev Stepped : List Frame → ℕ → List Node → Word → Type 0
  Stepped fs heads ys v = Next z fs (advanced (record { open_clauses = fs; heads = heads }) v).open_clauses ys (grown (record { open_clauses = fs; heads = heads }) v ys) heads (advanced (record { open_clauses = fs; heads = heads }) v).heads w

  top_step : (k : Kind) (p : Phase) (t : ℕ) (fs : List Frame) (y : Node) (ys : List Node) (heads : ℕ) → GoodFrame z (suc (length fs)) (top k p t) y → GoodUnder z k fs ys → heads ≡ count_open (top k p t ∷ fs) (y ∷ ys) → heads ≤ 256
      → (v : Word) → Encodes w v → fault_in z (suc (length fs)) heads k t p v ≡ None → Stepped (top k p t ∷ fs) heads (y ∷ ys) v
  top_step k Listing t fs y ys heads g u n few (Head j) ew e = absurd (impossible e)
  top_step k Listing t fs y ys heads g u n few (Value v) ew e = value_step k t v.attribute v.code fs y ys heads g u n few e ew
  top_step k Listing t fs y ys heads g u n few Except ew e = except_step k t fs y ys heads g u n few ew
  top_step k Listing t fs y ys heads g u n few End ew e = end_step k Listing t fs y ys heads g u n few (listing_part y.exceptions g.parts) ew
  top_step k Excepting t fs y ys heads g u n few (Head j) ew e = inner_head (top k Excepting t) fs y ys heads g u n few j tt e (head_encoded w j ew)
  top_step k Excepting t fs y ys heads g u n few (Value v) ew e = absurd (impossible e)
  top_step k Excepting t fs y ys heads g u n few Except ew e = absurd (impossible e)
  top_step k Excepting t fs y ys heads g u n few End ew e = absurd (impossible e)
  top_step k Excepted t fs y ys heads g u n few (Head j) ew e = inner_head (top k Excepted t) fs y ys heads g u n few j tt e (head_encoded w j ew)
  top_step k Excepted t fs y ys heads g u n few (Value v) ew e = absurd (impossible e)
  top_step k Excepted t fs y ys heads g u n few Except ew e = absurd (impossible e)
  top_step k Excepted t fs y ys heads g u n few End ew e = end_step k Excepted t fs y ys heads g u n few refl ew

  outside_step : (y : Node) (heads : ℕ) → Outside z y.exceptions → heads ≡ clauses_count y.exceptions → (v : Word) → Encodes w v → fault_outside heads v ≡ None → Stepped [] heads (y ∷ []) v
  outside_step y heads g n (Head k) ew e = outside_head heads k y y.exceptions refl g n e (head_encoded w k ew)
  outside_step y heads g n (Value v) ew e = absurd (impossible e)
  outside_step y heads g n Except ew e = absurd (impossible e)
  outside_step y heads g n End ew e = absurd (impossible e)

  pub step : (fs : List Frame) (ys : List Node) (heads : ℕ) → Good z fs ys → heads ≡ count_open fs ys → heads ≤ 256
      → (v : Word) → Encodes w v → fault z (record { open_clauses = fs; heads = heads }) v ≡ None → Stepped fs heads ys v
  step [] [] heads g n few v ew e = absurd g
  step [] (y ∷ []) heads g n few v ew e = outside_step y heads g n v ew e
  step [] (y ∷ x ∷ ys) heads g n few v ew e = absurd g
  step (f ∷ fs) [] heads g n few v ew e = absurd g
  step (f ∷ fs) (y ∷ ys) heads (g, u) n few v ew e = top_step f.kind f.phase f.last fs y ys heads g u n few v ew e

-- what is made of all the words, where there is no fault
pub record Spelt (z : Sizes) (all : List ℕ) (out : List Node) : Type 0 where
  pub clause : Clause
  pub outside : Label
  pub is : out ≡ record { list = outside; exceptions = more clause none } ∷ []
  pub well : well_formed z clause ≡ true
  pub deep : depth clause ≤ 16
  pub few : clause_count clause ≤ 256
  pub words : spelled clause ≡ all

module _ (z : Sizes) (small : Small z) (all : List ℕ) where
  outside_end : (l : Label) (es : Clauses) (heads i : ℕ) (out : List Node) → Outside z es → heads ≡ clauses_count es → heads ≤ 256 → spelled_rest es ++ [] ≡ all
      → ◌≡◌ {A = Result (List Node) Refusal} (cond (eqb heads 0) (Err (record { reason = MisplacedWord; place = i })) (Ok (record { list = l; exceptions = es } ∷ []))) (Ok out) → Spelt z all out
  outside_end l none heads i out g n few e q =
      absurd (let b = eq-eqb heads 0 n in let q' : ◌≡◌ {A = Result (List Node) Refusal} (Err (record { reason = MisplacedWord; place = i })) (Ok out) = simp b at q in let z : ◌≡◌ {A = ℕ} 0 1 = cc in omega arith)
  outside_end l (more c none) heads i out g n few e q =
      let ne : heads ≡ 0 → ⊥ = λ h. omega (arith, count_pos c) in
      let b = ne_eqb heads 0 ne in
      let q' : ◌≡◌ {A = Result (List Node) Refusal} (Ok (record { list = l; exceptions = more c none } ∷ [])) (Ok out) = simp b at q in
      record {
        clause = c;
        outside = l;
        is = cc;
        well = g.0;
        deep = omega (arith, g.1);
        few = omega arith;
        words = sym (append-nil (spelled c)) ∙ sym (append-nil (spelled c ++ [])) ∙ e;
      }
  outside_end l (more c (more d es)) heads i out g n few e q = absurd g

  at_end : (fs : List Frame) (ys : List Node) (heads i : ℕ) (out : List Node) → Good z fs ys → heads ≡ count_open fs ys → heads ≤ 256 → spelled_open fs ys ++ [] ≡ all
      → walk grown z (record { open_clauses = fs; heads = heads }) ys i [] ≡ Ok out → Spelt z all out
  unfolding walk
  at_end [] [] heads i out g n few e q = absurd g
  at_end [] (y ∷ []) heads i out g n few e q = outside_end y.list y.exceptions heads i out g n few e q
  at_end [] (y ∷ x ∷ ys) heads i out g n few e q = absurd g
  at_end (f ∷ fs) ys heads i out g n few e q = absurd (let z : ◌≡◌ {A = ℕ} 0 1 = cc in omega arith)

  pub sound : (ws : List ℕ) (fs : List Frame) (ys : List Node) (heads i : ℕ) (out : List Node) → Good z fs ys → heads ≡ count_open fs ys → heads ≤ 256 → spelled_open fs ys ++ ws ≡ all
      → walk grown z (record { open_clauses = fs; heads = heads }) ys i ws ≡ Ok out → Spelt z all out
  sound [] fs ys heads i out g n few e q = at_end fs ys heads i out g n few e q
  sound (w ∷ ws) fs ys heads i out g n few e q =
      by (admitted z now_reading w) refl (λ v f.
      let p = checked_parts (word_of w) (fault z now_reading) v f in
      let s = step z small w fs ys heads g n few v (encodes w v p.0) p.1 in
      sound ws (advanced now_reading v).open_clauses (grown now_reading v ys) (advanced now_reading v).heads (i + 1) out
      s.good s.count s.few (ap (λ xs. xs ++ ws) s.words ∙ append_assoc (spelled_open fs ys) (w ∷ []) ws ∙ e))
    where
      now_reading : Reading
      now_reading = record { open_clauses = fs; heads = heads }

      by : (o : Result Word Reason) → admitted z now_reading w ≡ o
          → ((v : Word) → admitted z now_reading w ≡ Ok v → walk grown z (advanced now_reading v) (grown now_reading v ys) (i + 1) ws ≡ Ok out → Spelt z all out)
          → Spelt z all out
      by (Err y) f ih = absurd (let s = walk_stop grown z now_reading ys i w ws y f in let z : ◌≡◌ {A = ℕ} 0 1 = cc in omega arith)
      by (Ok v) f ih = ih v f (sym (walk_on grown z now_reading ys i w ws v f) ∙ q)

-- Policies as words of 32 bits: which rows of words are a policy, which clause they spell, and where others are declined. Assumes nothing.
use Rattle.std.specs.Prelude.{◌≡◌, ℕ, zero, suc, ◌+◌, ◌*◌, ◌%◌, ◌^◌, ◌≤◌, max, Bool, true, false, cond, ◌&&◌, ◌||◌, T, ◌↔◌, List, [], ◌∷◌, ◌++◌, length, Some, None, Option, Ok, Err, Result, ◌==◌, nat_le, nat_lt}
use Rattle.policy.specs.declared.label.Label.{Label}
use Rattle.lattice.specs.declared.sizes.Sizes.{Sizes}
use Rattle.policy.specs.declared.clause.Kind.{Kind}
use Rattle.policy.specs.declared.clause.Kind.TheVariants.{Allow, Deny}
use Rattle.refusals.specs.declared.refusal.Reason.{Reason}
use Rattle.refusals.specs.declared.refusal.Reason.TheVariants.{WordCount, BadWord, MisplacedWord, SameKind, BadValue, NotRising, TooNested}
use Rattle.refusals.specs.declared.refusal.Refusal.{Refusal}
use Rattle.policy.specs.declared.word.Word.{Word}
use Rattle.policy.specs.declared.word.Word.TheVariants.{Head, Value, Except, End}
use Rattle.policy.specs.declared.draft.Phase.{Phase}
use Rattle.policy.specs.declared.draft.Phase.TheVariants.{Listing, Excepting, Excepted}
use Rattle.lattice.specs.Sets.{has}
use Rattle.policy.specs.Labels.{filled}
use Rattle.policy.specs.Clauses.{Clause, Clauses, allow, deny, none, more, clause_count}
use Rattle.policy.specs.Decode.{word_of}

abbrev pub size_of : Sizes → ℕ → ℕ
size_of z a = cond (a == 0) z.store (cond (a == 1) z.purpose (cond (a == 2) z.role z.types))

-- the order in which values stand: by attribute, then by code
abbrev pub position : ℕ → ℕ → ℕ
position a c = a * 256 + c

-- Spelling: a head, the values in rising order, EXCEPT and the exceptions where there are any, END.
-- Here the list of a clause is as written: the empty set is an attribute left out.

abbrev pub value_word : ℕ → ℕ → ℕ
value_word a n = 3 * 2 ^ 28 + a * 2 ^ 24 + n

unfoldable pub values_below : ℕ → ℕ → ℕ → List ℕ
values_below a s zero = []
values_below a s (suc n) = values_below a s n ++ cond (has s n) (value_word a n ∷ []) []

abbrev pub list_words : Label → List ℕ
list_words l = values_below 0 l.store 64 ++ (values_below 1 l.purpose 64 ++ (values_below 2 l.role 64 ++ values_below 3 l.types 64))

abbrev pub ALLOW : ℕ
ALLOW = 1 * 2 ^ 28

abbrev pub DENY : ℕ
DENY = 2 * 2 ^ 28

abbrev pub EXCEPT : ℕ
EXCEPT = 4 * 2 ^ 28

abbrev pub END : ℕ
END = 5 * 2 ^ 28

abbrev mutual
  pub spelled : Clause → List ℕ
  spelled (allow l es) = ALLOW ∷ (list_words l ++ (spelled_exceptions es ++ (END ∷ [])))
  spelled (deny l es) = DENY ∷ (list_words l ++ (spelled_exceptions es ++ (END ∷ [])))

  pub spelled_exceptions : Clauses → List ℕ
  spelled_exceptions none = []
  spelled_exceptions (more e es) = EXCEPT ∷ (spelled e ++ spelled_rest es)

  pub spelled_rest : Clauses → List ℕ
  spelled_rest none = []
  spelled_rest (more e es) = spelled e ++ spelled_rest es

-- what the words of a policy mean: an attribute left out is its top alone
abbrev mutual
  pub meaning : Sizes → Clause → Clause
  meaning z (allow l es) = allow (filled z l) (meanings z es)
  meaning z (deny l es) = deny (filled z l) (meanings z es)

  pub meanings : Sizes → Clauses → Clauses
  meanings z none = none
  meanings z (more e es) = more (meaning z e) (meanings z es)

-- every value of the set is from 1 to the size less 1
abbrev pub in_range : ℕ → ℕ → Bool
in_range n s = nat_lt s (2 ^ n) && s % 2 == 0

abbrev pub list_in_range : Sizes → Label → Bool
list_in_range z l = (in_range z.store l.store && in_range z.purpose l.purpose) && (in_range z.role l.role && in_range z.types l.types)

-- lists in range, exceptions of the other kind
abbrev mutual
  pub well_formed : Sizes → Clause → Bool
  well_formed z (allow l es) = list_in_range z l && all_deny z es
  well_formed z (deny l es) = list_in_range z l && all_allow z es

  pub all_deny : Sizes → Clauses → Bool
  all_deny z none = true
  all_deny z (more e es) = (is_deny e && well_formed z e) && all_deny z es

  pub all_allow : Sizes → Clauses → Bool
  all_allow z none = true
  all_allow z (more e es) = (is_allow e && well_formed z e) && all_allow z es

  pub is_deny : Clause → Bool
  is_deny (allow l es) = false
  is_deny (deny l es) = true

  pub is_allow : Clause → Bool
  is_allow (allow l es) = true
  is_allow (deny l es) = false

abbrev mutual
  pub depth : Clause → ℕ
  depth (allow l es) = 1 + depths es
  depth (deny l es) = 1 + depths es

  pub depths : Clauses → ℕ
  depths none = 0
  depths (more e es) = max (depth e) (depths es)

-- c is a policy as written
abbrev pub Written : Sizes → Clause → Type 0
Written z c = T (well_formed z c) × (depth c ≤ 16) × (clause_count c ≤ 256) × (length (spelled c) ≤ 4096)

-- Reading, word by word. A frame is an open clause: its kind, whether values may still come, whether an exception has been read, and the last value.
pub record Frame : Type 0 where
  pub kind : Kind
  pub phase : Phase
  pub last : ℕ

pub record Reading : Type 0 where
  pub open_clauses : List Frame
  pub heads : ℕ

abbrev pub same_kind : Kind → Kind → Bool
same_kind Allow Allow = true
same_kind Allow Deny = false
same_kind Deny Allow = false
same_kind Deny Deny = true

-- why a head of this kind is declined as an exception of a clause of kind k, with `open` clauses open and `heads` heads read
abbrev pub head_fault : ℕ → ℕ → Kind → Kind → Option Reason
head_fault opens heads k h =
    cond (same_kind k h) (Some SameKind)
    (cond (nat_le 16 opens || nat_le 256 heads) (Some TooNested) None)

abbrev pub value_fault : Sizes → ℕ → ℕ → ℕ → Option Reason
value_fault z last a c =
    cond (nat_le 4 a || (c == 0 || nat_le (size_of z a) c)) (Some BadValue)
    (cond (nat_le (position a c) last) (Some NotRising) None)

abbrev pub fault_in : Sizes → ℕ → ℕ → Kind → ℕ → Phase → Word → Option Reason
fault_in z opens heads k last Listing (Head h) = Some MisplacedWord
fault_in z opens heads k last Listing (Value v) = value_fault z last v.attribute v.code
fault_in z opens heads k last Listing Except = None
fault_in z opens heads k last Listing End = None
fault_in z opens heads k last Excepting (Head h) = head_fault opens heads k h
fault_in z opens heads k last Excepting (Value v) = Some MisplacedWord
fault_in z opens heads k last Excepting Except = Some MisplacedWord
fault_in z opens heads k last Excepting End = Some MisplacedWord
fault_in z opens heads k last Excepted (Head h) = head_fault opens heads k h
fault_in z opens heads k last Excepted (Value v) = Some MisplacedWord
fault_in z opens heads k last Excepted Except = Some MisplacedWord
fault_in z opens heads k last Excepted End = None

-- outside every clause only the first head may stand
abbrev pub fault_outside : ℕ → Word → Option Reason
fault_outside heads (Head k) = cond (heads == 0) None (Some MisplacedWord)
fault_outside heads (Value v) = Some MisplacedWord
fault_outside heads Except = Some MisplacedWord
fault_outside heads End = Some MisplacedWord

abbrev pub fault : Sizes → Reading → Word → Option Reason
fault z r w = elim r.open_clauses [ [] ↦ fault_outside r.heads w | f ∷ fs ↦ fault_in z (length (f ∷ fs)) r.heads f.kind f.last f.phase w ]

-- a test that passes where there is no fault, and fails with it where there is one
abbrev pub clear : Option Reason → Result (Unit {0}) Reason
clear None = Ok tt
clear (Some e) = Err e

-- the word, where there is one and it has no fault, or why it is declined
abbrev pub checked : Option Word → (Word → Option Reason) → Result Word Reason
checked None f = Err BadWord
checked (Some w) f = elim (f w) [ Some e ↦ Err e | None ↦ Ok w ]

abbrev pub admitted : Sizes → Reading → ℕ → Result Word Reason
admitted z r w = checked (word_of w) (fault z r)

abbrev pub opened : Kind → Frame
opened k = record { kind = k; phase = Listing; last = 0 }

abbrev pub in_phase : Phase → Frame → Frame
in_phase p f = record { kind = f.kind; phase = p; last = f.last }

-- the exception that ended leaves its encloser with one
abbrev pub ended : List Frame → List Frame
ended [] = []
ended (f ∷ fs) = in_phase Excepted f ∷ fs

abbrev pub advanced : Reading → Word → Reading
advanced r (Head k) = record { open_clauses = opened k ∷ r.open_clauses; heads = r.heads + 1 }
advanced r (Value v) = record {
  open_clauses = elim r.open_clauses [ [] ↦ [] | f ∷ fs ↦ record { kind = f.kind; phase = f.phase; last = position v.attribute v.code } ∷ fs ];
  heads = r.heads;
}
advanced r Except = record { open_clauses = elim r.open_clauses [ [] ↦ [] | f ∷ fs ↦ in_phase Excepting f ∷ fs ]; heads = r.heads }
advanced r End = record { open_clauses = elim r.open_clauses [ [] ↦ [] | f ∷ fs ↦ ended fs ]; heads = r.heads }

-- the first fault from word number i on, with its place; at the end every clause must be closed
unfoldable pub fault_from : Sizes → Reading → ℕ → List ℕ → Option Refusal
fault_from z r i [] = elim r.open_clauses [ [] ↦ cond (r.heads == 0) (Some (record { reason = MisplacedWord; place = i })) None | f ∷ fs ↦ Some (record { reason = MisplacedWord; place = i }) ]
fault_from z r i (w ∷ ws) = elim (admitted z r w) [ Err e ↦ Some (record { reason = e; place = i }) | Ok v ↦ fault_from z (advanced r v) (i + 1) ws ]

abbrev pub nothing_read : Reading
nothing_read = record { open_clauses = []; heads = 0 }

abbrev pub words_fault : Sizes → List ℕ → Option Refusal
words_fault z ws =
    cond (length ws == 0 || nat_lt 4096 (length ws)) (Some (record { reason = WordCount; place = 0 }))
    (fault_from z nothing_read 0 ws)

-- sizes of lattices: no set has a value at or above 64
abbrev pub Small : Sizes → Type 0
Small z = ((z.store ≤ 64) × (z.purpose ≤ 64)) × ((z.role ≤ 64) × (z.types ≤ 64))

-- the laws above the reader: words are accepted exactly when they spell a policy, and they spell only one
abbrev pub AcceptedExactly : Type 0
AcceptedExactly = (z : Sizes) → Small z → (ws : List ℕ) → (words_fault z ws ≡ None) ↔ ((c : Clause) × Written z c × (spelled c ≡ ws))

abbrev pub SpelledOnce : Type 0
SpelledOnce = (z : Sizes) → Small z → (c d : Clause) → Written z c → Written z d → spelled c ≡ spelled d → c ≡ d

-- Reading word by word with something that is made on the way. Assumes nothing.
use Rattle.std.specs.Prelude.{ℕ, ◌+◌, ◌^◌, cond, List, [], ◌∷◌, ◌++◌, Ok, Err, Result, ◌==◌, bit_or, slice_set}
use Rattle.policy.specs.declared.label.Label.{Label}
use Rattle.lattice.specs.declared.sizes.Sizes.{Sizes}
use Rattle.policy.specs.declared.clause.Kind.{Kind}
use Rattle.policy.specs.declared.clause.ClauseRecord.{ClauseRecord}
use Rattle.refusals.specs.declared.refusal.Reason.TheVariants.{MisplacedWord}
use Rattle.refusals.specs.declared.refusal.Refusal.{Refusal}
use Rattle.policy.specs.declared.word.Word.{Word}
use Rattle.policy.specs.declared.word.Word.TheVariants.{Head, Value, Except, End}
use Rattle.policy.specs.Labels.{filled}
use Rattle.policy.specs.Words.{Reading, admitted, advanced}

-- what is made of the words from number i on, or where they are declined
unfoldable pub walk : {X : Type 0} → (Reading → Word → X → X) → Sizes → Reading → X → ℕ → List ℕ → Result X Refusal
walk f z r x i [] = elim r.open_clauses [ [] ↦ cond (r.heads == 0) (Err (record { reason = MisplacedWord; place = i })) (Ok x) | f ∷ fs ↦ Err (record { reason = MisplacedWord; place = i }) ]
walk f z r x i (w ∷ ws) = elim (admitted z r w) [ Err e ↦ Err (record { reason = e; place = i }) | Ok v ↦ walk f z (advanced r v) (f r v x) (i + 1) ws ]

-- the list l with value c of attribute a
abbrev pub listed : ℕ → ℕ → Label → Label
listed a c l =
    cond (a == 0) (record { store = bit_or l.store (2 ^ c); purpose = l.purpose; role = l.role; types = l.types })
    (cond (a == 1) (record { store = l.store; purpose = bit_or l.purpose (2 ^ c); role = l.role; types = l.types })
    (cond (a == 2) (record { store = l.store; purpose = l.purpose; role = bit_or l.role (2 ^ c); types = l.types })
    (record { store = l.store; purpose = l.purpose; role = l.role; types = bit_or l.types (2 ^ c) })))

abbrev pub empty : Label
empty = record { store = 0; purpose = 0; role = 0; types = 0 }

abbrev pub fresh : Kind → ClauseRecord
fresh k = record { kind = k; list = empty; end = 0 }

abbrev pub with_value : ℕ → ℕ → ClauseRecord → ClauseRecord
with_value a c x = record { kind = x.kind; list = listed a c x.list; end = x.end }

abbrev pub closed : Sizes → ℕ → ClauseRecord → ClauseRecord
closed z n x = record { kind = x.kind; list = filled z x.list; end = n }

-- an open clause's number, and its record as far as it is read
pub record Slot : Type 0 where
  pub number : ℕ
  pub filling : ClauseRecord

-- the open clauses, and a record for each head: that of an open clause has no list and no end yet
pub record Records : Type 0 where
  pub opens : List Slot
  pub clauses : List ClauseRecord

abbrev pub top_with : ℕ → ℕ → List Slot → List Slot
top_with a c [] = []
top_with a c (s ∷ ss) = record { number = s.number; filling = with_value a c s.filling } ∷ ss

abbrev pub top_ended : Sizes → ℕ → List Slot → List ClauseRecord → List ClauseRecord
top_ended z n [] rs = rs
top_ended z n (s ∷ ss) rs = slice_set rs s.number (closed z n s.filling)

abbrev pub rest_of : List Slot → List Slot
rest_of [] = []
rest_of (s ∷ ss) = ss

abbrev pub recorded : Sizes → Reading → Word → Records → Records
recorded z r (Head k) x = record { opens = record { number = r.heads; filling = fresh k } ∷ x.opens; clauses = x.clauses ++ fresh k ∷ [] }
recorded z r (Value v) x = record { opens = top_with v.attribute v.code x.opens; clauses = x.clauses }
recorded z r Except x = x
recorded z r End x = record { opens = rest_of x.opens; clauses = top_ended z r.heads x.opens x.clauses }

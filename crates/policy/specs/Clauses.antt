-- LEGALEASE clauses and what they allow. Assumes nothing.
use Rattle.std.specs.Prelude.{ℕ, ◌+◌, Bool, true, false, cond, not, ◌&&◌, ◌||◌, Some, None, Option}
-- a label is a set of values for each attribute
pub use Rattle.policy.specs.declared.label.Label.{Label}
use Rattle.lattice.specs.Sets.{has, without, all_of, some_of, gather, image}
use Rattle.lattice.specs.Order.{Order, meet, join}
use Rattle.lattice.specs.Schemes.{Scheme}

abbrev pub value_or_bottom : Option ℕ → ℕ
value_or_bottom (Some v) = v
value_or_bottom None = 0

-- each value of t is at or below some value of l
unfoldable pub covered_in : Order → ℕ → ℕ → Bool
covered_in o t l = all_of t (λ v. some_of l (λ w. o.below v w))

-- the join of the meets of w with all values of t; 0 where t has none
unfoldable pub overlap : Order → ℕ → ℕ → ℕ
overlap o t w = gather (λ sum v. value_or_bottom (join o sum (value_or_bottom (meet o w v)))) 0 t 64

-- one value for each w of l: what w and t have in common
unfoldable pub narrowed_in : Order → ℕ → ℕ → ℕ
narrowed_in o t l = image (overlap o t) l

abbrev pub covered : Scheme → Label → Label → Bool
covered s t l =
    (covered_in s.store t.store l.store && covered_in s.purpose t.purpose l.purpose) &&
    (covered_in s.role t.role l.role && covered_in s.types t.types l.types)

abbrev pub narrowed : Scheme → Label → Label → Label
narrowed s t l = record {
  store = narrowed_in s.store t.store l.store;
  purpose = narrowed_in s.purpose t.purpose l.purpose;
  role = narrowed_in s.role t.role l.role;
  types = narrowed_in s.types t.types l.types;
}

-- value 0 stands in some attribute
abbrev pub has_bottom : Label → Bool
has_bottom t = (has t.store 0 || has t.purpose 0) || (has t.role 0 || has t.types 0)

-- a clause has a list of values and exceptions, in order
mutual
  pub data Clause : Type 0 where
    allow : Label → Clauses → Clause
    deny : Label → Clauses → Clause

  pub data Clauses : Type 0 where
    none : Clauses
    more : Clause → Clauses → Clauses

abbrev mutual
  pub allows : Scheme → Clause → Label → Bool
  allows s (allow l es) t = covered s t l && all_allow s es t
  allows s (deny l es) t = has_bottom (narrowed s t l) || some_allows s es (narrowed s t l)

  pub all_allow : Scheme → Clauses → Label → Bool
  all_allow s none t = true
  all_allow s (more e es) t = allows s e t && all_allow s es t

  pub some_allows : Scheme → Clauses → Label → Bool
  some_allows s none t = false
  some_allows s (more e es) t = allows s e t || some_allows s es t

-- clauses are numbered by their heads: how many a clause is, with those inside it
abbrev mutual
  pub clause_count : Clause → ℕ
  clause_count (allow l es) = 1 + clauses_count es
  clause_count (deny l es) = 1 + clauses_count es

  pub clauses_count : Clauses → ℕ
  clauses_count none = 0
  clauses_count (more e es) = clause_count e + clauses_count es

-- the number of the clause that decides, where the clause asked has the number n
abbrev mutual
  pub decider : Scheme → ℕ → Clause → Label → ℕ
  decider s n (allow l es) t = cond (covered s t l && not (all_allow s es t)) (first_denying s (n + 1) es t) n
  decider s n (deny l es) t =
      cond (not (has_bottom (narrowed s t l)) && some_allows s es (narrowed s t l)) (first_allowing s (n + 1) es (narrowed s t l)) n

  pub first_denying : Scheme → ℕ → Clauses → Label → ℕ
  first_denying s n none t = n
  first_denying s n (more e es) t = cond (allows s e t) (first_denying s (n + clause_count e) es t) (decider s n e t)

  pub first_allowing : Scheme → ℕ → Clauses → Label → ℕ
  first_allowing s n none t = n
  first_allowing s n (more e es) t = cond (allows s e t) (decider s n e t) (first_allowing s (n + clause_count e) es t)

-- the label t with the set d as its data types
abbrev pub with_types : Label → ℕ → Label
with_types t d = record { store = t.store; purpose = t.purpose; role = t.role; types = d }

-- of a denied label, the data types that are left once each, in rising order, was left out where what remained was still denied
unfoldable pub evidence : Scheme → Clause → Label → ℕ
evidence s c t =
    cond (allows s c t) 0
    (gather (λ left v. cond (allows s c (with_types t (without left v))) left (without left v)) t.types t.types 64)

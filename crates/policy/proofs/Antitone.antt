-- A label is allowed wherever one that covers it is: the order of labels, and the induction over clauses. Assumes nothing.
use Rattle.std.proofs.Common.{◌≡◌, ℕ, ◌<◌, Bool, true, ◌&&◌, ◌||◌, ◌⊎◌, Decides, sym, refl, subst, inl, inr, arith}
use Rattle.std.proofs.lemmas.Bool.{and_parts, and_from, or_cases, or_left, or_right}
use Rattle.lattice.specs.Sets.{has, some_of}
use Rattle.lattice.specs.Order.{Order, Lattice}
use Rattle.lattice.specs.Schemes.{Scheme}
use Rattle.policy.specs.Clauses.{Label, covered_in, overlap, narrowed_in, covered, narrowed, has_bottom, Clause, Clauses, allow, deny, none, more, allows, all_allow, some_allows, with_types}
use Rattle.lattice.specs.Schemes.{Lattices}
use Rattle.policy.specs.Laws.{Subset}
use Rattle.policy.proofs.Sets.{all_of_each, all_of_from, some_of_at, some_of_from, decides_image}
use Rattle.policy.proofs.Bounds.{Below, meet_of, below_transitive, below_bottom, meet_monotone_right, overlap_inside, overlap_upper, overlap_least}

-- ---- one attribute

-- v is at or below some value of l
abbrev pub Reached : Order → ℕ → ℕ → Type 0
Reached o l v = (w : ℕ) × (w < 64) × (has l w ≡ true) × Below o v w

-- covered_in is true exactly when each value of t is at or below some value of l
pub decides_covered_in : (o : Order) (t l : ℕ) → Decides (covered_in o t l) ((v : ℕ) → v < 64 → has t v ≡ true → Reached o l v)
unfolding covered_in
decides_covered_in o t l = (
  λ h v inside holds. some_of_at l (λ w. o.below v w) (all_of_each t (λ v. some_of l (λ w. o.below v w)) h v inside holds),
  λ each. all_of_from t (λ v. some_of l (λ w. o.below v w))
      (λ v inside holds. let found = each v inside holds in some_of_from l (λ w. o.below v w) found.0 found.1 found.2 found.3),
)

-- a value of narrowed_in is the overlap with some value of l, and each such overlap is in it
pub decides_narrowed_in : (o : Order) (t l x : ℕ) → Decides (has (narrowed_in o t l) x) ((w : ℕ) × (w < 64) × (has l w ≡ true) × (overlap o t w ≡ x))
unfolding narrowed_in
decides_narrowed_in o t l x = decides_image (overlap o t) l x

-- each value of t is a value of u or at or below one
abbrev pub Under : Order → ℕ → ℕ → Type 0
Under o t u = (v : ℕ) → v < 64 → has t v ≡ true → (w : ℕ) × (w < 64) × (has u w ≡ true) × ((v ≡ w) ⊎ Below o v w)

pub under_from_covered : (o : Order) (t u : ℕ) → covered_in o t u ≡ true → Under o t u
under_from_covered o t u h v inside holds =
    let found = (decides_covered_in o t u).0 h v inside holds in (found.0, found.1, found.2, inr found.3)

pub under_from_subset : (o : Order) (d e : ℕ) → Subset d e → Under o d e
under_from_subset o d e sub v inside holds = (v, inside, sub v inside holds, inl refl)

pub under_reflexive : (o : Order) (t : ℕ) → Under o t t
under_reflexive o t v inside holds = (v, inside, holds, inl refl)

module _ (o : Order) (laws : Lattice o) where
  pub covered_in_under : (t u l : ℕ) → Under o t u → covered_in o u l ≡ true → covered_in o t l ≡ true
  covered_in_under t u l under h = (decides_covered_in o t l).1 go
    where
      go : (v : ℕ) → v < 64 → has t v ≡ true → Reached o l v
      go v inside holds =
          let higher = under v inside holds in
          let found = (decides_covered_in o u l).0 h higher.0 higher.1 higher.2 in
          elim higher.3 [
            | inl same ↦ (found.0, found.1, found.2, subst (λ (x : ℕ). Below o x found.0) (sym same) found.3)
            | inr below ↦ (found.0, found.1, found.2, below_transitive o laws v higher.0 found.0 below found.3)
          ]

  -- each value of t lies under a value of u: so does the overlap
  pub overlap_monotone : (t u w : ℕ) → Under o t u → Below o (overlap o t w) (overlap o u w)
  overlap_monotone t u w under = overlap_least o laws t w (overlap o u w) (overlap_inside o laws u w) go
    where
      go : (v : ℕ) → v < 64 → has t v ≡ true → Below o (meet_of o w v) (overlap o u w)
      go v inside holds =
          let higher = under v inside holds in
          let upper = overlap_upper o laws u w higher.0 higher.1 higher.2 in
          elim higher.3 [
            | inl same ↦ subst (λ (x : ℕ). Below o (meet_of o w x) (overlap o u w)) (sym same) upper
            | inr below ↦ below_transitive o laws (meet_of o w v) (meet_of o w higher.0) (overlap o u w) (meet_monotone_right o laws w v higher.0 below) upper
          ]

  pub overlap_covered : (t u w : ℕ) → covered_in o t u ≡ true → Below o (overlap o t w) (overlap o u w)
  overlap_covered t u w h = overlap_monotone t u w (under_from_covered o t u h)

  pub narrowed_in_inside : (t l x : ℕ) → has (narrowed_in o t l) x ≡ true → x < o.size
  narrowed_in_inside t l x h =
      let found = (decides_narrowed_in o t l x).0 h in
      subst (λ (y : ℕ). y < o.size) found.3 (overlap_inside o laws t found.0)

  -- the bottom in the narrowing of u is in that of t
  pub narrowed_in_bottom : (t u l : ℕ) → Under o t u → has (narrowed_in o u l) 0 ≡ true → has (narrowed_in o t l) 0 ≡ true
  narrowed_in_bottom t u l under h =
      let found = (decides_narrowed_in o u l 0).0 h in
      let low = subst (λ (y : ℕ). Below o (overlap o t found.0) y) found.3 (overlap_monotone t u found.0 under) in
      (decides_narrowed_in o t l 0).1 (found.0, found.1, found.2, below_bottom o laws (overlap o t found.0) low)

  pub narrowed_in_under : (t u l : ℕ) → Under o t u → Under o (narrowed_in o t l) (narrowed_in o u l)
  narrowed_in_under t u l under x inside h =
      let found = (decides_narrowed_in o t l x).0 h in (
        overlap o u found.0,
        omega (arith, overlap_inside o laws u found.0, laws.at_most_64),
        (decides_narrowed_in o u l (overlap o u found.0)).1 (found.0, found.1, found.2, refl),
        inr (subst (λ (y : ℕ). Below o y (overlap o u found.0)) found.3 (overlap_monotone t u found.0 under)),
      )

  -- the narrowing of t is covered by that of u
  pub narrowed_in_covered : (t u l : ℕ) → Under o t u → covered_in o (narrowed_in o t l) (narrowed_in o u l) ≡ true
  narrowed_in_covered t u l under = (decides_covered_in o (narrowed_in o t l) (narrowed_in o u l)).1 go
    where
      go : (x : ℕ) → x < 64 → has (narrowed_in o t l) x ≡ true → Reached o (narrowed_in o u l) x
      go x inside h =
          let found = (decides_narrowed_in o t l x).0 h in (
            overlap o u found.0,
            omega (arith, overlap_inside o laws u found.0, laws.at_most_64),
            (decides_narrowed_in o u l (overlap o u found.0)).1 (found.0, found.1, found.2, refl),
            subst (λ (y : ℕ). Below o y (overlap o u found.0)) found.3 (overlap_monotone t u found.0 under),
          )

-- ---- labels

pub record LabelUnder (s : Scheme) (t u : Label) : Type 0 where
  pub store : Under s.store t.store u.store
  pub purpose : Under s.purpose t.purpose u.purpose
  pub role : Under s.role t.role u.role
  pub types : Under s.types t.types u.types

four_parts : (a b c d : Bool) → ((a && b) && (c && d)) ≡ true → (a ≡ true) × (b ≡ true) × (c ≡ true) × (d ≡ true)
four_parts a b c d h =
    let halves = and_parts (a && b) (c && d) h in
    let first = and_parts a b halves.0 in
    let second = and_parts c d halves.1 in
    (first.0, first.1, second.0, second.1)

four_from : (a b c d : Bool) → a ≡ true → b ≡ true → c ≡ true → d ≡ true → ((a && b) && (c && d)) ≡ true
four_from a b c d p q r s = and_from (a && b) (c && d) (and_from a b p q) (and_from c d r s)

some_of_four : (a b c d e f g h : Bool) → (a ≡ true → e ≡ true) → (b ≡ true → f ≡ true) → (c ≡ true → g ≡ true) → (d ≡ true → h ≡ true) →
    ((a || b) || (c || d)) ≡ true → ((e || f) || (g || h)) ≡ true
some_of_four a b c d e f g h p q r s any =
    elim (or_cases (a || b) (c || d) any) [
      | inl left ↦ or_left (e || f) (g || h) (elim (or_cases a b left) [ inl x ↦ or_left e f (p x) | inr x ↦ or_right e f (q x) ])
      | inr right ↦ or_right (e || f) (g || h) (elim (or_cases c d right) [ inl x ↦ or_left g h (r x) | inr x ↦ or_right g h (s x) ])
    ]

pub label_under_from_covered : (s : Scheme) (t u : Label) → covered s t u ≡ true → LabelUnder s t u
label_under_from_covered s t u h =
    let parts = four_parts (covered_in s.store t.store u.store) (covered_in s.purpose t.purpose u.purpose)
    (covered_in s.role t.role u.role) (covered_in s.types t.types u.types) h in
    record {
      store = under_from_covered s.store t.store u.store parts.0;
      purpose = under_from_covered s.purpose t.purpose u.purpose parts.1;
      role = under_from_covered s.role t.role u.role parts.2;
      types = under_from_covered s.types t.types u.types parts.3;
    }

pub label_under_from_subset : (s : Scheme) (t : Label) (d e : ℕ) → Subset d e → LabelUnder s (with_types t d) (with_types t e)
label_under_from_subset s t d e sub = record {
  store = under_reflexive s.store t.store;
  purpose = under_reflexive s.purpose t.purpose;
  role = under_reflexive s.role t.role;
  types = under_from_subset s.types d e sub;
}

module _ (s : Scheme) (laws : Lattices s) where
  pub covered_under : (t u l : Label) → LabelUnder s t u → covered s u l ≡ true → covered s t l ≡ true
  covered_under t u l under h =
      let parts = four_parts (covered_in s.store u.store l.store) (covered_in s.purpose u.purpose l.purpose)
      (covered_in s.role u.role l.role) (covered_in s.types u.types l.types) h in
      four_from (covered_in s.store t.store l.store) (covered_in s.purpose t.purpose l.purpose)
      (covered_in s.role t.role l.role) (covered_in s.types t.types l.types)
      (covered_in_under s.store laws.store t.store u.store l.store under.store parts.0)
      (covered_in_under s.purpose laws.purpose t.purpose u.purpose l.purpose under.purpose parts.1)
      (covered_in_under s.role laws.role t.role u.role l.role under.role parts.2)
      (covered_in_under s.types laws.types t.types u.types l.types under.types parts.3)

  -- labels covered by a covered label are covered
  pub covered_transitive : (t u l : Label) → covered s t u ≡ true → covered s u l ≡ true → covered s t l ≡ true
  covered_transitive t u l p q = covered_under t u l (label_under_from_covered s t u p) q

  pub narrowed_under : (t u l : Label) → LabelUnder s t u → LabelUnder s (narrowed s t l) (narrowed s u l)
  narrowed_under t u l under = record {
    store = narrowed_in_under s.store laws.store t.store u.store l.store under.store;
    purpose = narrowed_in_under s.purpose laws.purpose t.purpose u.purpose l.purpose under.purpose;
    role = narrowed_in_under s.role laws.role t.role u.role l.role under.role;
    types = narrowed_in_under s.types laws.types t.types u.types l.types under.types;
  }

  pub narrowed_bottom : (t u l : Label) → LabelUnder s t u → has_bottom (narrowed s u l) ≡ true → has_bottom (narrowed s t l) ≡ true
  narrowed_bottom t u l under h =
      some_of_four (has (narrowed_in s.store u.store l.store) 0) (has (narrowed_in s.purpose u.purpose l.purpose) 0)
      (has (narrowed_in s.role u.role l.role) 0) (has (narrowed_in s.types u.types l.types) 0)
      (has (narrowed_in s.store t.store l.store) 0) (has (narrowed_in s.purpose t.purpose l.purpose) 0)
      (has (narrowed_in s.role t.role l.role) 0) (has (narrowed_in s.types t.types l.types) 0)
      (narrowed_in_bottom s.store laws.store t.store u.store l.store under.store)
      (narrowed_in_bottom s.purpose laws.purpose t.purpose u.purpose l.purpose under.purpose)
      (narrowed_in_bottom s.role laws.role t.role u.role l.role under.role)
      (narrowed_in_bottom s.types laws.types t.types u.types l.types under.types) h

  -- ---- clauses

  mutual
    pub allows_under : (c : Clause) (t u : Label) → LabelUnder s t u → allows s c u ≡ true → allows s c t ≡ true
    allows_under (allow l es) t u under h =
        let parts = and_parts (covered s u l) (all_allow s es u) h in
        and_from (covered s t l) (all_allow s es t) (covered_under t u l under parts.0) (all_allow_under es t u under parts.1)
    allows_under (deny l es) t u under h =
        elim (or_cases (has_bottom (narrowed s u l)) (some_allows s es (narrowed s u l)) h) [
          | inl bottom ↦ or_left (has_bottom (narrowed s t l)) (some_allows s es (narrowed s t l)) (narrowed_bottom t u l under bottom)
          | inr found ↦ or_right (has_bottom (narrowed s t l)) (some_allows s es (narrowed s t l))
              (some_allows_under es (narrowed s t l) (narrowed s u l) (narrowed_under t u l under) found)
        ]

    pub all_allow_under : (es : Clauses) (t u : Label) → LabelUnder s t u → all_allow s es u ≡ true → all_allow s es t ≡ true
    all_allow_under none t u under h = refl
    all_allow_under (more e es) t u under h =
        let parts = and_parts (allows s e u) (all_allow s es u) h in
        and_from (allows s e t) (all_allow s es t) (allows_under e t u under parts.0) (all_allow_under es t u under parts.1)

    pub some_allows_under : (es : Clauses) (t u : Label) → LabelUnder s t u → some_allows s es u ≡ true → some_allows s es t ≡ true
    some_allows_under none t u under h = h
    some_allows_under (more e es) t u under h =
        elim (or_cases (allows s e u) (some_allows s es u) h) [
          | inl first ↦ or_left (allows s e t) (some_allows s es t) (allows_under e t u under first)
          | inr later ↦ or_right (allows s e t) (some_allows s es t) (some_allows_under es t u under later)
        ]

  -- THE KEY LAW: what is covered by an allowed label is allowed
  pub allows_antitone : (c : Clause) (t u : Label) → covered s t u ≡ true → allows s c u ≡ true → allows s c t ≡ true
  allows_antitone c t u h = allows_under c t u (label_under_from_covered s t u h)

  -- with fewer data types an allowed label is allowed
  pub allows_subset : (c : Clause) (t : Label) (d e : ℕ) → Subset d e → allows s c (with_types t e) ≡ true → allows s c (with_types t d) ≡ true
  allows_subset c t d e sub = allows_under c (with_types t d) (with_types t e) (label_under_from_subset s t d e sub)

  -- a label is allowed exactly when it is allowed with every subset of its data types
  pub decides_by_subsets : (c : Clause) (t : Label) → Decides (allows s c t) ((d : ℕ) → Subset d t.types → allows s c (with_types t d) ≡ true)
  decides_by_subsets c t = (λ h d sub. allows_subset c t d t.types sub h, λ each. each t.types (λ v inside holds. holds))

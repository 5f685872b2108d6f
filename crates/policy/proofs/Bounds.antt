-- What the laws of a lattice give: meets and joins are bounds, and `overlap` is the least upper bound of the meets. Assumes nothing.
use Rattle.std.proofs.Common.{◌≡◌, ℕ, suc, ◌<◌, Bool, true, false, not, ◌&&◌, ◌||◌, T, ◌⊎◌, Some, None, Option, unwrap_or, sym, refl, ap, subst, inl, inr, arith}
use Rattle.std.proofs.lemmas.Bool.{cases_lt, cases_eq, and_parts, both_ways}
use Rattle.lattice.specs.Sets.{has, every}
use Rattle.lattice.specs.Order.{Order, Lattice, is_meet, is_join, meet, join, top}
use Rattle.policy.specs.Clauses.{value_or_bottom, overlap}
use Rattle.policy.proofs.Sets.{every_below, least_passes, gather_keeps}

pub true_from_T : (b : Bool) → T b → b ≡ true
true_from_T true t = refl
true_from_T false t = absurd t

pub T_from_true : (b : Bool) → b ≡ true → T b
T_from_true true e = tt
T_from_true false e = absurd (both_ways false refl e)

-- a is at or below b
abbrev pub Below : Order → ℕ → ℕ → Type 0
Below o a b = o.below a b ≡ true

-- m is the greatest lower bound of a and b
pub record GreatestLower (o : Order) (a b m : ℕ) : Type 0 where
  pub left : Below o m a
  pub right : Below o m b
  pub greatest : (x : ℕ) → Below o x a → Below o x b → Below o x m

-- j is the least upper bound of a and b
pub record LeastUpper (o : Order) (a b j : ℕ) : Type 0 where
  pub left : Below o a j
  pub right : Below o b j
  pub least : (x : ℕ) → Below o a x → Below o b x → Below o j x

-- what `unwrap_or(0)` makes of what a lattice answers
pub value_or_0 : (x : Option ℕ) → unwrap_or x 0 ≡ value_or_bottom x
value_or_0 (Some v) = refl
value_or_0 None = refl

-- the meet and the join as values: the bottom where there is none
abbrev pub meet_of : Order → ℕ → ℕ → ℕ
meet_of o a b = value_or_bottom (meet o a b)

abbrev pub join_of : Order → ℕ → ℕ → ℕ
join_of o a b = value_or_bottom (join o a b)

implied : (x y z : Bool) → (not (x && y) || z) ≡ true → x ≡ true → y ≡ true → z ≡ true
implied x y z h p q = cc

module _ (o : Order) (laws : Lattice o) where
  -- ---- the laws, over tests that are true

  pub inside_left : (a b : ℕ) → Below o a b → a < o.size
  inside_left a b h = (laws.inside a b (T_from_true (o.below a b) h)).0

  pub inside_right : (a b : ℕ) → Below o a b → b < o.size
  inside_right a b h = (laws.inside a b (T_from_true (o.below a b) h)).1

  pub below_reflexive : (a : ℕ) → a < o.size → Below o a a
  below_reflexive a h = true_from_T (o.below a a) (laws.reflexive a h)

  pub below_antisymmetric : (a b : ℕ) → Below o a b → Below o b a → a ≡ b
  below_antisymmetric a b p q = laws.antisymmetric a b (T_from_true (o.below a b) p) (T_from_true (o.below b a) q)

  pub below_transitive : (a b c : ℕ) → Below o a b → Below o b c → Below o a c
  below_transitive a b c p q = true_from_T (o.below a c) (laws.transitive a b c (T_from_true (o.below a b) p) (T_from_true (o.below b c) q))

  pub bottom_below : (a : ℕ) → a < o.size → Below o 0 a
  bottom_below a h = true_from_T (o.below 0 a) (laws.bottom_below a h)

  pub below_top : (a : ℕ) → a < o.size → Below o a (top o)
  below_top a h = true_from_T (o.below a (top o)) (laws.top_above a h)

  pub bottom_inside : 0 < o.size
  bottom_inside = omega (arith, laws.at_least_two)

  -- what is at or below the bottom is the bottom
  pub below_bottom : (a : ℕ) → Below o a 0 → a ≡ 0
  below_bottom a h = below_antisymmetric a 0 h (bottom_below a (inside_left a 0 h))

  -- ---- meets

  pub is_meet_gives : (a b m : ℕ) → is_meet o a b m ≡ true → GreatestLower o a b m
  unfolding is_meet
  is_meet_gives a b m h =
      let parts = and_parts (o.below m a && o.below m b) (every (λ x. not (o.below x a && o.below x b) || o.below x m) o.size) h in
      let bounds = and_parts (o.below m a) (o.below m b) parts.0 in
      record {
        left = bounds.0;
        right = bounds.1;
        greatest = λ x p q. implied (o.below x a) (o.below x b) (o.below x m)
            (every_below (λ x. not (o.below x a && o.below x b) || o.below x m) o.size parts.1 x (inside_left x a p)) p q;
      }

  meet_some : (a b m : ℕ) → meet o a b ≡ Some m → GreatestLower o a b m
  unfolding meet
  meet_some a b m h = is_meet_gives a b m (least_passes (is_meet o a b) o.size m h).1

  -- the meet of two values is their greatest lower bound
  pub meet_greatest_lower : (a b : ℕ) → a < o.size → b < o.size → GreatestLower o a b (meet_of o a b)
  meet_greatest_lower a b p q =
      let found = laws.has_meet a b p q in
      subst (λ (x : ℕ). GreatestLower o a b x) (sym (ap value_or_bottom found.1)) (meet_some a b found.0 found.1)

  -- the meet is the bottom where a or b is no value
  pub meet_outside : (a b : ℕ) → (a < o.size → b < o.size → ⊥) → meet_of o a b ≡ 0
  meet_outside a b outside = go (meet o a b) refl
    where
      go : (x : Option ℕ) → meet o a b ≡ x → value_or_bottom x ≡ 0
      go None e = refl
      go (Some m) e = let bound = meet_some a b m e in absurd (outside (inside_right m a bound.left) (inside_right m b bound.right))

  -- both are values and the meet is their greatest lower bound, or the meet is the bottom
  pub meet_ways : (a b : ℕ) → ((a < o.size) × (b < o.size) × GreatestLower o a b (meet_of o a b)) ⊎ (meet_of o a b ≡ 0)
  meet_ways a b =
      elim (cases_lt a o.size) [
        | inr high ↦ inr (meet_outside a b (λ p q. omega arith))
        | inl p ↦ elim (cases_lt b o.size) [
          | inr high ↦ inr (meet_outside a b (λ p q. omega arith))
          | inl q ↦ inl (p, q, meet_greatest_lower a b p q)
        ]
      ]

  pub meet_inside : (a b : ℕ) → meet_of o a b < o.size
  meet_inside a b =
      elim (meet_ways a b) [
        | inl both ↦ inside_left (meet_of o a b) a both.2.left
        | inr none ↦ omega (arith, none, bottom_inside)
      ]

  pub meet_monotone : (a b c d : ℕ) → Below o a b → Below o c d → Below o (meet_of o a c) (meet_of o b d)
  meet_monotone a b c d p q =
      let low = meet_greatest_lower a c (inside_left a b p) (inside_left c d q) in
      (meet_greatest_lower b d (inside_right a b p) (inside_right c d q)).greatest (meet_of o a c)
      (below_transitive (meet_of o a c) a b low.left p) (below_transitive (meet_of o a c) c d low.right q)

  -- monotone in the second argument, whatever the first is
  pub meet_monotone_right : (w a b : ℕ) → Below o a b → Below o (meet_of o w a) (meet_of o w b)
  meet_monotone_right w a b h =
      elim (cases_lt w o.size) [
        | inl p ↦ meet_monotone w w a b (below_reflexive w p) h
        | inr high ↦ subst (λ (x : ℕ). Below o x (meet_of o w b)) (sym (meet_outside w a (λ p q. omega arith))) (bottom_below (meet_of o w b) (meet_inside w b))
      ]

  -- ---- joins

  pub is_join_gives : (a b j : ℕ) → is_join o a b j ≡ true → LeastUpper o a b j
  unfolding is_join
  is_join_gives a b j h =
      let parts = and_parts (o.below a j && o.below b j) (every (λ x. not (o.below a x && o.below b x) || o.below j x) o.size) h in
      let bounds = and_parts (o.below a j) (o.below b j) parts.0 in
      record {
        left = bounds.0;
        right = bounds.1;
        least = λ x p q. implied (o.below a x) (o.below b x) (o.below j x)
            (every_below (λ x. not (o.below a x && o.below b x) || o.below j x) o.size parts.1 x (inside_right a x p)) p q;
      }

  join_some : (a b j : ℕ) → join o a b ≡ Some j → LeastUpper o a b j
  unfolding join
  join_some a b j h = is_join_gives a b j (least_passes (is_join o a b) o.size j h).1

  -- the join of two values is their least upper bound
  pub join_least_upper : (a b : ℕ) → a < o.size → b < o.size → LeastUpper o a b (join_of o a b)
  join_least_upper a b p q =
      let found = laws.has_join a b p q in
      subst (λ (x : ℕ). LeastUpper o a b x) (sym (ap value_or_bottom found.1)) (join_some a b found.0 found.1)

  pub join_inside : (a b : ℕ) → a < o.size → b < o.size → join_of o a b < o.size
  join_inside a b p q = inside_right a (join_of o a b) (join_least_upper a b p q).left

  pub join_monotone : (a b c d : ℕ) → Below o a b → Below o c d → Below o (join_of o a c) (join_of o b d)
  join_monotone a b c d p q =
      let high = join_least_upper b d (inside_right a b p) (inside_right c d q) in
      (join_least_upper a c (inside_left a b p) (inside_left c d q)).least (join_of o b d)
      (below_transitive a b (join_of o b d) p high.left) (below_transitive c d (join_of o b d) q high.right)

  -- ---- overlap

  pub overlap_inside : (t w : ℕ) → overlap o t w < o.size
  unfolding overlap
  overlap_inside t w =
      gather_keeps (λ sum v. join_of o sum (meet_of o w v)) 0 t (λ n sum. sum < o.size) 64 bottom_inside
      (λ k sum below holds before. join_inside sum (meet_of o w k) before (meet_inside w k)) (λ k sum below absent before. before)

  -- overlap is at or above the meet of w with each value of t
  pub overlap_upper : (t w v : ℕ) → v < 64 → has t v ≡ true → Below o (meet_of o w v) (overlap o t w)
  unfolding overlap
  overlap_upper t w v below holds =
      (gather_keeps (λ sum v. join_of o sum (meet_of o w v)) 0 t
      (λ n sum. (sum < o.size) × (v < n → Below o (meet_of o w v) sum)) 64
      (bottom_inside, λ h. absurd (omega arith)) taken passed).1 below
    where
      taken : (k sum : ℕ) → k < 64 → has t k ≡ true → (sum < o.size) × (v < k → Below o (meet_of o w v) sum) →
          (join_of o sum (meet_of o w k) < o.size) × (v < suc k → Below o (meet_of o w v) (join_of o sum (meet_of o w k)))
      taken k sum inside here before =
          let bound = join_least_upper sum (meet_of o w k) before.0 (meet_inside w k) in (
            join_inside sum (meet_of o w k) before.0 (meet_inside w k),
            λ up. elim (cases_eq k v) [
              | inl same ↦ subst (λ (x : ℕ). Below o (meet_of o w x) (join_of o sum (meet_of o w k))) same bound.right
              | inr apart ↦ below_transitive (meet_of o w v) sum (join_of o sum (meet_of o w k)) (before.1 (omega arith)) bound.left
            ],
          )

      passed : (k sum : ℕ) → k < 64 → has t k ≡ false → (sum < o.size) × (v < k → Below o (meet_of o w v) sum) →
          (sum < o.size) × (v < suc k → Below o (meet_of o w v) sum)
      passed k sum inside absent before = (
        before.0,
        λ up. elim (cases_eq k v) [
          | inl same ↦ absurd (both_ways (has t k) absent (subst (λ (x : ℕ). has t x ≡ true) (sym same) holds))
          | inr apart ↦ before.1 (omega arith)
        ],
      )

  -- and at or below each value that is at or above all of these meets
  pub overlap_least : (t w x : ℕ) → x < o.size → ((v : ℕ) → v < 64 → has t v ≡ true → Below o (meet_of o w v) x) → Below o (overlap o t w) x
  unfolding overlap
  overlap_least t w x inside upper =
      gather_keeps (λ sum v. join_of o sum (meet_of o w v)) 0 t (λ n sum. Below o sum x) 64 (bottom_below x inside)
      (λ k sum below holds before. (join_least_upper sum (meet_of o w k) (inside_left sum x before) (meet_inside w k)).least x before (upper k below holds))
      (λ k sum below absent before. before)

  pub overlap_below : (t w : ℕ) → w < o.size → Below o (overlap o t w) w
  overlap_below t w inside = overlap_least t w w inside go
    where
      go : (v : ℕ) → v < 64 → has t v ≡ true → Below o (meet_of o w v) w
      go v below holds =
          elim (meet_ways w v) [
            | inl both ↦ both.2.left
            | inr none ↦ subst (λ (x : ℕ). Below o x w) (sym none) (bottom_below w inside)
          ]

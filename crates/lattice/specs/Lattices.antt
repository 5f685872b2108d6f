-- The laws of every lattice that the layers above use. Assumes nothing.
use Rattle.std.specs.Prelude.{◌≡◌, ℕ, ◌<◌, T, Some, None}
use Rattle.std.proofs.Common.{sym, ◌∙◌, arith}
use Rattle.lattice.specs.Order.{Order, Lattice, meet, join, top}
use Rattle.lattice.specs.Bounds.{Ordered, Meets, Joins}
use Rattle.lattice.specs.Algebra.{Algebra}
use Rattle.lattice.specs.Orders as orders
use Rattle.lattice.specs.Orders.{ordered, opposite, opposite_ordered, join_opposite, joins_meets, meets_joins}

-- joins of a partial order
module _ (o : Order) (l : Ordered o) where
  pub join_joins : (a b j : ℕ) → join o a b ≡ Some j → Joins o a b j
  join_joins a b j e = meets_joins (orders.meet_meets (opposite o) (opposite_ordered l) a b j (sym (join_opposite o a b) ∙ e))

  pub joins_join : (a b j : ℕ) → Joins o a b j → join o a b ≡ Some j
  joins_join a b j h = join_opposite o a b ∙ orders.meets_meet (opposite o) (opposite_ordered l) a b j (joins_meets h)

  pub joins_unique : (a b j k : ℕ) → Joins o a b j → Joins o a b k → j ≡ k
  joins_unique a b j k h g = orders.meets_unique (opposite o) (opposite_ordered l) a b j k (joins_meets h) (joins_meets g)

  pub join_outside : (a b : ℕ) → ((a < o.size) → (b < o.size) → ⊥) → join o a b ≡ None
  join_outside a b out = join_opposite o a b ∙ orders.meet_outside (opposite o) (opposite_ordered l) a b out

  pub join_comm : (a b : ℕ) → join o a b ≡ join o b a
  join_comm a b = join_opposite o a b ∙ orders.meet_comm (opposite o) (opposite_ordered l) a b ∙ sym (join_opposite o b a)

  pub join_idem : (a : ℕ) → a < o.size → join o a a ≡ Some a
  join_idem a h = join_opposite o a a ∙ orders.meet_idem (opposite o) (opposite_ordered l) a h

  -- a is at or below b exactly where their join is b
  pub below_join : (a b : ℕ) → T (o.below a b) → join o a b ≡ Some b
  below_join a b h = join_comm a b ∙ join_opposite o b a ∙ orders.below_meet (opposite o) (opposite_ordered l) b a h

  pub join_below : (a b : ℕ) → join o a b ≡ Some b → T (o.below a b)
  join_below a b e = (join_joins a b b e).above_left

  pub join_mono : (a b c d i j : ℕ) → T (o.below a c) → T (o.below b d) → join o a b ≡ Some i → join o c d ≡ Some j → T (o.below i j)
  join_mono a b c d i j p q e f =
      let h = join_joins c d j f in
      (join_joins a b i e).least j (l.transitive a c j p h.above_left) (l.transitive b d j q h.above_right)

  pub join_inside : (a b j : ℕ) → join o a b ≡ Some j → j < o.size
  join_inside a b j e = (l.inside a j (join_joins a b j e).above_left).1

  pub join_assoc : (a b c ab bc j : ℕ) → join o a b ≡ Some ab → join o b c ≡ Some bc → join o ab c ≡ Some j → join o a bc ≡ Some j
  join_assoc a b c ab bc j e f g =
      join_opposite o a bc
      ∙ orders.meet_assoc (opposite o) (opposite_ordered l) a b c ab bc j
      (sym (join_opposite o a b) ∙ e) (sym (join_opposite o b c) ∙ f) (sym (join_opposite o ab c) ∙ g)

-- bounds of a lattice
module _ (o : Order) (l : Lattice o) where
  -- the meet, with what it is
  pub the_meet : (a b : ℕ) → a < o.size → b < o.size → (m : ℕ) × (meet o a b ≡ Some m) × Meets o a b m
  the_meet a b p q = let w = l.has_meet a b p q in (w.0, w.1, orders.meet_meets o (ordered l) a b w.0 w.1)

  pub the_join : (a b : ℕ) → a < o.size → b < o.size → (j : ℕ) × (join o a b ≡ Some j) × Joins o a b j
  the_join a b p q = let w = l.has_join a b p q in (w.0, w.1, join_joins o (ordered l) a b w.0 w.1)

  pub meet_bottom : (a : ℕ) → a < o.size → meet o 0 a ≡ Some 0
  meet_bottom a h = orders.below_meet o (ordered l) 0 a (l.bottom_below a h)

  pub meet_top : (a : ℕ) → a < o.size → meet o a (top o) ≡ Some a
  meet_top a h = orders.below_meet o (ordered l) a (top o) (l.top_above a h)

  pub join_bottom : (a : ℕ) → a < o.size → join o 0 a ≡ Some a
  join_bottom a h = below_join o (ordered l) 0 a (l.bottom_below a h)

  pub join_top : (a : ℕ) → a < o.size → join o a (top o) ≡ Some (top o)
  join_top a h = below_join o (ordered l) a (top o) (l.top_above a h)

  -- only the bottom is at or below the bottom
  pub below_bottom : (a : ℕ) → T (o.below a 0) → a ≡ 0
  below_bottom a h = l.antisymmetric a 0 h (l.bottom_below a (l.inside a 0 h).0)

  pub positive : 0 < o.size
  positive = let h = l.at_least_two in omega arith

  pub algebra : Algebra o
  algebra = record {
    meet_meets = orders.meet_meets o (ordered l);
    meets_meet = orders.meets_meet o (ordered l);
    join_joins = join_joins o (ordered l);
    joins_join = joins_join o (ordered l);
    meet_idempotent = orders.meet_idem o (ordered l);
    join_idempotent = join_idem o (ordered l);
    meet_commutative = orders.meet_comm o (ordered l);
    join_commutative = join_comm o (ordered l);
    meet_associative = orders.meet_assoc o (ordered l);
    join_associative = join_assoc o (ordered l);
    meet_monotone = orders.meet_mono o (ordered l);
    join_monotone = join_mono o (ordered l);
    below_meet = orders.below_meet o (ordered l);
    meet_below = orders.meet_below o (ordered l);
    below_join = below_join o (ordered l);
    join_below = join_below o (ordered l);
    meet_bottom = meet_bottom;
    join_bottom = join_bottom;
    meet_top = meet_top;
    join_top = join_top;
  }

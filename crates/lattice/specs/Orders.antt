-- What the laws of an order give of meets and joins. Assumes nothing.
use Rattle.std.specs.Prelude.{◌≡◌, ℕ, ◌<◌, Bool, not, ◌&&◌, ◌||◌, T, Some, None, Option, refl}
use Rattle.std.proofs.Common.{sym, ◌∙◌}
use Rattle.lattice.specs.Sets.{every}
use Rattle.lattice.specs.Order.{Order, Lattice, is_meet, is_join, meet, join}
use Rattle.lattice.specs.Bounds.{Ordered, Meets, Joins}
use Rattle.lattice.specs.Tests.{T_and, and_T, T_imp, imp_T}
use Rattle.lattice.specs.SetsLemmas.{every_all, all_every, least_some, least_only, least_is_none, none_some}

pub ordered : {o : Order} → Lattice o → Ordered o
ordered l = record {
  inside = l.inside;
  reflexive = l.reflexive;
  antisymmetric = l.antisymmetric;
  transitive = l.transitive;
}

-- the order turned round: its meets are the joins
abbrev pub opposite : Order → Order
opposite o = record { size = o.size; below = λ a b. o.below b a }

pub opposite_ordered : {o : Order} → Ordered o → Ordered (opposite o)
opposite_ordered l = record {
  inside = λ a b h. ((l.inside b a h).1, (l.inside b a h).0);
  reflexive = l.reflexive;
  antisymmetric = λ a b h k. l.antisymmetric a b k h;
  transitive = λ a b c h k. l.transitive c b a k h;
}

pub join_opposite : (o : Order) (a b : ℕ) → join o a b ≡ meet (opposite o) a b
unfolding join meet is_join is_meet
join_opposite o a b = refl

pub joins_meets : {o : Order} {a b j : ℕ} → Joins o a b j → Meets (opposite o) a b j
joins_meets h = record { below_left = h.above_left; below_right = h.above_right; greatest = h.least }

pub meets_joins : {o : Order} {a b j : ℕ} → Meets (opposite o) a b j → Joins o a b j
meets_joins h = record { above_left = h.below_left; above_right = h.below_right; least = h.greatest }

module _ (o : Order) (l : Ordered o) where
  test_meets : (a b m : ℕ) → T (is_meet o a b m) → Meets o a b m
  unfolding is_meet
  test_meets a b m h =
      let P : ℕ → Bool = λ x. not (o.below x a && o.below x b) || o.below x m in
      let both = T_and (o.below m a && o.below m b) (every P o.size) h in
      let low = T_and (o.below m a) (o.below m b) both.0 in
      record {
        below_left = low.0;
        below_right = low.1;
        greatest = λ x p q.
            T_imp (o.below x a && o.below x b) (o.below x m)
            (every_all P o.size both.1 x (l.inside x a p).0)
            (and_T (o.below x a) (o.below x b) p q);
      }

  meets_test : (a b m : ℕ) → Meets o a b m → T (is_meet o a b m)
  unfolding is_meet
  meets_test a b m h =
      let P : ℕ → Bool = λ x. not (o.below x a && o.below x b) || o.below x m in
      and_T (o.below m a && o.below m b) (every P o.size)
      (and_T (o.below m a) (o.below m b) h.below_left h.below_right)
      (all_every P o.size
      (λ x _. imp_T (o.below x a && o.below x b) (o.below x m)
      (λ t. h.greatest x (T_and (o.below x a) (o.below x b) t).0 (T_and (o.below x a) (o.below x b) t).1)))

  pub meets_unique : (a b m n : ℕ) → Meets o a b m → Meets o a b n → m ≡ n
  meets_unique a b m n h k =
      l.antisymmetric m n
      (k.greatest m h.below_left h.below_right)
      (h.greatest n k.below_left k.below_right)

  -- `meet` finds exactly the greatest lower bound
  pub meet_meets : (a b m : ℕ) → meet o a b ≡ Some m → Meets o a b m
  unfolding meet
  meet_meets a b m e = test_meets a b m (least_some (is_meet o a b) o.size m e).1

  pub meets_meet : (a b m : ℕ) → Meets o a b m → meet o a b ≡ Some m
  unfolding meet
  meets_meet a b m h =
      least_only (is_meet o a b) o.size m (l.inside m a h.below_left).0 (meets_test a b m h)
      (λ k t. meets_unique a b k m (test_meets a b k t) h)

  -- a value outside the order has no meet
  pub meet_outside : (a b : ℕ) → ((a < o.size) → (b < o.size) → ⊥) → meet o a b ≡ None
  unfolding meet
  meet_outside a b out =
      least_is_none (is_meet o a b) o.size
      (λ m _ t. let h = test_meets a b m t in
      out (l.inside m a h.below_left).1 (l.inside m b h.below_right).1)

  pub meet_comm : (a b : ℕ) → meet o a b ≡ meet o b a
  meet_comm a b = go (meet o a b) refl
    where
      turned : (x y m : ℕ) → Meets o x y m → Meets o y x m
      turned x y m h = record { below_left = h.below_right; below_right = h.below_left; greatest = λ z p q. h.greatest z q p }

      back : (m : Option ℕ) → meet o a b ≡ None → meet o b a ≡ m → meet o a b ≡ meet o b a
      back (Some m) e f = absurd (none_some (meet o a b) m e (meets_meet a b m (turned b a m (meet_meets b a m f))))
      back None e f = e ∙ sym f

      go : (m : Option ℕ) → meet o a b ≡ m → meet o a b ≡ meet o b a
      go (Some m) e = e ∙ sym (meets_meet b a m (turned a b m (meet_meets a b m e)))
      go None e = back (meet o b a) e refl

  pub meet_idem : (a : ℕ) → a < o.size → meet o a a ≡ Some a
  meet_idem a h =
      meets_meet a a a (record { below_left = l.reflexive a h; below_right = l.reflexive a h; greatest = λ x p _. p })

  pub below_meet : (a b : ℕ) → T (o.below a b) → meet o a b ≡ Some a
  below_meet a b h =
      meets_meet a b a (record { below_left = l.reflexive a (l.inside a b h).0; below_right = h; greatest = λ x p _. p })

  pub meet_below : (a b : ℕ) → meet o a b ≡ Some a → T (o.below a b)
  meet_below a b e = (meet_meets a b a e).below_right

  pub meet_mono : (a b c d m n : ℕ) → T (o.below a c) → T (o.below b d) → meet o a b ≡ Some m → meet o c d ≡ Some n → T (o.below m n)
  meet_mono a b c d m n p q e f =
      let h = meet_meets a b m e in
      (meet_meets c d n f).greatest m (l.transitive m a c h.below_left p) (l.transitive m b d h.below_right q)

  pub meet_inside : (a b m : ℕ) → meet o a b ≡ Some m → m < o.size
  meet_inside a b m e = (l.inside m a (meet_meets a b m e).below_left).0

  pub meet_assoc : (a b c ab bc m : ℕ) → meet o a b ≡ Some ab → meet o b c ≡ Some bc → meet o ab c ≡ Some m → meet o a bc ≡ Some m
  meet_assoc a b c ab bc m e f g =
      let h = meet_meets a b ab e in
      let i = meet_meets b c bc f in
      let j = meet_meets ab c m g in
      meets_meet a bc m (record {
        below_left = l.transitive m ab a j.below_left h.below_left;
        below_right = i.greatest m (l.transitive m ab b j.below_left h.below_right) j.below_right;
        greatest = λ x p q.
            j.greatest x
            (h.greatest x p (l.transitive x bc b q i.below_left))
            (l.transitive x bc c q i.below_right);
      })

-- A ladder of 2 to 64 levels is a lattice: its meet is the lower level and its join the higher. Assumes nothing.
use Rattle.std.specs.Prelude.{◌≡◌, ℕ, ◌-◌, ◌<◌, ◌≤◌, min, max, Bool, true, false, T, Some, None, nat_le, nat_lt, refl}
use Rattle.std.specs.Bool.{then_some}
use Rattle.std.proofs.Common.{arith, ltb→lt, leb→le, lt→ltb, le→leb}
use Rattle.lattice.specs.Order.{Lattice, ladder, meet, join}
use Rattle.lattice.specs.Bounds.{Ordered}
use Rattle.lattice.specs.Tests.{T_and, and_T, from_true, from_false}
use Rattle.lattice.specs.Orders.{meets_meet, meet_outside}
use Rattle.lattice.specs.Lattices.{joins_join, join_outside}

module _ (n : ℕ) where
  under : (a b : ℕ) → T ((ladder n).below a b) → (b < n) × (a ≤ b)
  under a b h = let w = T_and (nat_lt b n) (nat_le a b) h in (ltb→lt b n w.0, leb→le a b w.1)

  over : (a b : ℕ) → b < n → a ≤ b → T ((ladder n).below a b)
  over a b h k = and_T (nat_lt b n) (nat_le a b) (lt→ltb b n h) (le→leb a b k)

  ladder_ordered : Ordered (ladder n)
  ladder_ordered = record {
    inside = λ a b h. let w = under a b h in omega arith;
    reflexive = λ a h. over a a h (omega arith);
    antisymmetric = λ a b h k. let v = under a b h in let w = under b a k in omega arith;
    transitive = λ a b c h k. let v = under a b h in let w = under b c k in over a c (omega arith) (omega arith);
  }

  pub ladder_meet : (a b : ℕ) → a < n → b < n → meet (ladder n) a b ≡ Some (min a b)
  ladder_meet a b p q = meets_meet (ladder n) ladder_ordered a b (min a b) (record {
    below_left = over (min a b) a p (omega arith);
    below_right = over (min a b) b q (omega arith);
    greatest = λ x h k. let v = under x a h in let w = under x b k in over x (min a b) (omega arith) (omega arith);
  })

  pub ladder_join : (a b : ℕ) → a < n → b < n → join (ladder n) a b ≡ Some (max a b)
  ladder_join a b p q = joins_join (ladder n) ladder_ordered a b (max a b) (record {
    above_left = over a (max a b) (omega arith) (omega arith);
    above_right = over b (max a b) (omega arith) (omega arith);
    least = λ x h k. let v = under a x h in let w = under b x k in over (max a b) x (omega arith) (omega arith);
  })

  pub ladder_no_meet : (a b : ℕ) → ((a < n) → (b < n) → ⊥) → meet (ladder n) a b ≡ None
  ladder_no_meet a b out = meet_outside (ladder n) ladder_ordered a b out

  pub ladder_no_join : (a b : ℕ) → ((a < n) → (b < n) → ⊥) → join (ladder n) a b ≡ None
  ladder_no_join a b out = join_outside (ladder n) ladder_ordered a b out

  -- both at once, as the code asks
  pub ladder_meets : (a b : ℕ) → meet (ladder n) a b ≡ then_some (nat_lt (max a b) n) (min a b)
  ladder_meets a b = go (nat_lt (max a b) n) refl
    where
      go : (t : Bool) → nat_lt (max a b) n ≡ t → meet (ladder n) a b ≡ then_some t (min a b)
      go true e = let lt = ltb→lt (max a b) n (from_true _ e) in ladder_meet a b (omega arith) (omega arith)
      go false e = ladder_no_meet a b (λ p q. from_false _ e (lt→ltb (max a b) n (omega arith)))

  -- both at once, as the code asks
  pub ladder_joins : (a b : ℕ) → join (ladder n) a b ≡ then_some (nat_lt (max a b) n) (max a b)
  ladder_joins a b = go (nat_lt (max a b) n) refl
    where
      go : (t : Bool) → nat_lt (max a b) n ≡ t → join (ladder n) a b ≡ then_some t (max a b)
      go true e = let lt = ltb→lt (max a b) n (from_true _ e) in ladder_join a b (omega arith) (omega arith)
      go false e = ladder_no_join a b (λ p q. from_false _ e (lt→ltb (max a b) n (omega arith)))

  pub ladder_lattice : 2 ≤ n → n ≤ 64 → Lattice (ladder n)
  ladder_lattice low high = record {
    at_least_two = low;
    at_most_64 = high;
    inside = ladder_ordered.inside;
    reflexive = ladder_ordered.reflexive;
    antisymmetric = ladder_ordered.antisymmetric;
    transitive = ladder_ordered.transitive;
    bottom_below = λ a h. over 0 a h (omega arith);
    top_above = λ a h. over a (n - 1) (omega arith) (omega arith);
    has_meet = λ a b p q. (min a b, ladder_meet a b p q);
    has_join = λ a b p q. (max a b, ladder_join a b p q);
  }

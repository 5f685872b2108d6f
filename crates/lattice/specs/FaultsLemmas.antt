-- An order without faults is a lattice, and a lattice has none. Assumes nothing.
use Rattle.std.specs.Prelude.{◌≡◌, ℕ, zero, suc, ◌<◌, ◌≤◌, Bool, true, false, not, ◌&&◌, T, ◌⊎◌, is_some as option_is_some, Some, None, Ok, Err, Option, ◌==◌, refl}
use Rattle.std.proofs.Math.Logic.{inl, inr}
use Rattle.std.proofs.Math.Path.{sym, subst}
use Rattle.std.proofs.Common.{ap, ◌∙◌, eqb→eq}
use native.Mathlib.Omega.{arith}
use Rattle.std.proofs.Math.Dec.{not_T, T_not}
use Rattle.std.proofs.lemmas.Bool.{cases_eq, cases_lt, eq-eqb}
use Rattle.lattice.specs.Sets.{least}
use Rattle.lattice.specs.Order.{Order, Lattice, meet, join, top}
use Rattle.lattice.specs.Bounds.{Ordered}
use Rattle.lattice.specs.Faults.{irreflexive, twinned, passes, gapped, unbounded, joinless, at_row, or_else, order_fault, answer}
use Rattle.refusals.specs.declared.refusal.Refusal.{Refusal}
use Rattle.refusals.specs.declared.refusal.Reason.{Reason}
use Rattle.refusals.specs.declared.refusal.Reason.TheVariants.{NotReflexive, NotAntisymmetric, NotTransitive, NotBounded, NoJoin}
use Rattle.lattice.specs.Tests.{T_and, and_T, decided, from_true}
use Rattle.lattice.specs.SetsLemmas.{some_found, found_some, least_none, least_is_none, none_some}
use Rattle.lattice.specs.Orders.{meets_meet}
use Rattle.lattice.specs.Lattices.{join_joins}

pub not_not : (b : Bool) → (T (not b) → ⊥) → T b
not_not true f = tt
not_not false f = f tt

pub or_else_none : (x y : Option Refusal) → or_else x y ≡ None → (x ≡ None) × (y ≡ None)
or_else_none None y e = (refl, e)
or_else_none (Some f) y e = absurd (none_some (Some f) f e refl)

pub none_or_else : (x y : Option Refusal) → x ≡ None → y ≡ None → or_else x y ≡ None
none_or_else x y p q = ap (λ z. or_else z y) p ∙ q

pub at_row_none : (why : Reason) (x : Option ℕ) → at_row why x ≡ None → x ≡ None
at_row_none why None e = refl
at_row_none why (Some i) e = absurd (none_some (at_row why (Some i)) _ e refl)

pub none_at_row : (why : Reason) (x : Option ℕ) → x ≡ None → at_row why x ≡ None
none_at_row why x e = ap (at_row why) e

is_some : (o : Option ℕ) → T (option_is_some o) → (m : ℕ) × (o ≡ Some m)
is_some None h = absurd h
is_some (Some m) h = (m, refl)

some_is : (o : Option ℕ) (m : ℕ) → o ≡ Some m → T (option_is_some o)
some_is o m e = subst (λ x. T (option_is_some x)) (sym e) tt

-- what each test says of every value when none is at fault
pub record Sound (o : Order) : Type 0 where
  pub irreflexive_none : least (irreflexive o) o.size ≡ None
  pub twinned_none : least (twinned o) o.size ≡ None
  pub gapped_none : least (gapped o) o.size ≡ None
  pub unbounded_none : least (unbounded o) o.size ≡ None
  pub joinless_none : least (joinless o) o.size ≡ None

pub sound_parts : (o : Order) → order_fault o ≡ None → Sound o
unfolding order_fault
sound_parts o e =
    let a = or_else_none _ _ e in
    let b = or_else_none _ _ a.1 in
    let c = or_else_none _ _ b.1 in
    let d = or_else_none _ _ c.1 in
    record {
      irreflexive_none = at_row_none _ _ a.0;
      twinned_none = at_row_none _ _ b.0;
      gapped_none = at_row_none _ _ c.0;
      unbounded_none = at_row_none _ _ d.0;
      joinless_none = at_row_none _ _ d.1;
    }

pub parts_sound : (o : Order) → Sound o → order_fault o ≡ None
unfolding order_fault
parts_sound o s =
    none_or_else _ _ (none_at_row NotReflexive _ s.irreflexive_none)
    (none_or_else _ _ (none_at_row NotAntisymmetric _ s.twinned_none)
    (none_or_else _ _ (none_at_row NotTransitive _ s.gapped_none)
    (none_or_else _ _ (none_at_row NotBounded _ s.unbounded_none) (none_at_row NoJoin _ s.joinless_none))))

module _ (o : Order) (inside : (a b : ℕ) → T (o.below a b) → (a < o.size) × (b < o.size)) where
  pub reflexive_from : least (irreflexive o) o.size ≡ None → (a : ℕ) → a < o.size → T (o.below a a)
  unfolding irreflexive
  reflexive_from e a h = not_not (o.below a a) (λ t. least_none (irreflexive o) o.size e a h t)

  pub antisymmetric_from : least (twinned o) o.size ≡ None → (a b : ℕ) → T (o.below a b) → T (o.below b a) → a ≡ b
  unfolding twinned
  antisymmetric_from e a b h k =
      elim (cases_eq b a) [
        | inl same ↦ sym same
        | inr other ↦
            absurd (least_none (twinned o) o.size e a (inside a b h).0
            (found_some (λ j. not (j == a) && (o.below a j && o.below j a)) o.size b (inside a b h).1
            (and_T (not (b == a)) (o.below a b && o.below b a) (not_T (b == a) (λ t. other (eqb→eq b a t)))
            (and_T (o.below a b) (o.below b a) h k))))
      ]

  pub transitive_from : least (gapped o) o.size ≡ None → (a b c : ℕ) → T (o.below a b) → T (o.below b c) → T (o.below a c)
  unfolding gapped passes
  transitive_from e a b c h k =
      elim (decided (o.below a c)) [
        | inl t ↦ t
        | inr f ↦
            absurd (least_none (gapped o) o.size e a (inside a b h).0
            (found_some (λ j. o.below a j && passes o a j) o.size b (inside a b h).1
            (and_T (o.below a b) (passes o a b) h
            (found_some (λ x. o.below b x && not (o.below a x)) o.size c (inside b c k).1
            (and_T (o.below b c) (not (o.below a c)) k (not_T (o.below a c) f))))))
      ]

  pub bounds_from : least (unbounded o) o.size ≡ None → (a : ℕ) → a < o.size → T (o.below 0 a) × T (o.below a (top o))
  unfolding unbounded
  bounds_from e a h =
      T_and (o.below 0 a) (o.below a (top o))
      (not_not (o.below 0 a && o.below a (top o)) (λ t. least_none (unbounded o) o.size e a h t))

  pub joins_from : least (joinless o) o.size ≡ None → (a b : ℕ) → a < o.size → b < o.size → (j : ℕ) × (join o a b ≡ Some j)
  unfolding joinless
  joins_from e a b h k =
      is_some (join o a b)
      (not_not (option_is_some (join o a b))
      (λ t. least_none (joinless o) o.size e a h (found_some (λ j. not (option_is_some (join o a j))) o.size b k t)))

  pub ordered_from : least (irreflexive o) o.size ≡ None → least (twinned o) o.size ≡ None → least (gapped o) o.size ≡ None → Ordered o
  ordered_from r t g = record {
    inside = inside;
    reflexive = reflexive_from r;
    antisymmetric = antisymmetric_from t;
    transitive = transitive_from g;
  }

  -- an order with a bottom and all joins has all meets: the meet is the join of the lower bounds
  module _ (l : Ordered o) (bottom : (a : ℕ) → a < o.size → T (o.below 0 a))
      (joins : (a b : ℕ) → a < o.size → b < o.size → (j : ℕ) × (join o a b ≡ Some j)) where
    Upper : ℕ → ℕ → ℕ → ℕ → Type 0
    Upper a b k m = T (o.below m a) × T (o.below m b) × ((x : ℕ) → x < k → T (o.below x a) → T (o.below x b) → T (o.below x m))

    upper_more : (a b k m : ℕ) → Upper a b k m → T (o.below k a && o.below k b) ⊎ (T (o.below k a && o.below k b) → ⊥) → (n : ℕ) × Upper a b (suc k) n
    unfolding Upper
    upper_more a b k m u (inl t) =
        let w = T_and (o.below k a) (o.below k b) t in
        let j = joins m k (l.inside m a u.0).0 (l.inside k a w.0).0 in
        let h = join_joins o l m k j.0 j.1 in (
          j.0,
          (
            h.least a u.0 w.0,
            h.least b u.1 w.1,
            λ x lt p q. elim (cases_lt x k) [
              | inl less ↦ l.transitive x m j.0 (u.2 x less p q) h.above_left
              | inr more ↦ subst (λ y. T (o.below y j.0)) (let e : k ≡ x = omega arith in e) h.above_right
            ],
          ),
        )
    upper_more a b k m u (inr f) = (
      m,
      (
        u.0,
        u.1,
        λ x lt p q. elim (cases_lt x k) [
          | inl less ↦ u.2 x less p q
          | inr more ↦
              let e : x ≡ k = omega arith in
              absurd (f (and_T (o.below k a) (o.below k b) (subst (λ y. T (o.below y a)) e p) (subst (λ y. T (o.below y b)) e q)))
        ],
      ),
    )

    upper : (a b : ℕ) → a < o.size → b < o.size → (k : ℕ) → (m : ℕ) × Upper a b k m
    unfolding Upper
    upper a b h g zero = (0, (bottom a h, bottom b g, λ x lt p q. let z : ⊥ = omega arith in absurd z))
    upper a b h g (suc k) = let w = upper a b h g k in upper_more a b k w.0 w.1 (decided (o.below k a && o.below k b))

    pub meets_from : (a b : ℕ) → a < o.size → b < o.size → (m : ℕ) × (meet o a b ≡ Some m)
    unfolding Upper
    meets_from a b h g =
        let w = upper a b h g o.size in (
          w.0,
          meets_meet o l a b w.0 (record {
            below_left = w.1.0;
            below_right = w.1.1;
            greatest = λ x p q. w.1.2 x (inside x a p).0 p q;
          }),
        )

  pub sound_lattice : 2 ≤ o.size → o.size ≤ 64 → order_fault o ≡ None → Lattice o
  sound_lattice low high e =
      let s = sound_parts o e in
      let l = ordered_from s.irreflexive_none s.twinned_none s.gapped_none in
      record {
        at_least_two = low;
        at_most_64 = high;
        inside = inside;
        reflexive = l.reflexive;
        antisymmetric = l.antisymmetric;
        transitive = l.transitive;
        bottom_below = λ a h. (bounds_from s.unbounded_none a h).0;
        top_above = λ a h. (bounds_from s.unbounded_none a h).1;
        has_meet = meets_from l (λ a h. (bounds_from s.unbounded_none a h).0) (joins_from s.joinless_none);
        has_join = joins_from s.joinless_none;
      }

module _ (o : Order) (l : Lattice o) where
  never_irreflexive : (a : ℕ) → a < o.size → T (irreflexive o a) → ⊥
  unfolding irreflexive
  never_irreflexive a h t = T_not (o.below a a) t (l.reflexive a h)

  never_twinned : (a : ℕ) → a < o.size → T (twinned o a) → ⊥
  unfolding twinned
  never_twinned a h t =
      let w = some_found (λ j. not (j == a) && (o.below a j && o.below j a)) o.size t in
      let b = w.0 in
      let u = T_and (not (b == a)) (o.below a b && o.below b a) w.2 in
      let v = T_and (o.below a b) (o.below b a) u.1 in
      T_not (b == a) u.0 (from_true (b == a) (eq-eqb b a (l.antisymmetric b a v.1 v.0)))

  never_gapped : (a : ℕ) → a < o.size → T (gapped o a) → ⊥
  unfolding gapped passes
  never_gapped a h t =
      let w = some_found (λ j. o.below a j && passes o a j) o.size t in
      let b = w.0 in
      let u = T_and (o.below a b) (passes o a b) w.2 in
      let x = some_found (λ k. o.below b k && not (o.below a k)) o.size u.1 in
      let c = x.0 in
      let v = T_and (o.below b c) (not (o.below a c)) x.2 in
      T_not (o.below a c) v.1 (l.transitive a b c u.0 v.0)

  never_unbounded : (a : ℕ) → a < o.size → T (unbounded o a) → ⊥
  unfolding unbounded
  never_unbounded a h t =
      T_not (o.below 0 a && o.below a (top o)) t (and_T (o.below 0 a) (o.below a (top o)) (l.bottom_below a h) (l.top_above a h))

  never_joinless : (a : ℕ) → a < o.size → T (joinless o a) → ⊥
  unfolding joinless
  never_joinless a h t =
      let w = some_found (λ j. not (option_is_some (join o a j))) o.size t in
      let j = l.has_join a w.0 h w.1 in
      T_not (option_is_some (join o a w.0)) w.2 (some_is (join o a w.0) j.0 j.1)

  pub lattice_sound : order_fault o ≡ None
  lattice_sound = parts_sound o (record {
    irreflexive_none = least_is_none (irreflexive o) o.size never_irreflexive;
    twinned_none = least_is_none (twinned o) o.size never_twinned;
    gapped_none = least_is_none (gapped o) o.size never_gapped;
    unbounded_none = least_is_none (unbounded o) o.size never_unbounded;
    joinless_none = least_is_none (joinless o) o.size never_joinless;
  })

-- a reason that holds nowhere is passed over, and one that holds is the answer
pub skip : (why : Reason) (x : Option ℕ) (next : Option Refusal) → None ≡ x → or_else (at_row why x) next ≡ next
skip why x next e = ap (λ z. or_else (at_row why z) next) (sym e)

pub stop : (why : Reason) (x : Option ℕ) (i : ℕ) (next : Option Refusal) → Some i ≡ x → or_else (at_row why x) next ≡ Some (record { reason = why; place = i })
stop why x i next e = ap (λ z. or_else (at_row why z) next) (sym e)

pub last_row : (why : Reason) (x : Option ℕ) (i : ℕ) → Some i ≡ x → at_row why x ≡ Some (record { reason = why; place = i })
last_row why x i e = ap (at_row why) (sym e)

-- the same of the answers: a test that found nothing passes on, and one that refused is the answer
pub answer_none : (x : Option Refusal) → Ok tt ≡ answer x → x ≡ None
answer_none None e = refl
answer_none (Some f) e = let z : ◌≡◌ {A = ℕ} 0 1 = cc in absurd (omega arith)

pub found_none : (why : Reason) (x : Option ℕ) → Ok tt ≡ answer (at_row why x) → x ≡ None
found_none why x e = at_row_none why x (answer_none (at_row why x) e)

pub pass_on : (why : Reason) (x : Option ℕ) (next : Option Refusal) → Ok tt ≡ answer (at_row why x) → answer next ≡ answer (or_else (at_row why x) next)
pass_on why x next e = ap answer (sym (skip why x next (sym (found_none why x e))))

pub refuse_here : (why : Reason) (x : Option ℕ) (next : Option Refusal) (f : Refusal) → Err f ≡ answer (at_row why x) → Err f ≡ answer (or_else (at_row why x) next)
refuse_here why None next f e = let z : ◌≡◌ {A = ℕ} 0 1 = cc in absurd (omega arith)
refuse_here why (Some i) next f e = e

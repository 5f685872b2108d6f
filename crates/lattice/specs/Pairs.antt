-- The pair of two lattices is a lattice. Its values are pairs of parts that are both 0 or neither 0, and a value is at or below
-- another where both its parts are. Assumes nothing.
use Rattle.std.specs.Prelude.{◌≡◌, ℕ, zero, suc, ◌+◌, ◌-◌, ◌*◌, ◌/◌, ◌%◌, ◌<◌, ◌≤◌, Bool, true, false, cond, not, ◌&&◌, ◌||◌, T, ◌⊎◌, IfSome, Some, None, Option, ◌==◌, ◌≢◌, nat_lt, unwrap_or, refl}
use Rattle.std.proofs.Common.{inl, inr, sym, ap, ap₂, subst, subst₂, ◌∙◌, arith, mul-pos, mul_comm, suc-mul, zero-mul, div-add-mod', ltb→lt, lt→ltb, eqb→eq, leb→le, T_not}
use Rattle.std.proofs.Math.Dec.{not_T}
use Rattle.std.proofs.lemmas.Nat.{div-mul-add, mod-mul-add, mul-add-lt, div_below, mod_below}
use Rattle.std.proofs.lemmas.Bool.{cases_eq, eq-eqb, ne_eqb, cond-true, cond-false, or_left, or_right, or_from}
use Rattle.lattice.specs.Order.{Order, Lattice, meet, join, top, ladder, pair, paired, pair_size, first_part, second_part, fits}
use Rattle.lattice.specs.Bounds.{Ordered, Meets, Joins}
use Rattle.lattice.specs.Splits.{parts_of, split_of}
use Rattle.lattice.specs.declared.pair.Parts.{Parts}
use Rattle.lattice.specs.Codes.{left_part, right_part, code, code_of, fitted_size}
use Rattle.lattice.specs.Tests.{T_and, and_T, T_or, or_T_left, or_T_right, is_true, from_true, is_false, from_false, same_tests}
use Rattle.lattice.specs.Orders.{ordered, meets_meet, meet_outside, meet_inside}
use Rattle.lattice.specs.Lattices.{the_meet, the_join, joins_join, join_outside, join_inside, below_bottom}
use Rattle.lattice.specs.Ladders.{ladder_lattice}

-- numbers: k columns to a row
module _ (k : ℕ) (pos : 0 < k) where
  pub left_zero : (c : ℕ) → c ≡ 0 → left_part k c ≡ 0
  left_zero c e = cond-true (c == 0) 0 ((c - 1) / k + 1) (eq-eqb c 0 e)

  pub right_zero : (c : ℕ) → c ≡ 0 → right_part k c ≡ 0
  right_zero c e = cond-true (c == 0) 0 ((c - 1) % k + 1) (eq-eqb c 0 e)

  pub left_other : (c : ℕ) → (c ≢ 0) → left_part k c ≡ (c - 1) / k + 1
  left_other c n = cond-false (c == 0) 0 ((c - 1) / k + 1) (ne_eqb c 0 n)

  pub right_other : (c : ℕ) → (c ≢ 0) → right_part k c ≡ (c - 1) % k + 1
  right_other c n = cond-false (c == 0) 0 ((c - 1) % k + 1) (ne_eqb c 0 n)

  pub code_zero : (a b : ℕ) → (a ≡ 0) ⊎ (b ≡ 0) → code k a b ≡ 0
  code_zero a b h =
      cond-true (a == 0 || b == 0) 0 ((a - 1) * k + b)
      (elim h [ inl e ↦ or_left (a == 0) (b == 0) (eq-eqb a 0 e) | inr e ↦ or_right (a == 0) (b == 0) (eq-eqb b 0 e) ])

  pub code_other : (a b : ℕ) → (a ≢ 0) → (b ≢ 0) → code k a b ≡ (a - 1) * k + b
  code_other a b m n =
      cond-false (a == 0 || b == 0) 0 ((a - 1) * k + b) (or_from (a == 0) (b == 0) (ne_eqb a 0 m) (ne_eqb b 0 n))

  -- the code of the parts is the value
  pub code_parts : (c : ℕ) → code k (left_part k c) (right_part k c) ≡ c
  code_parts c =
      elim (cases_eq c 0) [
        | inl e ↦ code_zero (left_part k c) (right_part k c) (inl (left_zero c e)) ∙ sym e
        | inr n ↦
            let l = left_other c n in
            let r = right_other c n in
            let split = div-add-mod' (c - 1) k in
            code_other (left_part k c) (right_part k c) (λ e. omega arith) (λ e. omega arith)
            ∙ ap₂ (λ x y. (x - 1) * k + y) l r
            ∙ ap (λ x. x * k + ((c - 1) % k + 1)) (drop_one ((c - 1) / k))
            ∙ omega arith
      ]
    where
      drop_one : (x : ℕ) → x + 1 - 1 ≡ x
      drop_one x = omega arith

  shift : (a b : ℕ) → (b ≢ 0) → (a - 1) * k + b - 1 ≡ (a - 1) * k + (b - 1)
  shift a b n = omega arith

  -- the parts of a code, neither of them 0
  pub left_code : (a b : ℕ) → (a ≢ 0) → (b ≢ 0) → b ≤ k → left_part k (code k a b) ≡ a
  left_code a b m n h =
      let e = code_other a b m n in
      left_other (code k a b) (λ z. omega arith)
      ∙ ap (λ x. (x - 1) / k + 1) e
      ∙ ap (λ x. x / k + 1) (shift a b n)
      ∙ ap (λ x. x + 1) (div-mul-add (a - 1) k (b - 1) (omega arith))
      ∙ omega arith

  pub right_code : (a b : ℕ) → (a ≢ 0) → (b ≢ 0) → b ≤ k → right_part k (code k a b) ≡ b
  right_code a b m n h =
      let e = code_other a b m n in
      right_other (code k a b) (λ z. omega arith)
      ∙ ap (λ x. (x - 1) % k + 1) e
      ∙ ap (λ x. x % k + 1) (shift a b n)
      ∙ ap (λ x. x + 1) (mod-mul-add (a - 1) k (b - 1) (omega arith))
      ∙ omega arith

  pub code_below : (a b r : ℕ) → a ≤ r → b ≤ k → code k a b < r * k + 1
  code_below a b r h g =
      elim (cases_eq a 0) [
        | inl e ↦ omega (arith, code_zero a b (inl e))
        | inr m ↦ elim (cases_eq b 0) [
          | inl e ↦ omega (arith, code_zero a b (inr e))
          | inr n ↦ omega (arith, code_other a b m n, mul-add-lt (a - 1) k (b - 1) r (omega arith) (omega arith), mul_comm k r)
        ]
      ]

  -- a value past the bottom has parts past the bottom
  pub left_below : (c r : ℕ) → c < r * k + 1 → left_part k c ≤ r
  left_below c r h =
      elim (cases_eq c 0) [
        | inl e ↦ omega (arith, left_zero c e)
        | inr n ↦ omega (arith, left_other c n, div_below (c - 1) k r pos (omega arith))
      ]

  pub right_below : (c : ℕ) → right_part k c ≤ k
  right_below c =
      elim (cases_eq c 0) [
        | inl e ↦ omega (arith, right_zero c e)
        | inr n ↦ omega (arith, right_other c n, mod_below (c - 1) k pos)
      ]

  pub left_is_zero : (c : ℕ) → left_part k c ≡ 0 → c ≡ 0
  left_is_zero c h = elim (cases_eq c 0) [ inl e ↦ e | inr n ↦ let l = left_other c n in omega arith ]

  pub right_is_zero : (c : ℕ) → right_part k c ≡ 0 → c ≡ 0
  right_is_zero c h = elim (cases_eq c 0) [ inl e ↦ e | inr n ↦ let r = right_other c n in omega arith ]

abbrev columns : Order → ℕ
columns q = q.size - 1

abbrev left : Order → ℕ → ℕ
left q c = left_part (columns q) c

abbrev right : Order → ℕ → ℕ
right q c = right_part (columns q) c

module _ (p q : Order) (lp : Lattice p) (lq : Lattice q) where
  pos : 0 < q.size - 1
  pos = let h = lq.at_least_two in omega arith

  left_inside : (c : ℕ) → c < pair_size p q → left q c < p.size
  left_inside c h = let two = lp.at_least_two in omega (arith, left_below (columns q) pos c (p.size - 1) h)

  right_inside : (c : ℕ) → right q c < q.size
  right_inside c = let two = lq.at_least_two in omega (arith, right_below (columns q) pos c)

  -- one value is at or below another exactly where both parts are
  pub parts_below : (c d : ℕ) → T ((paired p q).below c d)
      → (c < pair_size p q) × (d < pair_size p q) × T (p.below (left q c) (left q d)) × T (q.below (right q c) (right q d))
  parts_below c d h = (c_in, d_in, both.0, both.1)
    where
      split : T (nat_lt c (pair_size p q) && nat_lt d (pair_size p q)) × T (c == 0 || (not (d == 0) && (p.below (first_part q c) (first_part q d) && q.below (second_part q c) (second_part q d))))
      split = T_and (nat_lt c (pair_size p q) && nat_lt d (pair_size p q)) _ h

      sizes : T (nat_lt c (pair_size p q)) × T (nat_lt d (pair_size p q))
      sizes = T_and (nat_lt c (pair_size p q)) (nat_lt d (pair_size p q)) split.0

      c_in : c < pair_size p q
      c_in = ltb→lt c (pair_size p q) sizes.0

      d_in : d < pair_size p q
      d_in = ltb→lt d (pair_size p q) sizes.1

      other : (c ≢ 0) → (d ≢ 0) → T (p.below (first_part q c) (first_part q d) && q.below (second_part q c) (second_part q d))
          → T (p.below (left q c) (left q d)) × T (q.below (right q c) (right q d))
      other m n t =
          let w = T_and (p.below (first_part q c) (first_part q d)) (q.below (second_part q c) (second_part q d)) t in (
            subst₂ (λ x y. T (p.below x y)) (sym (left_other (columns q) pos c m)) (sym (left_other (columns q) pos d n)) w.0,
            subst₂ (λ x y. T (q.below x y)) (sym (right_other (columns q) pos c m)) (sym (right_other (columns q) pos d n)) w.1,
          )

      bottom : c ≡ 0 → T (p.below (left q c) (left q d)) × T (q.below (right q c) (right q d))
      bottom e = (
        subst (λ x. T (p.below x (left q d))) (sym (left_zero (columns q) pos c e)) (lp.bottom_below (left q d) (left_inside d d_in)),
        subst (λ x. T (q.below x (right q d))) (sym (right_zero (columns q) pos c e)) (lq.bottom_below (right q d) (right_inside d)),
      )

      both : T (p.below (left q c) (left q d)) × T (q.below (right q c) (right q d))
      both =
          elim (cases_eq c 0) [
            | inl e ↦ bottom e
            | inr m ↦ elim (T_or (c == 0) _ split.1) [
              | inl t ↦ absurd (m (eqb→eq c 0 t))
              | inr t ↦
                  let w = T_and (not (d == 0)) (p.below (first_part q c) (first_part q d) && q.below (second_part q c) (second_part q d)) t in
                  other m (λ e. T_not (d == 0) w.0 (from_true (d == 0) (eq-eqb d 0 e))) w.1
            ]
          ]

  pub below_parts : (c d : ℕ) → c < pair_size p q → d < pair_size p q
      → T (p.below (left q c) (left q d)) → T (q.below (right q c) (right q d)) → T ((paired p q).below c d)
  below_parts c d h g a b =
      and_T (nat_lt c (pair_size p q) && nat_lt d (pair_size p q)) _
      (and_T (nat_lt c (pair_size p q)) (nat_lt d (pair_size p q)) (lt→ltb c _ h) (lt→ltb d _ g))
      rest
    where
      -- a value past the bottom is not below the bottom
      past : (c ≢ 0) → d ≢ 0
      past m e = m (left_is_zero (columns q) pos c (below_bottom p lp (left q c) (subst (λ x. T (p.below (left q c) x)) (left_zero (columns q) pos d e) a)))

      rest : T (c == 0 || (not (d == 0) && (p.below (first_part q c) (first_part q d) && q.below (second_part q c) (second_part q d))))
      rest =
          elim (cases_eq c 0) [
            | inl e ↦ or_T_left (c == 0) _ (from_true (c == 0) (eq-eqb c 0 e))
            | inr m ↦
                or_T_right (c == 0) _
                (and_T (not (d == 0)) _ (not_T (d == 0) (λ t. past m (eqb→eq d 0 t)))
                (and_T (p.below (first_part q c) (first_part q d)) _
                (subst₂ (λ x y. T (p.below x y)) (left_other (columns q) pos c m) (left_other (columns q) pos d (past m)) a)
                (subst₂ (λ x y. T (q.below x y)) (right_other (columns q) pos c m) (right_other (columns q) pos d (past m)) b)))
          ]

  pub paired_ordered : Ordered (paired p q)
  paired_ordered = record {
    inside = λ c d h. let w = parts_below c d h in (w.0, w.1);
    reflexive = λ c h. below_parts c c h h (lp.reflexive (left q c) (left_inside c h)) (lq.reflexive (right q c) (right_inside c));
    antisymmetric = λ c d h g.
        let v = parts_below c d h in
        let w = parts_below d c g in
        sym (code_parts (columns q) pos c)
        ∙ ap₂ (code (columns q)) (lp.antisymmetric _ _ v.2 w.2) (lq.antisymmetric _ _ v.3 w.3)
        ∙ code_parts (columns q) pos d;
    transitive = λ a b c h g.
        let v = parts_below a b h in
        let w = parts_below b c g in
        below_parts a c v.0 w.1 (lp.transitive _ _ _ v.2 w.2) (lq.transitive _ _ _ v.3 w.3);
  }

  pub code_inside : (a b : ℕ) → a < p.size → b < q.size → code (columns q) a b < pair_size p q
  code_inside a b h g = code_below (columns q) pos a b (p.size - 1) (omega arith) (omega arith)

  -- the code of two parts has those parts, or it is 0
  left_code_below : (a b : ℕ) → a < p.size → b < q.size → T (p.below (left q (code (columns q) a b)) a)
  left_code_below a b h g =
      elim (cases_eq a 0) [
        | inl e ↦ zeroed (inl e)
        | inr m ↦ elim (cases_eq b 0) [
          | inl e ↦ zeroed (inr e)
          | inr n ↦ subst (λ x. T (p.below x a)) (sym (left_code (columns q) pos a b m n (omega arith))) (lp.reflexive a h)
        ]
      ]
    where
      zeroed : (a ≡ 0) ⊎ (b ≡ 0) → T (p.below (left q (code (columns q) a b)) a)
      zeroed z = subst (λ x. T (p.below x a)) (sym (left_zero (columns q) pos (code (columns q) a b) (code_zero (columns q) pos a b z))) (lp.bottom_below a h)

  right_code_below : (a b : ℕ) → a < p.size → b < q.size → T (q.below (right q (code (columns q) a b)) b)
  right_code_below a b h g =
      elim (cases_eq a 0) [
        | inl e ↦ zeroed (inl e)
        | inr m ↦ elim (cases_eq b 0) [
          | inl e ↦ zeroed (inr e)
          | inr n ↦ subst (λ x. T (q.below x b)) (sym (right_code (columns q) pos a b m n (omega arith))) (lq.reflexive b g)
        ]
      ]
    where
      zeroed : (a ≡ 0) ⊎ (b ≡ 0) → T (q.below (right q (code (columns q) a b)) b)
      zeroed z = subst (λ x. T (q.below x b)) (sym (right_zero (columns q) pos (code (columns q) a b) (code_zero (columns q) pos a b z))) (lq.bottom_below b g)

  paired_bottom : (c d : ℕ) → c ≡ 0 → d < pair_size p q → T ((paired p q).below c d)
  paired_bottom c d e h =
      below_parts c d (omega arith) h
      (subst (λ x. T (p.below x (left q d))) (sym (left_zero (columns q) pos c e)) (lp.bottom_below (left q d) (left_inside d h)))
      (subst (λ x. T (q.below x (right q d))) (sym (right_zero (columns q) pos c e)) (lq.bottom_below (right q d) (right_inside d)))

  -- the meet of two values has the meets of their parts, or is 0 where one of these is
  pub paired_meets : (c d a b : ℕ) → c < pair_size p q → d < pair_size p q
      → Meets p (left q c) (left q d) a → Meets q (right q c) (right q d) b → Meets (paired p q) c d (code (columns q) a b)
  paired_meets c d a b h g ma mb = record {
    below_left = below_parts m c m_in h
        (lp.transitive _ _ _ (left_code_below a b a_in b_in) ma.below_left)
        (lq.transitive _ _ _ (right_code_below a b a_in b_in) mb.below_left);
    below_right = below_parts m d m_in g
        (lp.transitive _ _ _ (left_code_below a b a_in b_in) ma.below_right)
        (lq.transitive _ _ _ (right_code_below a b a_in b_in) mb.below_right);
    greatest = λ x s t.
        let v = parts_below x c s in
        let w = parts_below x d t in
        under x v.0 (ma.greatest (left q x) v.2 w.2) (mb.greatest (right q x) v.3 w.3);
  }
    where
      a_in : a < p.size
      a_in = (lp.inside _ _ ma.below_left).0

      b_in : b < q.size
      b_in = (lq.inside _ _ mb.below_left).0

      m : ℕ
      m = code (columns q) a b

      m_in : code (columns q) a b < pair_size p q
      m_in = code_inside a b a_in b_in

      under : (x : ℕ) → x < pair_size p q → T (p.below (left q x) a) → T (q.below (right q x) b) → T ((paired p q).below x (code (columns q) a b))
      under x x_in s t =
          elim (cases_eq a 0) [
            | inl e ↦ paired_bottom x _ (left_is_zero (columns q) pos x (below_bottom p lp _ (subst (λ y. T (p.below (left q x) y)) e s))) m_in
            | inr k ↦ elim (cases_eq b 0) [
              | inl e ↦ paired_bottom x _ (right_is_zero (columns q) pos x (below_bottom q lq _ (subst (λ y. T (q.below (right q x) y)) e t))) m_in
              | inr n ↦
                  below_parts x _ x_in m_in
                  (subst (λ y. T (p.below (left q x) y)) (sym (left_code (columns q) pos a b k n (omega (arith, b_in)))) s)
                  (subst (λ y. T (q.below (right q x) y)) (sym (right_code (columns q) pos a b k n (omega (arith, b_in)))) t)
            ]
          ]

  -- the join of two values has the joins of their parts
  pub paired_joins : (c d a b : ℕ) → c < pair_size p q → d < pair_size p q
      → Joins p (left q c) (left q d) a → Joins q (right q c) (right q d) b → Joins (paired p q) c d (code (columns q) a b)
  paired_joins c d a b h g ja jb = record {
    above_left = below_parts c _ h j_in
        (subst (λ y. T (p.below (left q c) y)) (sym parts.0) ja.above_left)
        (subst (λ y. T (q.below (right q c) y)) (sym parts.1) jb.above_left);
    above_right = below_parts d _ g j_in
        (subst (λ y. T (p.below (left q d) y)) (sym parts.0) ja.above_right)
        (subst (λ y. T (q.below (right q d) y)) (sym parts.1) jb.above_right);
    least = λ x s t.
        let v = parts_below c x s in
        let w = parts_below d x t in
        below_parts _ x j_in v.1
        (subst (λ y. T (p.below y (left q x))) (sym parts.0) (ja.least (left q x) v.2 w.2))
        (subst (λ y. T (q.below y (right q x))) (sym parts.1) (jb.least (right q x) v.3 w.3));
  }
    where
      a_in : a < p.size
      a_in = (lp.inside _ _ ja.above_left).1

      b_in : b < q.size
      b_in = (lq.inside _ _ jb.above_left).1

      j_in : code (columns q) a b < pair_size p q
      j_in = code_inside a b a_in b_in

      -- both values are the bottom, so both joins are
      low : c ≡ 0 → d ≡ 0 → (a ≡ 0) × (b ≡ 0)
      low e f = (
        below_bottom p lp a (ja.least 0
            (subst (λ y. T (p.below y 0)) (sym (left_zero (columns q) pos c e)) (lp.reflexive 0 (omega arith)))
            (subst (λ y. T (p.below y 0)) (sym (left_zero (columns q) pos d f)) (lp.reflexive 0 (omega arith)))),
        below_bottom q lq b (jb.least 0
            (subst (λ y. T (q.below y 0)) (sym (right_zero (columns q) pos c e)) (lq.reflexive 0 (omega arith)))
            (subst (λ y. T (q.below y 0)) (sym (right_zero (columns q) pos d f)) (lq.reflexive 0 (omega arith)))),
      )

      from_left : a ≡ 0 → b ≡ 0
      from_left e =
          (low
          (left_is_zero (columns q) pos c (below_bottom p lp _ (subst (λ y. T (p.below (left q c) y)) e ja.above_left)))
          (left_is_zero (columns q) pos d (below_bottom p lp _ (subst (λ y. T (p.below (left q d) y)) e ja.above_right)))).1

      from_right : b ≡ 0 → a ≡ 0
      from_right e =
          (low
          (right_is_zero (columns q) pos c (below_bottom q lq _ (subst (λ y. T (q.below (right q c) y)) e jb.above_left)))
          (right_is_zero (columns q) pos d (below_bottom q lq _ (subst (λ y. T (q.below (right q d) y)) e jb.above_right)))).0

      parts : (left q (code (columns q) a b) ≡ a) × (right q (code (columns q) a b) ≡ b)
      parts =
          elim (cases_eq a 0) [
            | inl e ↦
                let z = code_zero (columns q) pos a b (inl e) in
                (left_zero (columns q) pos _ z ∙ sym e, right_zero (columns q) pos _ z ∙ sym (from_left e))
            | inr m ↦
                let n : b ≡ 0 → ⊥ = λ e. m (from_right e) in
                (left_code (columns q) pos a b m n (omega (arith, b_in)), right_code (columns q) pos a b m n (omega (arith, b_in)))
          ]

  paired_top : (c : ℕ) → c < pair_size p q → T ((paired p q).below c (top (paired p q)))
  paired_top c h =
      subst (λ x. T ((paired p q).below c x)) is_top
      (below_parts c t h t_in
      (subst (λ x. T (p.below (left q c) x)) (sym (left_code (columns q) pos r k m n (omega arith))) (lp.top_above (left q c) (left_inside c h)))
      (subst (λ x. T (q.below (right q c) x)) (sym (right_code (columns q) pos r k m n (omega arith))) (lq.top_above (right q c) (right_inside c))))
    where
      two_p : 2 ≤ p.size
      two_p = lp.at_least_two

      two_q : 2 ≤ q.size
      two_q = lq.at_least_two

      r : ℕ
      r = p.size - 1

      k : ℕ
      k = q.size - 1

      t : ℕ
      t = code (columns q) (p.size - 1) (q.size - 1)

      m : p.size - 1 ≡ 0 → ⊥
      m e = omega arith

      n : q.size - 1 ≡ 0 → ⊥
      n e = omega arith

      t_in : code (columns q) (p.size - 1) (q.size - 1) < pair_size p q
      t_in = code_inside (p.size - 1) (q.size - 1) (omega arith) (omega arith)

      rows : (x y : ℕ) → 0 < x → (x - 1) * y + y ≡ x * y
      rows zero y h = let z : ⊥ = omega arith in absurd z
      rows (suc x) y h = ap (λ w. w * y + y) (less x) ∙ sym (suc-mul x y)
        where
          less : (z : ℕ) → suc z - 1 ≡ z
          less z = omega arith

      is_top : code (columns q) (p.size - 1) (q.size - 1) ≡ pair_size p q - 1
      is_top = code_other (columns q) pos (p.size - 1) (q.size - 1) m n ∙ rows (p.size - 1) (q.size - 1) (omega arith) ∙ omega arith

  pub paired_lattice : pair_size p q ≤ 64 → Lattice (paired p q)
  paired_lattice small = record {
    at_least_two = let h = lp.at_least_two in let g = lq.at_least_two in let z : 0 < (p.size - 1) * (q.size - 1) = mul-pos (omega arith) (omega arith) in omega arith;
    at_most_64 = small;
    inside = paired_ordered.inside;
    reflexive = paired_ordered.reflexive;
    antisymmetric = paired_ordered.antisymmetric;
    transitive = paired_ordered.transitive;
    bottom_below = λ c h. paired_bottom 0 c refl h;
    top_above = paired_top;
    has_meet = λ c d h g.
        let a = the_meet p lp (left q c) (left q d) (left_inside c h) (left_inside d g) in
        let b = the_meet q lq (right q c) (right q d) (right_inside c) (right_inside d) in
        (code (columns q) a.0 b.0, meets_meet (paired p q) paired_ordered c d _ (paired_meets c d a.0 b.0 h g a.2 b.2));
    has_join = λ c d h g.
        let a = the_join p lp (left q c) (left q d) (left_inside c h) (left_inside d g) in
        let b = the_join q lq (right q c) (right q d) (right_inside c) (right_inside d) in
        (code (columns q) a.0 b.0, joins_join (paired p q) paired_ordered c d _ (paired_joins c d a.0 b.0 h g a.2 b.2));
  }

chosen : (b : Bool) (p q : Order) → (T b → Lattice p) → Lattice q → Lattice (cond b p q)
chosen true p q l m = l tt
chosen false p q l m = m

pub pair_lattice : (p q : Order) → Lattice p → Lattice q → Lattice (pair p q)
pair_lattice p q l m =
    chosen (fits p q) (paired p q) (ladder 2) (λ t. paired_lattice p q l m (leb→le (pair_size p q) 64 t))
    (ladder_lattice 2 (omega arith) (omega arith))

pub pair_fits : (p q : Order) → fits p q ≡ true → pair p q ≡ paired p q
pair_fits p q e = cond-true (fits p q) (paired p q) (ladder 2) e

pub pair_wide : (p q : Order) → fits p q ≡ false → pair p q ≡ ladder 2
pair_wide p q e = cond-false (fits p q) (paired p q) (ladder 2) e

module _ (p q : Order) (lp : Lattice p) (lq : Lattice q) where
  pub paired_below : (c d : ℕ) → c < pair_size p q → d < pair_size p q
      → (paired p q).below c d ≡ (p.below (left q c) (left q d) && q.below (right q c) (right q d))
  paired_below c d h g =
      same_tests ((paired p q).below c d) (p.below (left q c) (left q d) && q.below (right q c) (right q d))
      (λ t. let w = parts_below p q lp lq c d t in and_T (p.below (left q c) (left q d)) (q.below (right q c) (right q d)) w.2 w.3)
      (λ t. let w = T_and (p.below (left q c) (left q d)) (q.below (right q c) (right q d)) t in below_parts p q lp lq c d h g w.0 w.1)

  pub paired_no_below : (c d : ℕ) → ((c < pair_size p q) → (d < pair_size p q) → ⊥) → (paired p q).below c d ≡ false
  paired_no_below c d out = is_false ((paired p q).below c d) (λ t. let w = parts_below p q lp lq c d t in out w.0 w.1)

  pub paired_meet : (c d : ℕ) → c < pair_size p q → d < pair_size p q
      → meet (paired p q) c d ≡ code_of (columns q) (meet p (left q c) (left q d)) (meet q (right q c) (right q d))
  paired_meet c d h g =
      let a = the_meet p lp (left q c) (left q d) (left_inside p q lp lq c h) (left_inside p q lp lq d g) in
      let b = the_meet q lq (right q c) (right q d) (right_inside p q lp lq c) (right_inside p q lp lq d) in
      meets_meet (paired p q) (paired_ordered p q lp lq) c d _ (paired_meets p q lp lq c d a.0 b.0 h g a.2 b.2)
      ∙ sym (ap₂ (code_of (columns q)) a.1 b.1)

  pub paired_join : (c d : ℕ) → c < pair_size p q → d < pair_size p q
      → join (paired p q) c d ≡ code_of (columns q) (join p (left q c) (left q d)) (join q (right q c) (right q d))
  paired_join c d h g =
      let a = the_join p lp (left q c) (left q d) (left_inside p q lp lq c h) (left_inside p q lp lq d g) in
      let b = the_join q lq (right q c) (right q d) (right_inside p q lp lq c) (right_inside p q lp lq d) in
      joins_join (paired p q) (paired_ordered p q lp lq) c d _ (paired_joins p q lp lq c d a.0 b.0 h g a.2 b.2)
      ∙ sym (ap₂ (code_of (columns q)) a.1 b.1)

  pub paired_no_meet : (c d : ℕ) → ((c < pair_size p q) → (d < pair_size p q) → ⊥) → meet (paired p q) c d ≡ None
  paired_no_meet c d out = meet_outside (paired p q) (paired_ordered p q lp lq) c d out

  pub paired_no_join : (c d : ℕ) → ((c < pair_size p q) → (d < pair_size p q) → ⊥) → join (paired p q) c d ≡ None
  paired_no_join c d out = join_outside (paired p q) (paired_ordered p q lp lq) c d out

  -- what a code of two values needs of its sum
  pub code_fits : pair_size p q ≤ 64 → (x y : Option ℕ)
      → ((a : ℕ) → x ≡ Some a → a < p.size) → ((b : ℕ) → y ≡ Some b → b < q.size)
      → IfSome x (λ a. IfSome y (λ b. (a - 1) * (q.size - 1) + b < 128))
  code_fits small None y f g = tt
  code_fits small (Some a) None f g = tt
  code_fits small (Some a) (Some b) f g =
      let h = f a refl in
      let k = g b refl in
      let two = lp.at_least_two in
      let high = lq.at_most_64 in
      elim (cases_eq a 0) [
        | inl e ↦ omega (arith, ap (λ x. x * (q.size - 1)) (first_zero a e), zero-mul (q.size - 1))
        | inr m ↦ elim (cases_eq b 0) [
          | inl e ↦ omega (arith, code_below (columns q) (pos p q lp lq) a 1 (p.size - 1) (omega arith) (pos p q lp lq), code_other (columns q) (pos p q lp lq) a 1 m (λ z. omega arith))
          | inr n ↦ omega (arith, code_inside p q lp lq a b h k, code_other (columns q) (pos p q lp lq) a b m n)
        ]
      ]
    where
      first_zero : (z : ℕ) → z ≡ 0 → z - 1 ≡ 0
      first_zero z e = omega arith

-- What the methods of a pair find, step by step. `n` is the size that `fitted` gave, and `k` the size of the second part.
pub fitted_some : (p q : Order) (n : ℕ) → Some n ≡ fitted_size p q → (fits p q ≡ true) × (n ≡ pair_size p q)
fitted_some p q n e = go (fits p q) e
  where
    go : (b : Bool) → Some n ≡ cond b (Some (pair_size p q)) None → (b ≡ true) × (n ≡ pair_size p q)
    go true e = (refl, cc)
    go false e = let z : ◌≡◌ {A = ℕ} 0 1 = cc in let w : ⊥ = omega arith in absurd w

module _ (p q : Order) (lp : Lattice p) (lq : Lattice q) (n : ℕ) (e : Some n ≡ fitted_size p q) where
  size_is : n ≡ pair_size p q
  size_is = (fitted_some p q n e).1

  pub is_paired : pair p q ≡ paired p q
  is_paired = pair_fits p q (fitted_some p q n e).0

  pub is_small : pair_size p q ≤ 64
  is_small = leb→le (pair_size p q) 64 (from_true (fits p q) (fitted_some p q n e).0)

  outside : (a b : ℕ) → ((a < n) → (b < n) → ⊥) → (a < pair_size p q) → (b < pair_size p q) → ⊥
  outside a b out h g = out (omega (arith, size_is)) (omega (arith, size_is))

  pub pair_no_below : (a b : ℕ) → ((a < n) → (b < n) → ⊥) → false ≡ (pair p q).below a b
  pair_no_below a b out = sym (ap (λ o. o.below a b) is_paired ∙ paired_no_below p q lp lq a b (outside a b out))

  pub pair_no_meet : (a b : ℕ) → ((a < n) → (b < n) → ⊥) → None ≡ meet (pair p q) a b
  pair_no_meet a b out = sym (ap (λ o. meet o a b) is_paired ∙ paired_no_meet p q lp lq a b (outside a b out))

  pub pair_no_join : (a b : ℕ) → ((a < n) → (b < n) → ⊥) → None ≡ join (pair p q) a b
  pair_no_join a b out = sym (ap (λ o. join o a b) is_paired ∙ paired_no_join p q lp lq a b (outside a b out))

  module _ (k a b : ℕ) (ks : k ≡ q.size) (a_in : a < n) (b_in : b < n) where
    in_a : a < pair_size p q
    in_a = omega (arith, size_is, a_in)

    in_b : b < pair_size p q
    in_b = omega (arith, size_is, b_in)

    module _ (al ar bl br : ℕ) (al_is : al ≡ left_part (k - 1) a) (ar_is : ar ≡ right_part (k - 1) a)
        (bl_is : bl ≡ left_part (k - 1) b) (br_is : br ≡ right_part (k - 1) b) where
      left_a : al ≡ left q a
      left_a = al_is ∙ ap (λ w. left_part (w - 1) a) ks

      right_a : ar ≡ right q a
      right_a = ar_is ∙ ap (λ w. right_part (w - 1) a) ks

      left_b : bl ≡ left q b
      left_b = bl_is ∙ ap (λ w. left_part (w - 1) b) ks

      right_b : br ≡ right q b
      right_b = br_is ∙ ap (λ w. right_part (w - 1) b) ks

      pub pair_below_is : (x y : Bool) → x ≡ p.below al bl → y ≡ q.below ar br → (x && y) ≡ (pair p q).below a b
      pair_below_is x y s t =
          ap₂ ◌&&◌ (s ∙ ap₂ p.below left_a left_b) (t ∙ ap₂ q.below right_a right_b)
          ∙ sym (ap (λ o. o.below a b) is_paired ∙ paired_below p q lp lq a b in_a in_b)

      pub pair_meet_is : (x y r : Option ℕ) → x ≡ meet p al bl → y ≡ meet q ar br → r ≡ code_of (k - 1) x y → r ≡ meet (pair p q) a b
      pair_meet_is x y r s t u =
          u ∙ ap (λ w. code_of (w - 1) x y) ks
          ∙ ap₂ (code_of (columns q)) (s ∙ ap₂ (meet p) left_a left_b) (t ∙ ap₂ (meet q) right_a right_b)
          ∙ sym (ap (λ o. meet o a b) is_paired ∙ paired_meet p q lp lq a b in_a in_b)

      pub pair_join_is : (x y r : Option ℕ) → x ≡ join p al bl → y ≡ join q ar br → r ≡ code_of (k - 1) x y → r ≡ join (pair p q) a b
      pair_join_is x y r s t u =
          u ∙ ap (λ w. code_of (w - 1) x y) ks
          ∙ ap₂ (code_of (columns q)) (s ∙ ap₂ (join p) left_a left_b) (t ∙ ap₂ (join q) right_a right_b)
          ∙ sym (ap (λ o. join o a b) is_paired ∙ paired_join p q lp lq a b in_a in_b)

    -- the code of two meets, or of two joins, fits its type
    pub meets_fit : (al ar bl br : ℕ) (x y : Option ℕ) → x ≡ meet p al bl → y ≡ meet q ar br → IfSome x (λ u. IfSome y (λ v. (u - 1) * (k - 1) + v < 128))
    meets_fit al ar bl br x y s t =
        subst (λ w. IfSome x (λ u. IfSome y (λ v. (u - 1) * (w - 1) + v < 128))) (sym ks)
        (code_fits p q lp lq is_small x y
        (λ u z. meet_inside p (ordered lp) al bl u (sym s ∙ z))
        (λ v z. meet_inside q (ordered lq) ar br v (sym t ∙ z)))

    pub joins_fit : (al ar bl br : ℕ) (x y : Option ℕ) → x ≡ join p al bl → y ≡ join q ar br → IfSome x (λ u. IfSome y (λ v. (u - 1) * (k - 1) + v < 128))
    joins_fit al ar bl br x y s t =
        subst (λ w. IfSome x (λ u. IfSome y (λ v. (u - 1) * (w - 1) + v < 128))) (sym ks)
        (code_fits p q lp lq is_small x y
        (λ u z. join_inside p (ordered lp) al bl u (sym s ∙ z))
        (λ v z. join_inside q (ordered lq) ar br v (sym t ∙ z)))

-- what the parts of two values say
pub split_some : (second : Order) (n a b : ℕ) (x y : Parts) → ◌≡◌ {A = Option (Parts × Parts)} (Some (x, y)) (split_of second n a b)
    → (a < n) × (b < n) × (x ≡ parts_of second a) × (y ≡ parts_of second b)
split_some second n a b x y e = go (nat_lt a n && nat_lt b n) refl e
  where
    go : (t : Bool) → (nat_lt a n && nat_lt b n) ≡ t → ◌≡◌ {A = Option (Parts × Parts)} (Some (x, y)) (cond t (Some (parts_of second a, parts_of second b)) None)
        → (a < n) × (b < n) × (x ≡ parts_of second a) × (y ≡ parts_of second b)
    go true is e =
        let w = T_and (nat_lt a n) (nat_lt b n) (from_true _ is) in
        let both = ap (λ (o : Option (Parts × Parts)). unwrap_or o (x, y)) e in
        (ltb→lt a n w.0, ltb→lt b n w.1, λ t. (both t).0, λ t. (both t).1)
    go false is e = let z : ◌≡◌ {A = ℕ} 0 1 = cc in let w : ⊥ = omega arith in absurd w

pub split_none : (second : Order) (n a b : ℕ) → ◌≡◌ {A = Option (Parts × Parts)} None (split_of second n a b) → a < n → b < n → ⊥
split_none second n a b e h k = go (nat_lt a n && nat_lt b n) (is_true _ (and_T (nat_lt a n) (nat_lt b n) (lt→ltb a n h) (lt→ltb b n k))) e
  where
    go : (t : Bool) → t ≡ true → ◌≡◌ {A = Option (Parts × Parts)} None (cond t (Some (parts_of second a, parts_of second b)) None) → ⊥
    go true is e = let z : ◌≡◌ {A = ℕ} 0 1 = cc in omega arith
    go false is e = let z : ◌≡◌ {A = Bool} false true = is in from_false true (sym z) tt

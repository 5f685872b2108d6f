-- One word of a reader, as one step of the walk.
use Rattle.std.proofs.Common.{◌≡◌, ℕ, suc, ◌+◌, ◌-◌, ◌<◌, ◌≤◌, List, [], ◌∷◌, ◌++◌, length, slice_set, get_or, take, drop, Ok, Err, Result, sym, refl, ap, ◌∙◌, subst, arith, length-drop, length-append, length-set}
use Rattle.std.proofs.lemmas.List.{take_rest, take-append-le}
use Rattle.std.proofs.Math.Seq.{take-length}
use Rattle.std.specs.List.{refill}
use Rattle.arrayvec.specs.ArrayVec.{ArrayVec}
use Rattle.policy.specs.declared.clause.Kind.{Kind}
use Rattle.policy.specs.declared.draft.Phase.TheVariants.{Excepting, Excepted}
use Rattle.policy.specs.declared.draft.Open.{Open}
use Rattle.policy.specs.declared.draft.Draft.{Draft}
use Rattle.policy.specs.declared.clause.ClauseRecord.{ClauseRecord}
use Rattle.refusals.specs.declared.refusal.Reason.{Reason}
use Rattle.refusals.specs.declared.refusal.Reason.TheVariants.{MisplacedWord}
use Rattle.refusals.specs.declared.refusal.Refusal.{Refusal}
use Rattle.policy.specs.declared.word.Word.{Word}
use Rattle.policy.specs.declared.word.Word.TheVariants.{Head, Except, End}
use Rattle.policy.specs.Decode.{value, word_of}
use Rattle.policy.specs.Words.{Frame, position, Reading, checked, admitted, fault_in, advanced, ended}
use Rattle.policy.specs.Walk.{walk, Slot, Records, recorded, fresh, with_value, closed}
use Rattle.policy.specs.Reads.{Ready, frame_of, slot, goes, stored, numbered, just_open, Closes, Stops, Reads, Behind}
use Rattle.policy.specs.Sized.{Sized}
use Rattle.policy.proofs.Grown.{walk_on, walk_stop}

-- the words `all` of a clause are read as far as `ws`: whatever the rest comes to, all of them come to
pub record Along (k : Kind) (depth : ℕ) (start : Draft) (all : List ℕ) (number : ℕ) (o : Open) (d : Draft) (x : ClauseRecord) (ws : List ℕ) : Type 0 where
  pub ready : Ready o d ws
  pub given : number ≡ length start.clauses.items
  pub inside : number < length d.clauses.items
  pub on : (r : Result (List ℕ) Refusal) (e : Draft) (y : ClauseRecord) → Reads o d x ws r e y → Reads (just_open k depth) (numbered k start) (fresh k) all r e y

-- `rest` of the pattern `[first, rest @ ..]`
abbrev pub tail : List ℕ → List ℕ
tail ws = take (length ws - 1) (drop 1 ws)

pub tail_is : (ws : List ℕ) → tail ws ≡ drop 1 ws
tail_is ws = take_rest ws 1

abbrev reading : Open → Draft → List Frame → Reading
reading o d fs = record { open_clauses = frame_of o ∷ fs; heads = (length d.clauses.items) }

abbrev records : Draft → List Slot → Records
records d ss = record { opens = ss; clauses = d.clauses.items }

-- the first of the words, as it is taken inside the open clause
abbrev pub seen : Open → Draft → List ℕ → Result Word Reason
seen o d ws = checked (word_of (get_or ws 0 0)) (fault_in d.sizes o.depth (length d.clauses.items) o.kind (position o.last.attribute o.last.code) o.phase)

seen_as : (o : Open) (d : Draft) (w : ℕ) (ws : List ℕ) (fs : List Frame) → length fs + 1 ≡ o.depth → admitted d.sizes (reading o d fs) w ≡ seen o d (w ∷ ws)
seen_as o d w ws fs el =
    let deep : suc (length fs) ≡ o.depth = omega arith in
    ap (λ n. checked (word_of w) (fault_in d.sizes n (length d.clauses.items) o.kind (position o.last.attribute o.last.code) o.phase)) deep

-- the end of the words
pub stops_none : (o : Open) (d : Draft) (x : ClauseRecord) (ws : List ℕ) → length ws < 1 → Stops o d x ws (record { reason = MisplacedWord; place = d.total - length ws })
unfolding walk
stops_none o d x [] h fs ss n e = refl
stops_none o d x (w ∷ ws) h fs ss n e = absurd (omega arith)

pub stops_at : (o : Open) (d : Draft) (x : ClauseRecord) (ws : List ℕ) → 1 ≤ length ws → (y : Reason) → seen o d ws ≡ Err y
    → Stops o d x ws (record { reason = y; place = d.total - length ws })
stops_at o d x [] h y e fs ss n el = absurd (omega arith)
stops_at o d x (w ∷ ws) h y e fs ss n el =
    walk_stop (recorded d.sizes) d.sizes (reading o d fs) (records d (slot n x ∷ ss)) (d.total - length (w ∷ ws)) w ws y (seen_as o d w ws fs el ∙ e)

-- a word without a fault
goes_on : (o : Open) (d : Draft) (ws : List ℕ) → 1 ≤ length ws → length ws ≤ d.total → (v : Word) → seen o d ws ≡ Ok v
    → (fs : List Frame) (ss : List Slot) → length fs + 1 ≡ o.depth
    → goes d (frame_of o ∷ fs) ss ws
    ≡ walk (recorded d.sizes) d.sizes (advanced (reading o d fs) v) (recorded d.sizes (reading o d fs) v (records d ss)) (d.total - length (drop 1 ws)) (drop 1 ws)
goes_on o d [] h hi v e fs ss el = absurd (omega arith)
goes_on o d (w ∷ ws) h hi v e fs ss el =
    let p : d.total - length (w ∷ ws) + 1 ≡ d.total - length ws = omega arith in
    walk_on (recorded d.sizes) d.sizes (reading o d fs) (records d ss) (d.total - length (w ∷ ws)) w ws v (seen_as o d w ws fs el ∙ e)
    ∙ ap (λ i. walk (recorded d.sizes) d.sizes (advanced (reading o d fs) v) (recorded d.sizes (reading o d fs) v (records d ss)) i ws) p

-- the same clause is read on from a later place
module _ (o o' : Open) (d d' : Draft) (x x' : ClauseRecord) (ws vs : List ℕ) (fewer : length vs ≤ length ws) (grows : length d.clauses.items ≤ length d'.clauses.items) (sizes : d'.sizes ≡ d.sizes) (total : d'.total ≡ d.total) (deep : o'.depth ≡ o.depth)
    (step : (fs : List Frame) (ss : List Slot) (n : ℕ) → length fs + 1 ≡ o.depth → goes d (frame_of o ∷ fs) (slot n x ∷ ss) ws ≡ goes d' (frame_of o' ∷ fs) (slot n x' ∷ ss) vs) where
  pub later : (r : Result (List ℕ) Refusal) (e : Draft) (y : ClauseRecord) → Reads o' d' x' vs r e y → Reads o d x ws r e y
  later (Ok rest) e y h = record {
    shorter = omega (arith, h.shorter);
    grows = omega (arith, h.grows);
    room = h.room;
    sizes = h.sizes ∙ sizes;
    total = h.total ∙ total;
    on = λ fs ss n el. step fs ss n el ∙ h.on fs ss n (el ∙ sym deep);
  }
  later (Err r) e y h = λ fs ss n el. step fs ss n el ∙ h fs ss n (el ∙ sym deep)

module _ (o : Open) (d : Draft) (x : ClauseRecord) (ws : List ℕ) (some : 1 ≤ length ws) (ready : Ready o d ws) (w : Word) (ew : seen o d ws ≡ Ok w) where
  on_by : (v : Word) → w ≡ v → (fs : List Frame) (ss : List Slot) → length fs + 1 ≡ o.depth
      → goes d (frame_of o ∷ fs) ss ws
      ≡ walk (recorded d.sizes) d.sizes (advanced (reading o d fs) v) (recorded d.sizes (reading o d fs) v (records d ss)) (d.total - length (drop 1 ws)) (drop 1 ws)
  on_by v is fs ss el =
      goes_on o d ws some ready.within w ew fs ss el
      ∙ ap (λ y. walk (recorded d.sizes) d.sizes (advanced (reading o d fs) y) (recorded d.sizes (reading o d fs) y (records d ss)) (d.total - length (drop 1 ws)) (drop 1 ws)) is

  pub at_except : w ≡ Except → (r : Result (List ℕ) Refusal) (e : Draft) (y : ClauseRecord)
      → Reads (record { kind = o.kind; phase = Excepting; last = o.last; depth = o.depth }) d x (tail ws) r e y → Reads o d x ws r e y
  at_except is r e y h =
      later o (record { kind = o.kind; phase = Excepting; last = o.last; depth = o.depth }) d d x x ws (drop 1 ws) (omega (arith, length-drop 1 ws)) (omega arith) refl refl refl (λ fs ss n el. on_by Except is fs (slot n x ∷ ss) el) r e y
      (subst (λ u. Reads (record { kind = o.kind; phase = Excepting; last = o.last; depth = o.depth }) d x u r e y) (tail_is ws) h)

  pub at_value : (a v : ℕ) → w ≡ value a v → (x' : ClauseRecord) → x' ≡ with_value a v x → (r : Result (List ℕ) Refusal) (e : Draft) (y : ClauseRecord)
      → Reads (record { kind = o.kind; phase = o.phase; last = record { attribute = a; code = v }; depth = o.depth }) d x' (tail ws) r e y
      → Reads o d x ws r e y
  at_value a v is x' ex r e y h =
      let P : ClauseRecord → List ℕ → Type 0 = λ q u. Reads (record { kind = o.kind; phase = o.phase; last = record { attribute = a; code = v }; depth = o.depth }) d q u r e y in
      let h₁ : P (with_value a v x) (tail ws) = subst (λ q. P q (tail ws)) ex h in
      let h₂ : P (with_value a v x) (drop 1 ws) = subst (λ q. P (with_value a v x) q) (tail_is ws) h₁ in
      later o (record { kind = o.kind; phase = o.phase; last = record { attribute = a; code = v }; depth = o.depth }) d d x (with_value a v x)
      ws (drop 1 ws) (omega (arith, length-drop 1 ws)) (omega arith) refl refl refl (λ fs ss n el. on_by (value a v) is fs (slot n x ∷ ss) el) r e y h₂

  pub at_end : w ≡ End → (y : ClauseRecord) → y ≡ closed d.sizes (length d.clauses.items) x → Closes o d x ws (tail ws) d y
  at_end is y ey = record {
    shorter = omega (arith, ap length (tail_is ws), length-drop 1 ws);
    grows = omega arith;
    room = ready.room;
    sizes = refl;
    total = refl;
    on = λ fs ss n el. on_by End is fs (slot n x ∷ ss) el
        ∙ ap (λ q. walk (recorded d.sizes) d.sizes (record { open_clauses = ended fs; heads = length d.clauses.items }) (record { opens = ss; clauses = slice_set d.clauses.items n q }) (d.total - length (drop 1 ws)) (drop 1 ws)) (sym ey)
        ∙ ap (λ h. walk (recorded d.sizes) d.sizes (record { open_clauses = ended fs; heads = h }) (record { opens = ss; clauses = slice_set d.clauses.items n y }) (d.total - length (drop 1 ws)) (drop 1 ws)) (sym (length-set d.clauses.items n y))
        ∙ ap (λ u. goes (stored d n y) (ended fs) ss u) (sym (tail_is ws));
  }

  -- a head: the inner clause, then the rest of this one
  abbrev inner : Kind → Open
  inner k' = just_open k' o.depth

  on_head : (k' : Kind) → w ≡ Head k' → (fs : List Frame) (ss : List Slot) → length fs + 1 ≡ o.depth
      → goes d (frame_of o ∷ fs) ss ws ≡ goes (numbered k' d) (frame_of (inner k') ∷ frame_of o ∷ fs) (slot (length d.clauses.items) (fresh k') ∷ ss) (drop 1 ws)
  on_head k' is fs ss el =
      let n : length d.clauses.items + 1 ≡ length (d.clauses.items ++ fresh k' ∷ []) = sym (length-append d.clauses.items (fresh k' ∷ [])) in
      on_by (Head k') is fs ss el
      ∙ ap (λ h. walk (recorded d.sizes) d.sizes (record { open_clauses = frame_of (inner k') ∷ frame_of o ∷ fs; heads = h })
      (record { opens = slot (length d.clauses.items) (fresh k') ∷ ss; clauses = d.clauses.items ++ fresh k' ∷ [] }) (d.total - length (drop 1 ws)) (drop 1 ws)) n

  at_head_stops : (k' : Kind) → w ≡ Head k' → (r : Refusal) → Stops (inner k') (numbered k' d) (fresh k') (tail ws) r → Stops o d x ws r
  at_head_stops k' is r h fs ss n el =
      let h₁ : Stops (inner k') (numbered k' d) (fresh k') (drop 1 ws) r = subst (λ u. Stops (inner k') (numbered k' d) (fresh k') u r) (tail_is ws) h in
      on_head k' is fs (slot n x ∷ ss) el ∙ h₁ (frame_of o ∷ fs) (slot n x ∷ ss) (length d.clauses.items) (let z : suc (length fs) + 1 ≡ o.depth + 1 = omega arith in z)

  abbrev later_open : Open
  later_open = record { kind = o.kind; phase = Excepted; last = o.last; depth = o.depth }

  at_head_on : (k' : Kind) → w ≡ Head k' → (rest : List ℕ) (e : Draft) (y : ClauseRecord) → Closes (inner k') (numbered k' d) (fresh k') (tail ws) rest e y
      → (r : Result (List ℕ) Refusal) (g : Draft) (q : ClauseRecord) → Reads later_open (stored e (length d.clauses.items) y) x rest r g q → Reads o d x ws r g q
  at_head_on k' is rest e y c r g q h =
      let c₁ : Closes (inner k') (numbered k' d) (fresh k') (drop 1 ws) rest e y = subst (λ u. Closes (inner k') (numbered k' d) (fresh k') u rest e y) (tail_is ws) c in
      later o later_open d (stored e (length d.clauses.items) y) x x ws rest (omega (arith, c₁.shorter, length-drop 1 ws)) (omega (arith, c₁.grows, length-append d.clauses.items (fresh k' ∷ []), length-set e.clauses.items (length d.clauses.items) y)) c₁.sizes c₁.total refl
      (λ fs ss n el. on_head k' is fs (slot n x ∷ ss) el ∙ c₁.on (frame_of o ∷ fs) (slot n x ∷ ss) (length d.clauses.items) (let z : suc (length fs) + 1 ≡ o.depth + 1 = omega arith in z))
      r g q h

refilled : (xs ys : List ClauseRecord) → length ys ≡ length xs → refill (length xs) xs ys ≡ ys
refilled xs ys e = let le : length ys ≤ length ys = omega arith in rw (← e) (rw take-append-le (take-length ys))

pub along_start : (k : Kind) (depth : ℕ) (start : Draft) (all : List ℕ) (number : ℕ) → Ready (just_open k depth) (numbered k start) all → number ≡ length start.clauses.items
    → (o : Open) → o ≡ just_open k depth → (x : ClauseRecord) → x ≡ fresh k → (v : ArrayVec ClauseRecord) → v.items ≡ start.clauses.items ++ x ∷ []
    → Along k depth start all number o (record { clauses = v; sizes = start.sizes; total = start.total }) x all
along_start k depth start all number ready given o eo x ex v ev =
    let first : Along k depth start all number (just_open k depth) (numbered k start) (fresh k) all =
    record { ready = ready; given = given; inside = omega (arith, length-append start.clauses.items (fresh k ∷ [])); on = λ r e y h. h } in
    let pushed : record { clauses = v; sizes = start.sizes; total = start.total } ≡ numbered k start =
    ap (λ xs. record { clauses = record { items = xs }; sizes = start.sizes; total = start.total }) (ev ∙ ap (λ y. start.clauses.items ++ y ∷ []) ex) in
    rw (pushed, eo, ex) first

-- one word more of the clause
module _ (k : Kind) (depth : ℕ) (start : Draft) (all : List ℕ) (number : ℕ) (o : Open) (d : Draft) (x : ClauseRecord) (ws : List ℕ) (a : Along k depth start all number o d x ws) where
  pub along_none : length ws < 1 → Stops (just_open k depth) (numbered k start) (fresh k) all (record { reason = MisplacedWord; place = d.total })
  along_none h =
      let p : d.total - length ws ≡ d.total = omega arith in
      a.on (Err (record { reason = MisplacedWord; place = d.total })) d x (subst (λ i. Stops o d x ws (record { reason = MisplacedWord; place = i })) p (stops_none o d x ws h))

  module _ (some : 1 ≤ length ws) where
    pub along_fault : (y : Reason) → seen o d ws ≡ Err y → Stops (just_open k depth) (numbered k start) (fresh k) all (record { reason = y; place = d.total - length ws })
    along_fault y ey = a.on (Err (record { reason = y; place = d.total - length ws })) d x (stops_at o d x ws some y ey)

    module _ (w : Word) (ew : seen o d ws ≡ Ok w) where
      fewer : length (tail ws) ≤ d.total
      fewer = omega (arith, ap length (tail_is ws), length-drop 1 ws, a.ready.within)

      pub along_except : w ≡ Except → Along k depth start all number (record { kind = o.kind; phase = Excepting; last = o.last; depth = o.depth }) d x (tail ws)
      along_except is = record {
        ready = record { room = a.ready.room; deep = a.ready.deep; within = fewer; sized = a.ready.sized };
        given = a.given;
        inside = a.inside;
        on = λ r e y h. a.on r e y (at_except o d x ws some a.ready w ew is r e y h);
      }

      pub along_value : (v n : ℕ) → w ≡ value v n → (x' : ClauseRecord) → x' ≡ with_value v n x → Along k depth start all number (record { kind = o.kind; phase = o.phase; last = record { attribute = v; code = n }; depth = o.depth }) d x' (tail ws)
      along_value v n is x' ex = record {
        ready = record { room = a.ready.room; deep = a.ready.deep; within = fewer; sized = a.ready.sized };
        given = a.given;
        inside = a.inside;
        on = λ r e y h. a.on r e y (at_value o d x ws some a.ready w ew v n is x' ex r e y h);
      }

      -- the record is written through the slice that is lent for it
      pub along_end : w ≡ End → (y : ClauseRecord) → y ≡ closed d.sizes (length d.clauses.items) x → (lent : List ClauseRecord) → lent ≡ d.clauses.items
          → Behind k depth start all (Ok (tail ws)) (record { clauses = record { items = refill (length d.clauses.items) d.clauses.items (slice_set lent number y) }; sizes = d.sizes; total = d.total })
      along_end is y ey lent el = (
        d,
        (
          y,
          (
            a.on (Ok (tail ws)) d y (at_end o d x ws some a.ready w ew is y ey),
            ap (λ rs. record { clauses = record { items = refill (length d.clauses.items) d.clauses.items (slice_set rs number y) }; sizes = d.sizes; total = d.total }) el
                ∙ ap (λ rs. record { clauses = record { items = rs }; sizes = d.sizes; total = d.total }) (refilled d.clauses.items (slice_set d.clauses.items number y) (length-set d.clauses.items number y))
                ∙ ap (λ n. stored d n y) a.given,
          ),
        ),
      )

      module _ (k' : Kind) (is : w ≡ Head k') where
        pub along_head_stops : (r : Refusal) (e : Draft) → Behind k' o.depth d (tail ws) (Err r) e → Behind k depth start all (Err r) e
        along_head_stops r e h = a.on (Err r) d x (at_head_stops o d x ws some a.ready w ew k' is r h)

        pub along_head : (rest : List ℕ) (e : Draft) → Behind k' o.depth d (tail ws) (Ok rest) e → Along k depth start all number (record { kind = o.kind; phase = Excepted; last = o.last; depth = o.depth }) e x rest
        along_head rest e (g, (y, (c, q))) =
            let same : length (slice_set g.clauses.items (length d.clauses.items) y) ≡ length g.clauses.items = length-set g.clauses.items (length d.clauses.items) y in
            let one : length (d.clauses.items ++ fresh k' ∷ []) ≡ length d.clauses.items + 1 = length-append d.clauses.items (fresh k' ∷ []) in
            subst (λ f. Along k depth start all number (record { kind = o.kind; phase = Excepted; last = o.last; depth = o.depth }) f x rest) (sym q) (record {
              ready = record {
                room = omega (arith, c.room);
                deep = omega (arith, a.ready.deep, c.grows);
                within = omega (arith, fewer, c.shorter, c.total);
                sized = subst Sized (sym c.sizes) a.ready.sized;
              };
              given = a.given;
              inside = omega (arith, a.inside, c.grows);
              on = λ r f z h. a.on r f z (at_head_on o d x ws some a.ready w ew k' is rest g y c r f z h);
            })

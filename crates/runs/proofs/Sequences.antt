-- Whole runs: one call after another, and what they come to.
use mathlib.Core.Option.{Option as Lookup, none, some}
use Rattle.std.proofs.Common.{◌≡◌, ℕ, zero, suc, ◌+◌, ◌<◌, ◌≤◌, min, List, [], ◌∷◌, ◌++◌, length, get_or, take, is_some, Some, None, Option, sym, refl, ap, ◌∙◌, subst, arith}
use lib.ListN.{get_elem?}
use Rattle.std.proofs.lemmas.List.{take_more}
use Rattle.lattice.specs.Schemes.{Scheme, Lattices}
use Rattle.refusals.specs.declared.refusal.Refusal.{Refusal}
use Rattle.policy.specs.Policies.{Policy, policy_of}
use Rattle.policy.specs.declared.policy.Policy.{Policy as Held}
use Rattle.ledger.specs.Ledger.{Ledger, Call as LedgerCall, enter, step, mark, unmark, verify, draw, strike, settle, judge, path, declined, after}
use Rattle.ledger.specs.Run.{Event, EveryCallAnswered}
use Rattle.ledger.specs.Sound.{LatticesBrought, EveryCallBringsLattices}
use Rattle.runs.specs.declared.calls.Call.{Call}
use Rattle.runs.specs.declared.calls.Call.TheVariants.{Enter, Step, Mark, Unmark, Verify, Draw, Strike, Settle, Judge, Path}
use Rattle.runs.specs.declared.calls.Answer.{Answer}
use Rattle.runs.specs.Calls.{One, judged_by, named, event, events, Matched, DoneBy}
use Rattle.inventory.specs.View.{View, ledger_of}
use Rattle.inventory.proofs.Bridge.{take_none}

-- as many as there are, of those that are asked for
pub take_capped : (n : ℕ) (xs : List ℕ) (k : ℕ) → k ≡ min n (length xs) → take k xs ≡ take n xs
take_capped zero xs k e = let none : k ≡ 0 = omega arith in ap (λ i. take i xs) none
take_capped (suc n) [] k e = take_none k
take_capped (suc n) (x ∷ xs) zero e = absurd (omega arith)
take_capped (suc n) (x ∷ xs) (suc k) e = ap (λ l. x ∷ l) (take_capped n xs k (omega arith))

-- ---- schemes and policies by their numbers

pub at_number : {A : Type 0} (xs : List A) (i : ℕ) (x : A) → i < length xs → x ≡ get_or xs i x → get_elem? xs i ≡ some x
at_number [] i x l e = absurd (omega arith)
at_number (y ∷ xs) zero x l e = ap some (sym e)
at_number (y ∷ xs) (suc i) x l e = at_number xs i x (omega arith) e

pub past_end : {A : Type 0} (xs : List A) (i : ℕ) → length xs ≤ i → get_elem? xs i ≡ none
past_end [] i l = refl
past_end (y ∷ xs) zero l = absurd (omega arith)
past_end (y ∷ xs) (suc i) l = past_end xs i (omega arith)

-- judge and path leave the ledger as it was
kept_by : (L : Ledger) (o : Option Refusal) → L ≡ elim o [ Some r ↦ L | None ↦ L ]
kept_by L (Some r) = refl
kept_by L None = refl

pub judge_kept : (L : Ledger) (n : ℕ) (z : Scheme) (p : Policy) → L ≡ after L (judge n z p)
judge_kept L n z p = kept_by L (declined L (judge n z p))

pub path_kept : (L : Ledger) (n x room : ℕ) → L ≡ after L (path n x room)
path_kept L n x room = kept_by L (declined L (path n x room))

module _ {V : Type 0} (orders : V → Scheme) (schemes : List V) (policies : List Held) where
  by_scheme : ℕ → ℕ → Lookup V → Option LedgerCall
  by_scheme n p o =
      elim o [
        | none ↦ None
        | some z ↦ elim (get_elem? policies p) [ none ↦ None | some q ↦ Some (judge n (orders z) (policy_of q)) ]
      ]

  pub judged_some : (n s p : ℕ) (z : V) (q : Held) → get_elem? schemes s ≡ some z → get_elem? policies p ≡ some q →
      judged_by orders schemes policies n s p ≡ Some (judge n (orders z) (policy_of q))
  unfolding by_scheme
  judged_some n s p z q e₁ e₂ =
      ap (by_scheme n p) e₁ ∙ ap (λ (o : Lookup Held). elim o [ none ↦ None | some q ↦ Some (judge n (orders z) (policy_of q)) ]) e₂

  pub judged_none : (n s p : ℕ) → get_elem? schemes s ≡ none → judged_by orders schemes policies n s p ≡ None
  unfolding by_scheme
  judged_none n s p e = ap (by_scheme n p) e

  pub judged_without : (n s p : ℕ) → get_elem? policies p ≡ none → judged_by orders schemes policies n s p ≡ None
  judged_without n s p e = go (get_elem? schemes s)
    where
      go : (o : Lookup V) → ◌≡◌ {A = Option LedgerCall} (elim o [
        | none ↦ None
        | some z ↦ elim (get_elem? policies p) [ none ↦ None | some q ↦ Some (judge n (orders z) (policy_of q)) ]
      ]) None
      go none = refl
      go (some z) = ap (λ (o : Lookup Held). elim o [ none ↦ None | some q ↦ Some (judge n (orders z) (policy_of q)) ]) e

  -- ---- one call after another

  pub done_more : (v : View) (cs : List Call) (bs : List (Option Answer)) (u w : View) (c : Call) (a : Option Answer) →
      DoneBy orders schemes policies v cs bs u → One u w (named orders schemes policies c) a → DoneBy orders schemes policies v (cs ++ (c ∷ [])) (bs ++ (a ∷ [])) w
  done_more v [] [] u w c a before one = (w, subst (λ (x : View). One x w (named orders schemes policies c) a) before one, refl)
  done_more v [] (b ∷ bs) u w c a before one = absurd before
  done_more v (d ∷ cs) [] u w c a before one = absurd before
  done_more v (d ∷ cs) (b ∷ bs) u w c a (x, first, rest) one = (x, first, done_more x cs bs u w c a rest one)

  -- one turn of a run: the call at number i, answered by a
  pub done_next : (v u w : View) (cs : List Call) (i : ℕ) (c d : Call) (a : Option Answer) (bs next : List (Option Answer)) → i < length cs → c ≡ get_or cs i d →
      next ≡ bs ++ (a ∷ []) → DoneBy orders schemes policies v (take i cs) bs u → One u w (named orders schemes policies c) a →
      DoneBy orders schemes policies v (take (i + 1) cs) next w
  done_next v u w cs i c d a bs next l e is before one =
      subst (λ (ds : List Call). DoneBy orders schemes policies v ds next w) (sym (take_more cs i d l ∙ ap (λ x. take i cs ++ (x ∷ [])) (sym e)))
      (subst (λ (l : List (Option Answer)). DoneBy orders schemes policies v (take i cs ++ (c ∷ [])) l w) (sym is) (done_more v (take i cs) bs u w c a before one))

  one_matched : (v u : View) (o : Option LedgerCall) (a : Option Answer) → One v u o a → is_some a ≡ is_some o
  one_matched v u None None one = refl
  one_matched v u None (Some a) one = absurd one
  one_matched v u (Some c) None one = absurd one
  one_matched v u (Some c) (Some a) one = refl

  pub done_matched : (v w : View) (cs : List Call) (bs : List (Option Answer)) → DoneBy orders schemes policies v cs bs w → Matched orders schemes policies cs bs
  done_matched v w [] [] all = tt
  done_matched v w [] (a ∷ bs) all = absurd all
  done_matched v w (c ∷ cs) [] all = absurd all
  done_matched v w (c ∷ cs) (a ∷ bs) (u, one, rest) = (one_matched v u (named orders schemes policies c) a one, done_matched u w cs bs rest)

  one_answered : (v u : View) (o : Option LedgerCall) (a : Option Answer) (rest : List Event) → One v u o a → EveryCallAnswered (ledger_of u) rest →
      EveryCallAnswered (ledger_of v) (event orders schemes policies o a rest)
  one_answered v u None None rest one later = subst (λ (x : View). EveryCallAnswered (ledger_of x) rest) one later
  one_answered v u None (Some a) rest one later = absurd one
  one_answered v u (Some c) None rest one later = absurd one
  one_answered v u (Some c) (Some a) rest one later = (one.answered, subst (λ (L : Ledger). EveryCallAnswered L rest) one.ledger later)

  pub done_answered : (v w : View) (cs : List Call) (bs : List (Option Answer)) → DoneBy orders schemes policies v cs bs w →
      EveryCallAnswered (ledger_of v) (events orders schemes policies cs bs)
  done_answered v w [] bs all = tt
  done_answered v w (c ∷ cs) [] all = absurd all
  done_answered v w (c ∷ cs) (a ∷ bs) (u, one, rest) =
      one_answered v u (named orders schemes policies c) a (events orders schemes policies cs bs) one (done_answered u w cs bs rest)

  -- ---- the lattices that calls bring

  module _ (laws : (z : V) → Lattices (orders z)) where
    judged_brings : (n s p : ℕ) (c : LedgerCall) → judged_by orders schemes policies n s p ≡ Some c → LatticesBrought c
    judged_brings n s p c e = go (get_elem? schemes s) e
      where
        inner : (z : V) (o : Lookup Held) → ◌≡◌ {A = Option LedgerCall} (elim o [ none ↦ None | some q ↦ Some (judge n (orders z) (policy_of q)) ]) (Some c) → LatticesBrought c
        inner z none e = let bad : ◌≡◌ {A = ℕ} 0 1 = cc in absurd (omega arith)
        inner z (some q) e = let same : judge n (orders z) (policy_of q) ≡ c = cc in subst LatticesBrought same (laws z)

        go : (o : Lookup V) → ◌≡◌ {A = Option LedgerCall} (elim o [
          | none ↦ None
          | some z ↦ elim (get_elem? policies p) [ none ↦ None | some q ↦ Some (judge n (orders z) (policy_of q)) ]
        ]) (Some c) → LatticesBrought c
        go none e = let bad : ◌≡◌ {A = ℕ} 0 1 = cc in absurd (omega arith)
        go (some z) e = inner z (get_elem? policies p) e

    brought_by : (d c : LedgerCall) → ◌≡◌ {A = Option LedgerCall} (Some d) (Some c) → LatticesBrought d → LatticesBrought c
    brought_by d c e h = let same : d ≡ c = cc in subst LatticesBrought same h

    brings : (call : Call) (o : Option LedgerCall) → named orders schemes policies call ≡ o → (a : Option Answer) (rest : List Event) →
        EveryCallBringsLattices rest → EveryCallBringsLattices (event orders schemes policies o a rest)
    brings call None e a rest later = later
    brings call (Some c) e None rest later = later
    brings (Enter x y z) (Some c) e (Some a) rest later = (brought_by (enter x y z) c e tt, later)
    brings (Step row len) (Some c) e (Some a) rest later = (brought_by (step (take len row)) c e tt, later)
    brings (Mark n x) (Some c) e (Some a) rest later = (brought_by (mark n x) c e tt, later)
    brings (Unmark n x) (Some c) e (Some a) rest later = (brought_by (unmark n x) c e tt, later)
    brings (Verify n b) (Some c) e (Some a) rest later = (brought_by (verify n b) c e tt, later)
    brings (Draw x y t) (Some c) e (Some a) rest later = (brought_by (draw x y t) c e tt, later)
    brings (Strike x y t) (Some c) e (Some a) rest later = (brought_by (strike x y t) c e tt, later)
    brings Settle (Some c) e (Some a) rest later = (brought_by (settle) c e tt, later)
    brings (Judge n s p) (Some c) e (Some a) rest later = (judged_brings n s p c e, later)
    brings (Path n x room) (Some c) e (Some a) rest later = (brought_by (path n x room) c e tt, later)

    pub all_bring : (cs : List Call) (bs : List (Option Answer)) → EveryCallBringsLattices (events orders schemes policies cs bs)
    all_bring [] bs = tt
    all_bring (c ∷ cs) [] = tt
    all_bring (c ∷ cs) (a ∷ bs) = brings c (named orders schemes policies c) refl a (events orders schemes policies cs bs) (all_bring cs bs)

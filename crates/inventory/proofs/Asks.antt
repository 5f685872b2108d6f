-- What path answers is what the ledger asks.
use Rattle.std.proofs.Common.{◌≡◌, ℕ, ◌<◌, ◌≤◌, true, false, ltb, List, length, Some, None, refl, ap, ◌∙◌, inl, inr, arith}
use Rattle.std.proofs.lemmas.Bool.{and_parts, ltb-true, lt-ltb, le-ltb, cond-true, cond-false, both_ways}
use Rattle.lattice.specs.Sets.{has}
use Rattle.refusals.specs.declared.refusal.Reason.TheVariants.{NotInLabel, ShortPiece}
use Rattle.ledger.specs.Ledger.{path, IsFlowPath, Shortest}
use Rattle.refusals.specs.declared.refusal.Refusal.{Refusal}
use Rattle.ledger.specs.Run.{Answered, refused, shown}
use Rattle.lattice.specs.Tests.{is_true, from_true}
use Rattle.inventory.specs.View.{View, ledger_of, record_at}
use Rattle.inventory.specs.View.{graph_of}
use Rattle.flows.specs.Graph.{FlowPath}
use Rattle.flows.specs.Certificate.{distance, Certified}
use Rattle.flows.specs.Paths.{hops}
use Rattle.inventory.specs.Paths.{told, told_on}
use Rattle.inventory.specs.Sound.{Sound}
use Rattle.inventory.specs.Checks.{refusal_of}
use Rattle.inventory.proofs.Declines.{path_passed}
use Rattle.flows.proofs.Trails.{reached}
use Rattle.inventory.proofs.Bridge.{certified, joined, has_holds, path_to, brought_near, not_brought}
use Rattle.inventory.proofs.Outcomes.{given_answer}

module _ (v : View) (s : Sound v) (n x room : ℕ) where
  pub told_refused : (e : Refusal) → refusal_of v (path n x room) ≡ Some e → told v n x room ≡ refused e
  unfolding told
  told_refused e h = ap (λ o. elim o [ Some e ↦ refused e | None ↦ told_on v n x room ]) h

  module _ (passed : refusal_of v (path n x room) ≡ None) where
    all : Certified (graph_of v) v.workspace
    all = certified v s (path_passed v n x room passed).2

    pub in_range : x < 64
    in_range =
        let good = (path_passed v n x room passed).1 in
        omega (arith, ltb-true x v.sizes.types (and_parts (ltb 0 x) (ltb x v.sizes.types) good).1, s.sized.3)

    told_next : told v n x room ≡ told_on v n x room
    unfolding told
    told_next = ap (λ o. elim o [ Some e ↦ refused e | None ↦ told_on v n x room ]) passed

    pub told_absent : has (record_at v n).label x ≡ false → told v n x room ≡ refused (record { reason = NotInLabel; place = x })
    told_absent out = told_next ∙ cond-false (has (record_at v n).label x) _ (refused (record { reason = NotInLabel; place = x })) out

    pub told_short : has (record_at v n).label x ≡ true → room < distance v.workspace n x → told v n x room ≡ refused (record { reason = ShortPiece; place = 0 })
    told_short inside short =
        told_next ∙ cond-true (has (record_at v n).label x) _ (refused (record { reason = NotInLabel; place = x })) inside
        ∙ cond-true (ltb room (distance v.workspace n x)) (refused (record { reason = ShortPiece; place = 0 })) _ (lt-ltb room (distance v.workspace n x) short)

    pub told_shown : has (record_at v n).label x ≡ true → distance v.workspace n x ≤ room → told v n x room ≡ shown (hops v.workspace v.flows (distance v.workspace n x) n x)
    told_shown inside fits =
        told_next ∙ cond-true (has (record_at v n).label x) _ (refused (record { reason = NotInLabel; place = x })) inside
        ∙ cond-false (ltb room (distance v.workspace n x)) (refused (record { reason = ShortPiece; place = 0 })) _ (le-ltb room (distance v.workspace n x) fits)

    no_shorter : (gs : List ℕ) → IsFlowPath (ledger_of v) gs n x → distance v.workspace n x ≤ length gs
    no_shorter gs way = (brought_near v s all gs n x way).1

    pub answer_absent : has (record_at v n).label x ≡ false → Answered (ledger_of v) (path n x room) (refused (record { reason = NotInLabel; place = x }))
    answer_absent out =
        given_answer v s (path n x room) (refused (record { reason = NotInLabel; place = x })) passed
        (inl (not_brought v s all n x (λ h. both_ways (has (record_at v n).label x) out (is_true _ h)), refl))

    -- the hops of the workspace are a shortest path
    way : has (record_at v n).label x ≡ true
        → FlowPath (graph_of v) (hops v.workspace v.flows (distance v.workspace n x) n x) n x
        × (length (hops v.workspace v.flows (distance v.workspace n x) n x) ≡ distance v.workspace n x)
    way inside =
        reached (graph_of v) v.workspace (joined v s) all.0 all.1 n x (path_passed v n x room passed).0 in_range
        (has_holds (record_at v n).label x (from_true _ inside))

    shortest : (inside : has (record_at v n).label x ≡ true) → Shortest (ledger_of v) (hops v.workspace v.flows (distance v.workspace n x) n x) n x
    shortest inside = (path_to v s _ n x (way inside).0, λ gs other. omega (arith, no_shorter gs other, (way inside).1))

    pub answer_short : has (record_at v n).label x ≡ true → room < distance v.workspace n x
        → Answered (ledger_of v) (path n x room) (refused (record { reason = ShortPiece; place = 0 }))
    answer_short inside short =
        given_answer v s (path n x room) (refused (record { reason = ShortPiece; place = 0 })) passed
        (inr (_, shortest inside, inl (omega (arith, (way inside).1), refl)))

    pub answer_shown : has (record_at v n).label x ≡ true → distance v.workspace n x ≤ room
        → Answered (ledger_of v) (path n x room) (shown (hops v.workspace v.flows (distance v.workspace n x) n x))
    answer_shown inside fits =
        given_answer v s (path n x room) (shown (hops v.workspace v.flows (distance v.workspace n x) n x)) passed
        (inr (_, shortest inside, inr (omega (arith, (way inside).1), refl)))

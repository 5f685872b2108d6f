-- A node is listed with its first values.
use Rattle.std.proofs.Common.{ℕ, get_or, bit_or, ap, ◌∙◌, ⊎_elim, arith}
use lib.Bits.{or_zero_r}
use Rattle.std.proofs.lemmas.Nat.{le_or_l, le_or_r}
use Rattle.flows.proofs.Listings.{listed_kept, listed_room, listed_more}
use Rattle.flows.proofs.fronts.Front.add.Goals as goal
use Rattle.flows.proofs.fronts.Front.add.Goals.{then-set-eq0+then-values-ne0, else-set-eq0}

pub push-requires : goal.push-requires
push-requires c = (omega arith, listed_room _ _ _ c.args.values c.self.invariant c.requires c.if-set-eq0.true c.if-values-ne0.true)

pub invariant_of-self : goal.invariant_of-self
invariant_of-self c =
    let old : ℕ = get_or c.self.inside.sets c.args.node 0 in
    elim c.if-set-eq0.branch [
      | then-set-eq0+then-values-ne0 w ↦ rw (w.self-inside-is, w.push.ensures.items)
          (listed_more _ _ _ _ c.self.invariant c.requires w.if-set-eq0.true (λ z. w.if-values-ne0.true (omega (arith, z, le_or_r old c.args.values))))
      | else-set-eq0 w ↦ rw w.self-inside-is
          (listed_kept _ _ _ _ c.self.invariant c.requires (λ ne z. ne (omega (arith, z, le_or_l old c.args.values)))
          (λ z. ⊎_elim (λ both. ap (λ k. bit_or old k) both.1 ∙ or_zero_r old ∙ z) (λ ne. absurd (ne z)) w.else-set-eq0.either))
    ]

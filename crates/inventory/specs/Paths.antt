-- What path answers, as a function of the memory.
use Rattle.std.specs.Prelude.{ℕ, cond, Some, None, nat_lt}
use Rattle.lattice.specs.Sets.{has}
use Rattle.refusals.specs.declared.refusal.Reason.TheVariants.{NotInLabel, ShortPiece}
use Rattle.ledger.specs.Ledger.{path}
use Rattle.ledger.specs.Run.{Answer, refused, shown}
use Rattle.inventory.specs.View.{View, record_at}
use Rattle.flows.specs.Certificate.{distance}
use Rattle.flows.specs.Paths.{hops}
use Rattle.inventory.specs.Checks.{refusal_of}

-- where the arguments are in order and the inventory is settled
abbrev pub told_on : View → ℕ → ℕ → ℕ → Answer
told_on v n x room =
    cond (has (record_at v n).label x)
    (cond (nat_lt room (distance v.workspace n x)) (refused (record { reason = ShortPiece; place = 0 })) (shown (hops v.workspace v.flows (distance v.workspace n x) n x)))
    (refused (record { reason = NotInLabel; place = x }))

unfoldable pub told : View → ℕ → ℕ → ℕ → Answer
told v n x room = elim (refusal_of v (path n x room)) [ Some e ↦ refused e | None ↦ told_on v n x room ]

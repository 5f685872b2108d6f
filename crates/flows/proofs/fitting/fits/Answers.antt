-- The three tests say together what fits.
use Rattle.std.proofs.Common.{sym, ◌∙◌, true≢false}
use Rattle.flows.proofs.Fittings.{fitting_of, rows_of}
use Rattle.flows.proofs.fitting.fits.Goals as goal
use Rattle.flows.proofs.fitting.fits.Goals.{then-sizes_fit, else-sizes_fit}

pub returns-then-flows_fit : goal.returns-then-flows_fit
returns-then-flows_fit c = elim c.if-sizes_fit.branch [
  | then-sizes_fit w ↦ (
    λ e. fitting_of _ _ _ _ (c.sizes_fit.ensures.0 w.if-sizes_fit.true) (w.flows_fit.ensures.0 (sym w.value-is ∙ c.if-flows_fit.true)) (c.rows_fit.ensures.0 e),
    λ fit. c.rows_fit.ensures.1 (rows_of _ _ _ _ fit),
  )
  | else-sizes_fit w ↦ absurd (true≢false (sym c.if-flows_fit.true ∙ w.value-is ∙ w.if-sizes_fit.false))
]

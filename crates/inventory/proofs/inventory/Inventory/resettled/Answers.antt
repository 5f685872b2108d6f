-- The lemmas of Resettles, at the view of the inventory that was taken apart.
use Rattle.std.proofs.Common.{refl}
use Rattle.inventory.specs.Inventories.{view}
use Rattle.inventory.proofs.Outcomes.{sound, parts}
use Rattle.inventory.proofs.Resettles.{spread_counted_again}
use Rattle.inventory.proofs.inventory.Inventory.resettled.Goals as goal

pub invariant_of-result : goal.invariant_of-result
invariant_of-result c =
    parts _ (spread_counted_again (view c.args.self) (sound c.args.self) c.spread.result _ _ _ c.as_slice-rows.ensures.value c.spread.ensures.fits.1 c.spread.ensures.settled).0

pub returns : goal.returns
returns c =
    let all = spread_counted_again (view c.args.self) (sound c.args.self) c.spread.result _ _ _ c.as_slice-rows.ensures.value c.spread.ensures.fits.1 c.spread.ensures.settled in
    record { ledger = all.1; labels = all.2; rest = all.3; lent = (refl, refl, refl) }

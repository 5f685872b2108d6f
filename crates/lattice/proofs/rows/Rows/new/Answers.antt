use Rattle.std.proofs.Common.{refl, ◌∙◌, arith}
use Rattle.refusals.specs.declared.refusal.Reason.TheVariants.{StrayBit}
use Rattle.lattice.specs.FaultsLemmas.{skip, stop}
use Rattle.lattice.specs.Tables.{counted, miscounted}
use Rattle.lattice.proofs.rows.Rows.new.Goals as goal

pub returns-then-rows-lt2-clause-err : goal.returns-then-rows-lt2-clause-err
returns-then-rows-lt2-clause-err c =
    let e = c.then-rows-lt2.either in
    let out = miscounted c.args.rows.now (λ low high. omega arith) in
    cc

pub returns-in-Some-clause-err : goal.returns-in-Some-clause-err
returns-in-Some-clause-err c =
    let found = counted c.args.rows.now c.if-rows-lt2.false c.if-rows-gt64.false ∙ stop StrayBit _ _ _ c.in-Some.ensures.value in
    cc

pub returns-clause-ok : goal.returns-clause-ok
returns-clause-ok c =
    (refl, counted c.args.rows.now c.if-rows-lt2.false c.if-rows-gt64.false ∙ skip StrayBit _ _ c.in_default.ensures.value)

use Rattle.std.proofs.Common.{IsUtf8, refl, sym, subst}
use Rattle.commands.proofs.Texts.{text_of}
use Rattle.commands.proofs.verbs.VerbTryFromRefSliceU8.try_from.Goals as goal

pub returns-in-Err : goal.returns-in-Err
returns-in-Err c = (refl, λ v e. c.in-Err.ensures.cases.0 (subst IsUtf8 (sym e) (text_of v)))

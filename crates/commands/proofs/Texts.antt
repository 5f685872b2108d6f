-- The words of the commands are text.
use Rattle.std.proofs.Common.{IsUtf8, refl}
use lib.Utf8.{encode}
use Rattle.commands.specs.declared.verbs.Verb.{Verb}
use Rattle.commands.specs.declared.verbs.Verb.TheVariants.{Ladder, Table, Pair, Scheme, Policy, Inventory, Enter, Step, Mark, Unmark, Verify, Draw, Strike, Settle, Judge, Path}
use Rattle.commands.specs.Verbs.{word_of}

pub text_of : (v : Verb) → IsUtf8 (word_of v)
unfolding encode
text_of Ladder = (word_of Ladder, (refl, refl))
text_of Table = (word_of Table, (refl, refl))
text_of Pair = (word_of Pair, (refl, refl))
text_of Scheme = (word_of Scheme, (refl, refl))
text_of Policy = (word_of Policy, (refl, refl))
text_of Inventory = (word_of Inventory, (refl, refl))
text_of Enter = (word_of Enter, (refl, refl))
text_of Step = (word_of Step, (refl, refl))
text_of Mark = (word_of Mark, (refl, refl))
text_of Unmark = (word_of Unmark, (refl, refl))
text_of Verify = (word_of Verify, (refl, refl))
text_of Draw = (word_of Draw, (refl, refl))
text_of Strike = (word_of Strike, (refl, refl))
text_of Settle = (word_of Settle, (refl, refl))
text_of Judge = (word_of Judge, (refl, refl))
text_of Path = (word_of Path, (refl, refl))

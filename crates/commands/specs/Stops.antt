-- Why a line could not be read, and what a result says of what it should be. Assumes nothing.
--   stop_words   the reason in plain words
--   Gives   the result is the one wanted, read off by a function, or the fault wanted; where memory runs out, nothing is said
use Rattle.std.specs.Prelude.{◌≡◌, ℕ, List, Ok, Err, codes, Result}
use Rattle.commands.specs.Faults.{fault_words}
use Rattle.commands.specs.declared.faults.Fault.{Fault}
use Rattle.commands.specs.declared.stops.Stop.{Stop}
use Rattle.commands.specs.declared.stops.Stop.TheVariants.{NoMemory}
use Rattle.commands.specs.declared.stops.Stop.TheVariants as stops

abbrev pub stop_words : Stop → List ℕ
stop_words (stops.Fault f) = fault_words f
stop_words NoMemory = codes "there is no memory left"

abbrev pub Gives : {A B : Type 0} → (A → B) → Result B Fault → Result A Stop → Type 0
Gives read wanted (Ok a) = wanted ≡ Ok (read a)
Gives read wanted (Err (stops.Fault f)) = wanted ≡ Err f
Gives read wanted (Err NoMemory) = Unit {0}

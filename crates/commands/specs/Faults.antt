-- What is wrong with a line that asks for nothing, and what is printed for it. Assumes nothing.
--   fault_words   the fault in plain words
--   no_number     what is wrong with a word that should be a number
use Rattle.std.specs.Prelude.{ℕ, List, codes}
use Rattle.lexer.specs.declared.numbers.NumberFault.{NumberFault}
use Rattle.lexer.specs.declared.numbers.NumberFault.TheVariants as number_faults
use Rattle.commands.specs.declared.faults.Fault.{Fault}
use Rattle.commands.specs.declared.faults.Fault.TheVariants.{NoCommand, MissingWord, SurplusWord, NotANumber, TooLarge, NotAName, NotASet, NotYesOrNo, NoLattice, NoScheme, NoPolicy, NoInventory, TooMany}

abbrev pub fault_words : Fault → List ℕ
fault_words NoCommand = codes "there is no such command"
fault_words MissingWord = codes "a word is missing"
fault_words SurplusWord = codes "there is a word too many"
fault_words NotANumber = codes "a word is not a number"
fault_words TooLarge = codes "a number is too large"
fault_words NotAName = codes "a name has only letters, digits and -"
fault_words NotASet = codes "a set is - or values with commas between"
fault_words NotYesOrNo = codes "the last word is neither yes nor no"
fault_words NoLattice = codes "no lattice has this name"
fault_words NoScheme = codes "no scheme has this name"
fault_words NoPolicy = codes "no policy has this name"
fault_words NoInventory = codes "there is no inventory yet"
fault_words TooMany = codes "a script has at most 4096 lattices, schemes and policies each"

abbrev pub no_number : NumberFault → Fault
no_number number_faults.NotANumber = NotANumber
no_number number_faults.TooLarge = TooLarge

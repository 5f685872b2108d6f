-- The word and the number of each attribute. Assumes nothing.
use Rattle.std.specs.Prelude.{ℕ, List, codes}
use Rattle.lattice.specs.declared.attribute.Attribute.{Attribute}
use Rattle.lattice.specs.declared.attribute.Attribute.TheVariants.{InStore, UseForPurpose, AccessByRole, DataType}

abbrev pub word_of : Attribute → List ℕ
word_of InStore = codes "InStore"
word_of UseForPurpose = codes "UseForPurpose"
word_of AccessByRole = codes "AccessByRole"
word_of DataType = codes "DataType"

abbrev pub attribute_number : Attribute → ℕ
attribute_number InStore = 0
attribute_number UseForPurpose = 1
attribute_number AccessByRole = 2
attribute_number DataType = 3

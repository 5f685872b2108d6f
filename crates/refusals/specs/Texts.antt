-- The plain words of each reason, and the name of each layer. Assumes nothing.
use Rattle.std.specs.Prelude.{ℕ, List, codes}
use Rattle.refusals.specs.declared.refusal.Reason.{Reason}
use Rattle.refusals.specs.declared.refusal.Reason.TheVariants.{RowCount, StrayBit, NotReflexive, NotAntisymmetric, NotTransitive, NotBounded, NoJoin, LadderSize, PairSize, WordCount, BadWord, MisplacedWord, SameKind, BadValue, NotRising, TooNested, NoNode, NoStep, BadArgument, FlowStands, NoFlow, NoRoom, Unsettled, SizesDiffer, NotInLabel, ShortPiece}
use Rattle.refusals.specs.declared.refusal.Layer.{Layer}
use Rattle.refusals.specs.declared.refusal.Layer.TheVariants.{Lattice, Words, Clauses, Inventory}

abbrev pub words_of : Reason → List ℕ
words_of RowCount = codes "a table has from 2 to 64 rows"
words_of StrayBit = codes "the row has a bit at or above the row count"
words_of NotReflexive = codes "the row lacks its own bit"
words_of NotAntisymmetric = codes "the value and another are each at or below the other"
words_of NotTransitive = codes "the value is below a second and that below a third, yet not below the third"
words_of NotBounded = codes "value 0 is not at or below the value, or the last value not at or above it"
words_of NoJoin = codes "the value and another have no least upper bound"
words_of LadderSize = codes "a ladder has from 2 to 64 levels"
words_of PairSize = codes "the pair would have more than 64 values"
words_of WordCount = codes "a policy has from 1 to 4,096 words"
words_of BadWord = codes "the word has none of the five kinds, or a bit that must be 0"
words_of MisplacedWord = codes "a word of this kind cannot stand here, or the words end too early"
words_of SameKind = codes "an exception has the other kind than the clause around it"
words_of BadValue = codes "there is no such attribute, or it has no such value past its bottom"
words_of NotRising = codes "values rise by attribute, then code"
words_of TooNested = codes "a policy has at most 256 clauses, at most 16 deep"
words_of NoNode = codes "there is no such node"
words_of NoStep = codes "there is no such step"
words_of BadArgument = codes "a value, a declared set or a row that the sizes do not have"
words_of FlowStands = codes "this flow stands already"
words_of NoFlow = codes "no such flow stands"
words_of NoRoom = codes "all node room, flow room or the 32 steps are in use"
words_of Unsettled = codes "the inventory was changed since it was settled"
words_of SizesDiffer = codes "the scheme, the policy and the inventory differ in a size"
words_of NotInLabel = codes "the value is not in the node's label"
words_of ShortPiece = codes "the piece has fewer entries than the path has flows"

abbrev pub layer_word : Layer → List ℕ
layer_word Lattice = codes "lattice"
layer_word Words = codes "words"
layer_word Clauses = codes "clauses"
layer_word Inventory = codes "inventory"

-- The number of each reason to refuse, and its layer. Assumes nothing.
use Rattle.std.specs.Prelude.{ℕ, cond, nat_le}
use Rattle.refusals.specs.declared.refusal.Reason.{Reason}
use Rattle.refusals.specs.declared.refusal.Reason.TheVariants.{RowCount, StrayBit, NotReflexive, NotAntisymmetric, NotTransitive, NotBounded, NoJoin, LadderSize, PairSize, WordCount, BadWord, MisplacedWord, SameKind, BadValue, NotRising, TooNested, NoNode, NoStep, BadArgument, FlowStands, NoFlow, NoRoom, Unsettled, SizesDiffer, NotInLabel, ShortPiece}
use Rattle.refusals.specs.declared.refusal.Layer as layers
use Rattle.refusals.specs.declared.refusal.Layer.TheVariants.{Lattice, Words, Clauses, Inventory}

abbrev pub number_of : Reason → ℕ
number_of RowCount = 1
number_of StrayBit = 2
number_of NotReflexive = 3
number_of NotAntisymmetric = 4
number_of NotTransitive = 5
number_of NotBounded = 6
number_of NoJoin = 7
number_of LadderSize = 8
number_of PairSize = 9
number_of WordCount = 10
number_of BadWord = 11
number_of MisplacedWord = 12
number_of SameKind = 13
number_of BadValue = 14
number_of NotRising = 15
number_of TooNested = 16
number_of NoNode = 17
number_of NoStep = 18
number_of BadArgument = 19
number_of FlowStands = 20
number_of NoFlow = 21
number_of NoRoom = 22
number_of Unsettled = 23
number_of SizesDiffer = 24
number_of NotInLabel = 25
number_of ShortPiece = 26

-- the reasons are numbered by layer: 1 to 9, 10 to 12, 13 to 16, and those that follow
abbrev pub layer_of : Reason → layers.Layer
layer_of r = cond (nat_le (number_of r) 9) Lattice (cond (nat_le (number_of r) 12) Words (cond (nat_le (number_of r) 16) Clauses Inventory))

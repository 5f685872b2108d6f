-- The commands, each with its word and the kinds of its arguments. Assumes nothing.
--   word_of    the first word of the line
--   Names      a result is the command that a word names, or the fault of a word that names none
--   kinds_of   the kinds of the arguments that the command always has
--   more_of    the kind of a further argument, by its number, where there may be one
use Rattle.std.specs.Prelude.{◌≡◌, ◌≢◌, ℕ, cond, List, [], ◌∷◌, Some, None, codes, MatchResult, Option, Result, nat_lt}
use Rattle.commands.specs.declared.faults.Fault.{Fault}
use Rattle.commands.specs.declared.faults.Fault.TheVariants.{NoCommand}
use Rattle.commands.specs.declared.verbs.Verb.{Verb}
use Rattle.commands.specs.declared.verbs.Verb.TheVariants.{Ladder, Table, Pair, Scheme, Policy, Inventory, Enter, Step, Mark, Unmark, Verify, Draw, Strike, Settle, Judge, Path}
use Rattle.commands.specs.declared.verbs.Kind.{Kind}
use Rattle.commands.specs.declared.verbs.Kind.TheVariants.{Name, Number, Word, Byte, Room, Set, YesOrNo}

abbrev pub word_of : Verb → List ℕ
word_of Ladder = codes "ladder"
word_of Table = codes "table"
word_of Pair = codes "pair"
word_of Scheme = codes "scheme"
word_of Policy = codes "policy"
word_of Inventory = codes "inventory"
word_of Enter = codes "enter"
word_of Step = codes "step"
word_of Mark = codes "mark"
word_of Unmark = codes "unmark"
word_of Verify = codes "verify"
word_of Draw = codes "draw"
word_of Strike = codes "strike"
word_of Settle = codes "settle"
word_of Judge = codes "judge"
word_of Path = codes "path"

abbrev pub Names : List ℕ → Result Verb Fault → Type 0
Names word r = MatchResult r (λ v. word ≡ word_of v) (λ f. (f ≡ NoCommand) × ((v : Verb) → word ≢ word_of v))

abbrev pub kinds_of : Verb → List Kind
kinds_of Ladder = Name ∷ Number ∷ []
kinds_of Table = Name ∷ []
kinds_of Pair = Name ∷ Name ∷ Name ∷ []
kinds_of Scheme = Name ∷ Name ∷ Name ∷ Name ∷ Name ∷ []
kinds_of Policy = Name ∷ Name ∷ []
kinds_of Inventory = Byte ∷ Byte ∷ Byte ∷ Byte ∷ Number ∷ Number ∷ Number ∷ []
kinds_of Enter = Set ∷ Set ∷ Set ∷ []
kinds_of Step = []
kinds_of Mark = Number ∷ Byte ∷ []
kinds_of Unmark = Number ∷ Byte ∷ []
kinds_of Verify = Number ∷ YesOrNo ∷ []
kinds_of Draw = Number ∷ Number ∷ Number ∷ []
kinds_of Strike = Number ∷ Number ∷ Number ∷ []
kinds_of Settle = []
kinds_of Judge = Number ∷ Name ∷ Name ∷ []
kinds_of Path = Number ∷ Byte ∷ Room ∷ []

-- rows of a table, words of a policy, entries of a row of at most 64
abbrev pub more_of : Verb → ℕ → Option Kind
more_of Ladder at = None
more_of Table at = Some Number
more_of Pair at = None
more_of Scheme at = None
more_of Policy at = Some Word
more_of Inventory at = None
more_of Enter at = None
more_of Step at = cond (nat_lt at 64) (Some Byte) None
more_of Mark at = None
more_of Unmark at = None
more_of Verify at = None
more_of Draw at = None
more_of Strike at = None
more_of Settle at = None
more_of Judge at = None
more_of Path at = None

use Rattle.std.proofs.Common.{◌≤◌, length, rules}
use Rattle.policy.proofs.First.{begun_none, begun_stray, begun_lent}
use Rattle.policy.proofs.draft.Draft.read_first.Goals as goal

pub returns-in_default : goal.returns-in_default
returns-in_default c = rw c.at.ensures (begun_none c.args.self.now c.args.words.now (search rules) c.requires.0 c.requires.1.0)

pub returns-in-Some-Head : goal.returns-in-Some-Head
returns-in-Some-Head c =
    let some : 1 ≤ length c.args.words.now = search rules in
    begun_lent c.args.self.now c.args.words.now some c.requires.0 c.requires.1.0 c.word_of.result c.word_of.ensures c.in-Some-Head.kind (search rules) c.read_behind.result (λ rest. rest.now) c.read_behind.new.self c.read_behind.ensures

pub returns-in_default-word_of : goal.returns-in_default-word_of
returns-in_default-word_of c =
    let some : 1 ≤ length c.args.words.now = search rules in
    rw c.at-in_default-word_of.ensures (begun_stray c.args.self.now c.args.words.now some c.requires.0 c.requires.1.0 c.word_of.result c.word_of.ensures c.stray.result (search rules) (search rules))

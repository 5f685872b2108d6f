use Rattle.std.proofs.Common.{rules}
use Rattle.policy.proofs.First.{first_whole, first_stray}
use Rattle.policy.proofs.draft.Draft.read_words.Goals as goal

pub returns-in_default : goal.returns-in_default
returns-in_default c = first_whole c.args.self.now c.read_first.new.self c.args.words.now c.in_ok-rest.rest.now c.in_ok-rest.ensures (search rules)

pub returns : goal.returns
returns c = rw c.at.ensures (
    first_stray c.args.self.now c.read_first.new.self c.args.words.now c.in_ok-rest.rest.now c.requires.1.0 c.in_ok-rest.ensures (search rules)
    c.word_of.result c.word_of.ensures c.stray.result c.stray.ensures)

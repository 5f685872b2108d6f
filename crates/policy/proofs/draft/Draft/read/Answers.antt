use Rattle.std.proofs.Common.{◌≤◌, length, rules}
use Rattle.std.proofs.lemmas.Result.{err_from_is_err_and}
use Rattle.policy.proofs.First.{drafted, draft_stops}
use Rattle.policy.proofs.draft.Draft.read.Goals as goal

pub returns-in_err-read_words : goal.returns-in_err-read_words
returns-in_err-read_words c =
    let lo : 1 ≤ length c.args.words.now = search rules in
    let hi : length c.args.words.now ≤ 4096 = search rules in
    let p = err_from_is_err_and c.from_residual.result c.from_residual.ensures.1 in
    let h = draft_stops c.args.sizes c.new.result c.new.ensures c.args.words.now lo hi c.in_err-read_words.field-0.0 c.in_err-read_words.ensures in
    rw (p.1, p.2) h

pub returns : goal.returns
returns c =
    let lo : 1 ≤ length c.args.words.now = search rules in
    let hi : length c.args.words.now ≤ 4096 = search rules in
    drafted c.args.sizes c.requires c.new.result c.new.ensures c.args.words.now lo hi c.read_words.new.self c.in_ok-read_words.ensures

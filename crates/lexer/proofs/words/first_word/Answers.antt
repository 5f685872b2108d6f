-- After the blanks a word goes on as far as its bytes do.
use Rattle.std.proofs.Common.{◌≡◌, ◌-◌, ◌<◌, length, take, drop, not, rules, refl, arith}
use Rattle.std.specs.List.{position}
use Rattle.std.proofs.lemmas.Iterator.{YieldsList-from_slice}
use Rattle.std.proofs.lemmas.Iterator.Search.{position_from_yields_List}
use borrow.Author.Tests.{tests}
use Rattle.lexer.specs.Classes.{is_blank, in_word}
use Rattle.lexer.proofs.Positions.{found, missed, reached}
use Rattle.lexer.proofs.WordCuts.{words_blank, word_over, word_cut, word_bytes, word_shorter}
use Rattle.lexer.proofs.words.first_word.Goals as goal

pub returns-in_err-begin-clause-word : goal.returns-in_err-begin-clause-word
returns-in_err-begin-clause-word c =
    let is : c.position.result ≡ position (λ b. not (is_blank b)) c.args.line.now =
    position_from_yields_List (λ b. not (is_blank b)) _ _ c.position.result c.position.ensures.ran (YieldsList-from_slice c.args.line.now cc) (λ x b q k. search (rules, tests)) in
    rw c.from_residual.ensures (words_blank c.args.line.now (missed (λ b. not (is_blank b)) c.args.line.now c.position.result is c.in_err-begin.was))

pub returns-then-end-eq0-clause-word : goal.returns-then-end-eq0-clause-word
returns-then-end-eq0-clause-word c =
    let line = c.args.line.now in
    let n = c.in_ok-begin.begin in
    let rest = take (length line - n) (drop n line) in
    let is : c.position.result ≡ position (λ b. not (is_blank b)) line =
    position_from_yields_List (λ b. not (is_blank b)) _ _ c.position.result c.position.ensures.ran (YieldsList-from_slice line cc) (λ x b q k. search (rules, tests)) in
    let ends : c.position-2.result ≡ position (λ b. not (in_word b)) rest =
    position_from_yields_List (λ b. not (in_word b)) _ _ c.position-2.result c.position-2.ensures.ran (YieldsList-from_slice rest cc) (λ x b q k. search (rules, tests)) in
    let h = found (λ b. not (is_blank b)) line c.position.result is n c.in_ok-begin.was in
    let k = reached (λ b. not (in_word b)) rest c.position-2.result ends c.unwrap_or-end.result c.unwrap_or-end.ensures in
    word_over line rest n c.unwrap_or-end.result h.0 refl k.0 c.if-end-eq0.true

pub returns : goal.returns
returns c =
    let line = c.args.line.now in
    let n = c.in_ok-begin.begin in
    let m = c.unwrap_or-end.result in
    let rest = take (length line - n) (drop n line) in
    let is : c.position.result ≡ position (λ b. not (is_blank b)) line =
    position_from_yields_List (λ b. not (is_blank b)) _ _ c.position.result c.position.ensures.ran (YieldsList-from_slice line cc) (λ x b q k. search (rules, tests)) in
    let ends : c.position-2.result ≡ position (λ b. not (in_word b)) rest =
    position_from_yields_List (λ b. not (in_word b)) _ _ c.position-2.result c.position-2.ensures.ran (YieldsList-from_slice rest cc) (λ x b q k. search (rules, tests)) in
    let h = found (λ b. not (is_blank b)) line c.position.result is n c.in_ok-begin.was in
    let k = reached (λ b. not (in_word b)) rest c.position-2.result ends m c.unwrap_or-end.ensures in
    let some : 0 < m = omega arith in
    record {
      word = rw (c.split_at.ensures.front, c.split_at.ensures.back) (word_cut line rest n m h.0 refl k.0 some);
      bytes = rw c.split_at.ensures.front (word_bytes line rest n m h.0 refl k.0 some k.1);
      shorter = rw c.split_at.ensures.back (word_shorter line rest n m h.0 refl k.0 some k.1);
    }

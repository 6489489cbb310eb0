use Rattle.std.proofs.Common.{◌≡◌, ◌-◌, length, take, drop, arith}
use Rattle.aig_names.proofs.Words.{rest_is, first_word_is, no_word, no_bytes}
use Rattle.aig_names.proofs.names.first_word.Goals as goal

pub returns-then-size-eq0 : goal.returns-then-size-eq0
returns-then-size-eq0 c =
    let text = c.args.text.now in
    let n = c.count_blanks.result in
    let word = take (length text - n) (drop n text) in
    let blanks = c.count_blanks.ensures in
    let rest : word ≡ drop n text = rest_is n text blanks.within in
    let none : length word ≡ 0 = no_bytes text word n c.count_word-size.result rest c.if-size-eq0.true blanks.first c.count_word-size.ensures.end in
    no_word text word n blanks.within blanks.blanks rest none

pub returns : goal.returns
returns c =
    let text = c.args.text.now in
    let n = c.count_blanks.result in
    let m = c.count_word-size.result in
    let word = take (length text - n) (drop n text) in
    let blanks = c.count_blanks.ensures in
    let size = c.count_word-size.ensures in
    first_word_is text word (take (length word - m) (drop m word)) n m blanks.within blanks.blanks
    (rest_is n text blanks.within) (omega (arith, c.if-size-eq0.false)) size.within size.word size.end
    (rest_is m word size.within)

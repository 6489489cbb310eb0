use Rattle.std.proofs.Common.{arith}
use Rattle.aig_sat.proofs.models.ModelLemmas.{byte_there, read_on, space_on}
use Rattle.aig_sat.proofs.models.RefusalLemmas.{word_refused}
use Rattle.aig_sat.proofs.model.progress.Reader.take_piece.Goals as goal

pub returns-then-end-place-clause-goes_on : goal.returns-then-end-place-clause-goes_on
returns-then-end-place-clause-goes_on c before =
    let text = c.args.place.text.now in
    let end = c.word_end-end.result in
    let there = byte_there text end c.word_end-end.ensures.bounds.1 in
    space_on c.args.self.now text c.args.place.at end c.if-end-place.true c.word_end-end.ensures.bounds.1
    (c.word_end-end.ensures.ended _ there) before

pub returns-then-take_word-clause-goes_on : goal.returns-then-take_word-clause-goes_on
returns-then-take_word-clause-goes_on c before =
    let text = c.args.place.text.now in
    let end = c.word_end-end.result in
    let there = byte_there text end c.word_end-end.ensures.bounds.1 in
    read_on text c.args.place.at end _ c.word_end-end.ensures.bounds.0 c.word_end-end.ensures.bounds.1 there
    c.args.self.now c.take_word.new.self before (λ literals h.
    c.take_word.ensures.goes_on c.if-take_word.true _ (c.word_end-end.ensures.ended _ there) _ literals c.requires.0 h)

pub returns-else-take_word-clause-refused : goal.returns-else-take_word-clause-refused
returns-else-take_word-clause-refused c is before values model =
    let text = c.args.place.text.now in
    let end = c.word_end-end.result in
    let there = byte_there text end c.word_end-end.ensures.bounds.1 in
    word_refused c.args.self.now.variables c.args.self.now text c.args.place.at values c.args.self.now.small c.args.self.now.count before model
    end _ c.word_end-end.ensures.bounds.0 c.word_end-end.ensures.bounds.1 there
    (omega (arith, c.if-end-place.false, c.word_end-end.ensures.bounds.0)) (c.word_end-end.ensures.ended _ there)
    c.word_end-end.ensures.no_space c.args.begins c.requires.1
    (c.take_word.ensures.no_mark c.if-take_word.false) (c.take_word.ensures.no_end c.if-take_word.false)
    (c.take_word.ensures.no_literal c.if-take_word.false)

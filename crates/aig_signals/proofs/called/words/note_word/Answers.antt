use Rattle.std.proofs.Common.{◌∙◌, List, ap}
use Rattle.std.specs.Str.{bytes_eq}
use Rattle.std.proofs.lemmas.Result.{on_ok_weaker}
use Rattle.indexmap.specs.IndexMap.{get_by}
use Rattle.aig_signals.specs.declared.bits.WordBit.{WordBit}
use Rattle.aig_signals.specs.state.Called.{with_words}
use Rattle.aig_signals.proofs.CalledWords.{with_nothing, word_is, word_none}
use Rattle.aig_signals.proofs.called.words.note_word.Goals as goal

pub returns-in-Some : goal.returns-in-Some
returns-in-Some c =
    on_ok_weaker c.note.result
    (λ h x. h x ∙ ap (λ (ws : List WordBit). with_words ws (get_by (λ key. bytes_eq x key.items) c.args.table.now))
    (word_is x c.in-Some.bit.vector.now c.args.word.now c.in-Some.bit.index c.args.literal c.in-Some.ensures.bit))
    c.note.ensures

pub returns-in-None : goal.returns-in-None
returns-in-None c x = with_nothing _ _ (word_none x c.args.word.now c.args.literal c.in-None.ensures.bit)

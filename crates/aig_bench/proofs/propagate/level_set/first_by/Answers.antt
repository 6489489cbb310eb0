use Rattle.aig_bench.proofs.queues.BitPlaces.{none_filled, found_in_word}
use Rattle.aig_bench.proofs.propagate.level_set.first_by.Goals as goal

pub returns-in_err-word : goal.returns-in_err-word
returns-in_err-word c =
    rw c.from_residual.ensures
    (none_filled c.args.numbers.now.words.items c.args.filled.now.words.items c.requires c.args.from
    c.in_default.ensures.least c.in_err-word.ensures)

pub returns : goal.returns
returns c =
    found_in_word c.args.numbers.now.words.items c.args.filled.now.words.items c.requires c.args.from c.in_ok-word.word
    c.first_in_word-2.result c.in_default.ensures.least c.in_ok-word.ensures c.first_in_word-2.ensures.least
    c.first_in_word-2.ensures.empty

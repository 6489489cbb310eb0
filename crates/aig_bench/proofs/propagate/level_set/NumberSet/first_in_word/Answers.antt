use Rattle.std.proofs.Common.{arith}
use Rattle.aig_parts.proofs.BitLemmas.{past}
use Rattle.aig_bench.proofs.queues.BitPlaces.{none_in_word, some_in_word}
use Rattle.aig_bench.proofs.propagate.level_set.NumberSet.first_in_word.Goals as goal

pub returns-then-word-len-clause-least : goal.returns-then-word-len-clause-least
returns-then-word-len-clause-least c n le lt has = past c.args.self.now.words.items n (omega arith) has

pub returns-in_err-place-clause-least : goal.returns-in_err-place-clause-least
returns-in_err-place-clause-least c =
    rw c.from_residual.ensures
    (none_in_word c.args.self.now.words.items c.args.from c.index.result.now (omega arith) c.index.ensures c.in_err-place.ensures.least)

pub returns-clause-least : goal.returns-clause-least
returns-clause-least c =
    some_in_word c.args.self.now.words.items c.args.from c.index.result.now (omega arith) c.index.ensures
    c.in_ok-place.place c.in_ok-place.ensures.least

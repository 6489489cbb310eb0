use Rattle.std.proofs.Common.{None, subst}
use Rattle.aig_bench.specs.state.LevelSet.{IsFirstFrom}
use Rattle.aig_bench.proofs.queues.BitPlaces.{none_filled, found_in_word}
use Rattle.aig_bench.proofs.propagate.level_set.LevelSet.first_from.Goals as goal

pub returns-in_err-word : goal.returns-in_err-word
returns-in_err-word c =
    rw c.from_residual.ensures
    (subst (λ words. IsFirstFrom words c.args.from None) c.self.view_is
    (none_filled _ _ c.self.invariant.by_words c.args.from c.in_default.ensures.least c.in_err-word.ensures))

pub returns : goal.returns
returns c =
    subst (λ words. IsFirstFrom words c.args.from c.first_in_word-2.result) c.self.view_is
    (found_in_word _ _ c.self.invariant.by_words c.args.from c.in_ok-word.word c.first_in_word-2.result
    c.in_default.ensures.least c.in_ok-word.ensures c.first_in_word-2.ensures.least c.first_in_word-2.ensures.empty)

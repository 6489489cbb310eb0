use Rattle.std.proofs.Common.{◌≡◌, ℕ, List, ◌+◌, ◌*◌, ◌/◌, ◌<◌, ◌≤◌, length, get_or, arith}
use Rattle.aig_bench.specs.state.LevelSet.{AreFilled, word_limit}
use Rattle.aig_bench.proofs.queues.BitPlaces.{no_words_filled, none_of_zeros}
use Rattle.aig_bench.proofs.propagate.level_set.LevelSet.new.Goals as goal

pub invariant_of-result : goal.invariant_of-result
invariant_of-result c =
    let words = c.in_ok-levels.ensures.words in
    let filled = c.in_ok-filled.ensures.words in
    let blocks = c.in_ok-blocks.ensures.words in
    record {
      by_words = no_words_filled _ _ c.in_ok-levels.ensures.empty c.in_ok-filled.ensures.empty (omega arith) (omega arith)
          (omega arith);
      by_blocks = no_words_filled _ _ c.in_ok-filled.ensures.empty c.in_ok-blocks.ensures.empty (omega arith) (omega arith)
          (omega arith);
    }

pub returns-clause-empty : goal.returns-clause-empty
returns-clause-empty c = none_of_zeros c.in_ok-levels.levels.words.items c.in_ok-levels.ensures.empty

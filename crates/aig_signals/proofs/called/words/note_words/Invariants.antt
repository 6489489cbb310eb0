use Rattle.std.proofs.Common.{◌≡◌, ℕ, List, length, map}
use Rattle.std.specs.Prelude.{filter_map}
use Rattle.std.specs.Str.{bytes_eq}
use Rattle.indexmap.specs.IndexMap.{get_by}
use Rattle.aig_names.specs.Names.{words}
use Rattle.aig_signals.specs.Bits.{word_bit}
use Rattle.aig_signals.specs.Names.{readable}
use Rattle.aig_signals.specs.state.Called.{with_words}
use Rattle.aig_signals.proofs.called.words.note_words.Given as goal

abbrev pub invariant-loop-first : goal.invariant-loop-first
invariant-loop-first l = (x : List ℕ) →
    with_words (filter_map (word_bit x l.literal) (map readable (words l.rest))) (get_by (λ key. bytes_eq x key.items) l.table)
    ≡ with_words (filter_map (word_bit x l.literal) (map readable (words l.symbol))) (get_by (λ key. bytes_eq x key.items) l.fn.table)

abbrev pub decreases-loop-first : goal.decreases-loop-first
decreases-loop-first l = length l.rest

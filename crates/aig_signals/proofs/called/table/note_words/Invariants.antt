use Rattle.std.proofs.Common.{◌≡◌, ℕ, List, length}
use Rattle.std.specs.Str.{bytes_eq}
use Rattle.indexmap.specs.IndexMap.{get_by}
use Rattle.aig_names.specs.Names.{words}
use Rattle.aig_signals.specs.state.Called.{if_named, or_found}
use Rattle.aig_signals.proofs.NameLemmas.{any_is}
use Rattle.aig_signals.proofs.called.table.note_words.Given as goal

abbrev pub invariant-loop-first : goal.invariant-loop-first
invariant-loop-first l = (x : List ℕ) →
    or_found (if_named (any_is x (words l.rest)) l.literal) (get_by (λ key. bytes_eq x key.items) l.table)
    ≡ or_found (if_named (any_is x (words l.text)) l.literal) (get_by (λ key. bytes_eq x key.items) l.fn.table)

abbrev pub decreases-loop-first : goal.decreases-loop-first
decreases-loop-first l = length l.rest

use Rattle.std.proofs.Common.{◌≡◌, ℕ, List, drop}
use Rattle.std.specs.List.{flat_map}
use Rattle.std.specs.Str.{bytes_eq}
use Rattle.indexmap.specs.IndexMap.{get_by}
use Rattle.aig_signals.specs.Bits.{section_bits}
use Rattle.aig_signals.specs.state.Called.{with_words}
use Rattle.aig_signals.proofs.called.words.note_sections.Given as goal

abbrev pub invariant-loop-kind : goal.invariant-loop-kind
invariant-loop-kind l = (x : List ℕ) →
    with_words (flat_map (section_bits l.circuit x) (drop l.kind-index l.kinds)) (get_by (λ key. bytes_eq x key.items) l.table)
    ≡ with_words (flat_map (section_bits l.circuit x) l.kinds) (get_by (λ key. bytes_eq x key.items) l.fn.table)

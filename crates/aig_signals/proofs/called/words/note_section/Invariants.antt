use Rattle.std.proofs.Common.{◌≡◌, ◌-◌, ℕ, List, length}
use Rattle.std.specs.List.{flat_map, range_with_len}
use Rattle.std.specs.Str.{bytes_eq}
use Rattle.indexmap.specs.IndexMap.{get_by}
use Rattle.aig_signals.specs.Bits.{entry_bits, section_bits}
use Rattle.aig_signals.specs.Names.{literals_of}
use Rattle.aig_signals.specs.state.Called.{with_words}
use Rattle.aig_signals.proofs.called.words.note_section.Given as goal

abbrev pub invariant-loop-position : goal.invariant-loop-position
invariant-loop-position l = (x : List ℕ) →
    with_words (flat_map (entry_bits l.circuit x l.kind) (range_with_len l.position (length (literals_of l.circuit l.kind) - l.position)))
    (get_by (λ key. bytes_eq x key.items) l.table)
    ≡ with_words (section_bits l.circuit x l.kind) (get_by (λ key. bytes_eq x key.items) l.fn.table)

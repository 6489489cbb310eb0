use Rattle.std.proofs.Common.{◌≡◌, ℕ, List}
use Rattle.std.specs.Str.{bytes_eq}
use Rattle.indexmap.specs.IndexMap.{get_by}
use Rattle.aig_signals.specs.Lookup.{has_name}
use Rattle.aig_signals.specs.Names.{literal_of}
use Rattle.aig_signals.specs.state.Called.{or_found}
use Rattle.aig_signals.proofs.CalledLemmas.{literal_below}
use Rattle.aig_signals.proofs.called.table.note_section.Given as goal

abbrev pub invariant-loop-position : goal.invariant-loop-position
invariant-loop-position l = (x : List ℕ) → get_by (λ key. bytes_eq x key.items) l.table
    ≡ or_found (literal_below (has_name l.circuit x l.rule l.kind) (literal_of l.circuit l.kind) l.position)
    (get_by (λ key. bytes_eq x key.items) l.fn.table)

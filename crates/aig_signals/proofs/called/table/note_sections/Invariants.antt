use Rattle.std.proofs.Common.{◌≡◌, ℕ, List, drop}
use Rattle.std.specs.Str.{bytes_eq}
use Rattle.indexmap.specs.IndexMap.{get_by}
use Rattle.aig_signals.specs.state.Called.{or_found}
use Rattle.aig_signals.proofs.CalledLemmas.{literal_among}
use Rattle.aig_signals.proofs.called.table.note_sections.Given as goal

abbrev pub invariant-loop-kind : goal.invariant-loop-kind
invariant-loop-kind l = (x : List ℕ) →
    or_found (literal_among l.circuit x l.rule (drop l.kind-index l.kinds)) (get_by (λ key. bytes_eq x key.items) l.table)
    ≡ or_found (literal_among l.circuit x l.rule l.kinds) (get_by (λ key. bytes_eq x key.items) l.fn.table)

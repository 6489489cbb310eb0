use Rattle.std.proofs.Common.{◌≡◌, ℕ, List, drop}
use Rattle.std.specs.Str.{bytes_eq}
use Rattle.indexmap.specs.IndexMap.{get_by}
use Rattle.aig_signals.specs.state.Called.{or_found}
use Rattle.aig_signals.proofs.CalledLemmas.{literals_named}
use Rattle.aig_signals.proofs.called.table.note_signals.Given as goal

abbrev pub invariant-loop-signal : goal.invariant-loop-signal
invariant-loop-signal l = (x : List ℕ) →
    or_found (literals_named l.circuit x (drop l.signal-index l.signals)) (get_by (λ key. bytes_eq x key.items) l.table)
    ≡ or_found (literals_named l.circuit x l.signals) (get_by (λ key. bytes_eq x key.items) l.fn.table)

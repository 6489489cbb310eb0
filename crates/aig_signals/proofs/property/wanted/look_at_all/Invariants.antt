use Rattle.std.proofs.Common.{ℕ, List, IfSome}
use Rattle.std.specs.Str.{bytes_eq}
use Rattle.indexmap.specs.IndexMap.{get_by}
use Rattle.aig_base.specs.Selected.{kind_of}
use Rattle.aig_signals.proofs.PropertyLookups.{Looking}
use Rattle.aig_signals.proofs.property.wanted.look_at_all.Given as goal

abbrev pub invariant-loop-entry : goal.invariant-loop-entry
invariant-loop-entry l = (x : List ℕ) → IfSome (get_by (λ key. bytes_eq x key.items) l.table)
    (λ now. Looking (kind_of l.fn.section) x l.circuit.symbols now l.entry-iterator)

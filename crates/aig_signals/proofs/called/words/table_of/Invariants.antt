use Rattle.std.proofs.Common.{◌≡◌, ℕ, List, [], IfSome}
use Rattle.std.specs.Str.{bytes_eq}
use Rattle.indexmap.specs.IndexMap.{get_by}
use Rattle.aig_signals.proofs.called.words.table_of.Given as goal

abbrev pub invariant-loop-wanted : goal.invariant-loop-wanted
invariant-loop-wanted l = (x : List ℕ) → IfSome (get_by (λ key. bytes_eq x key.items) l.table) (λ bits. bits ≡ [])

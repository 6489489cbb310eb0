use Rattle.std.specs.Str.{bytes_eq}
use Rattle.indexmap.specs.IndexMap.{get_by}
use Rattle.aig_parts.specs.declared.raw.Raw.{Raw}
use Rattle.aig_signals.specs.state.Called.{AreByWords, AreWords}
use Rattle.aig_signals.proofs.called.words.keep_all.Given as goal

abbrev pub invariant-loop-wanted : goal.invariant-loop-wanted
invariant-loop-wanted l = (raw : Raw) → AreWords raw (λ x. get_by (λ key. bytes_eq x key.items) l.words)
    → AreByWords raw (λ x. get_by (λ key. bytes_eq x key.items) l.fn.found)
    → AreByWords raw (λ x. get_by (λ key. bytes_eq x key.items) l.found)

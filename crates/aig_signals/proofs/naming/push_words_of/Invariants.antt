use Rattle.std.proofs.Common.{◌∷◌}
use Rattle.aig_signals.specs.Naming.{signal_word}
use Rattle.aig_signals.proofs.NamingLemmas.{WordsSoFar}
use Rattle.aig_signals.proofs.naming.push_words_of.Given as goal

abbrev pub invariant-loop-place : goal.invariant-loop-place
invariant-loop-place l = WordsSoFar (λ s. 32 ∷ signal_word l.values s) l.signals l.values l.named l.fn.text.items l.place l.text.items

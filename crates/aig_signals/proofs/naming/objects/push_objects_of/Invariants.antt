use Rattle.std.proofs.Common.{◌∷◌}
use Rattle.aig_signals.specs.Json.{signal_object}
use Rattle.aig_signals.proofs.NamingLemmas.{WordsSoFar}
use Rattle.aig_signals.proofs.naming.objects.push_objects_of.Given as goal

abbrev pub invariant-loop-place : goal.invariant-loop-place
invariant-loop-place l =
    WordsSoFar (λ s. 44 ∷ signal_object l.values s) l.signals l.values l.named l.fn.text.items l.place l.text.items

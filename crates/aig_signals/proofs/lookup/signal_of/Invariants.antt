use Rattle.std.proofs.Common.{◌≡◌, drop}
use Rattle.aig_signals.specs.Lookup.{named_in}
use Rattle.aig_signals.proofs.lookup.signal_of.Given as goal

abbrev pub invariant-loop-signal : goal.invariant-loop-signal
invariant-loop-signal l = named_in (drop l.signal-index l.signals) l.name ≡ named_in l.signals l.name

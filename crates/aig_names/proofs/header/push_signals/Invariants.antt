use Rattle.std.proofs.Common.{◌≡◌, ◌++◌, [], map, drop}
use Rattle.aig_names.specs.Header.{name_lines}
use Rattle.aig_names.specs.Paths.{scopes_of}
use Rattle.aig_names.specs.state.Naming.{named}
use Rattle.aig_names.proofs.header.push_signals.Given as goal

abbrev pub invariant-loop-signal : goal.invariant-loop-signal
invariant-loop-signal l =
    l.text.items ++ name_lines l.shape (scopes_of l.before.items) (map named (drop l.signal-index l.signals))
    ≡ l.fn.text.items ++ name_lines l.shape [] (map named l.signals)

use Rattle.std.proofs.Common.{◌≡◌, ◌++◌, drop, map}
use Rattle.std.specs.Prelude.{reverse}
use Rattle.aig_names.specs.Vectors.{turned, turned_after}
use Rattle.aig_names.specs.state.Naming.{named, next_of}
use Rattle.aig_names.proofs.vectors.push_turned.Given as goal

abbrev pub invariant-loop-signal : goal.invariant-loop-signal
invariant-loop-signal l = record {
  so_far : map named l.signals.items ++ turned_after (map named (reverse l.run.items)) (map named (drop l.signal-index l.column))
      ≡ map named l.fn.signals.items ++ turned (map named l.column);
  next : next_of (map named (reverse l.run.items)) l.next.items;
}

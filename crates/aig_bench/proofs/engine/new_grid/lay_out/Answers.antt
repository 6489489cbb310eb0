use Rattle.std.proofs.Common.{arith}
use Rattle.aig_base.specs.Grounded as grounded
use Rattle.aig_base.proofs.circuits.Circuits.{source-gate}
use Rattle.aig_bench.proofs.engine.new_grid.lay_out.Goals as goal

pub new-requires-clause-constant : goal.new-requires-clause-constant
new-requires-clause-constant g c =
    rw c.as_slice.ensures.value (c.in_ok-flags.ensures.others 0 (omega arith)
    (source-gate c.args.driven.now.circuit c.requires.circuit.sound 0 grounded.IsSource.constant))

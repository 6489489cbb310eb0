use Rattle.std.proofs.Common.{drop}
use Rattle.std.specs.Fmt.{decimal}
use Rattle.aig_parts.specs.declared.symbols.Kind.TheVariants as kinds
use Rattle.aig_unroll.proofs.InputMapLines.{Partly}
use Rattle.aig_commands.specs.Names.{entry_lines}
use Rattle.aig_commands.proofs.entries.write_latches.Given as goal

abbrev pub invariant-loop-position : goal.invariant-loop-position
invariant-loop-position g l =
    Partly g.W.Write.written g.W.Write.failures l.initial.out l.out
    (entry_lines l.form (λ x. decimal x.lit) l.circuit.symbols kinds.Latch 0 l.latches)
    (entry_lines l.form (λ x. decimal x.lit) l.circuit.symbols kinds.Latch l.position (drop l.position l.latches))

use Rattle.std.proofs.Common.{drop}
use Rattle.aig_parts.specs.declared.symbols.Kind.TheVariants as kinds
use Rattle.aig_unroll.proofs.InputMapLines.{Partly}
use Rattle.aig_commands.specs.Names.{entry_lines, no_literal}
use Rattle.aig_commands.proofs.entries.write_justice.Given as goal

abbrev pub invariant-loop-position : goal.invariant-loop-position
invariant-loop-position g l =
    Partly g.W.Write.written g.W.Write.failures l.initial.out l.out
    (entry_lines l.form (λ literals. no_literal l.form) l.circuit.symbols kinds.Justice 0 l.properties)
    (entry_lines l.form (λ literals. no_literal l.form) l.circuit.symbols kinds.Justice l.position (drop l.position l.properties))

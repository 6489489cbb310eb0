use Rattle.aig_format.specs.Spelling.{symbol_line}
use Rattle.aig_format.proofs.SymbolLoop.{Front}
use Rattle.aig_format.proofs.writer.section.put_symbols.Given as goal

abbrev pub invariant-loop-key : goal.invariant-loop-key
invariant-loop-key g l =
    Front g.W.Write.written g.W.Write.failures symbol_line l.initial.out l.out l.initial.block l.block l.symbols l.key-iterator

use Rattle.aig_parts.proofs.SymbolLemmas.{listed_none}
use Rattle.aig_parts.proofs.symbols.list.SymbolList.new.Goals as goal

pub invariant_of-result : goal.invariant_of-result
invariant_of-result c = rw (c.new.ensures, c.new-2.ensures.items, c.new-3.ensures.items) (listed_none _)

use Rattle.std.proofs.Common.{sym}
use Rattle.aig_names.proofs.SymbolLemmas.{symbol_found, symbol_missing}
use Rattle.aig_names.proofs.names.symbol_at.Goals as goal

pub returns-in-Some : goal.returns-in-Some
returns-in-Some c =
    sym (symbol_found c.args.symbols.now c.args.kind c.args.position c.in-Some.symbol.now c.in-Some.ensures.some c.requires.once)

pub returns-in-None : goal.returns-in-None
returns-in-None c = sym (symbol_missing c.args.symbols.now c.args.kind c.args.position c.in-None.ensures.none)

use Rattle.aig_parts.proofs.SymbolLemmas.{key_found}
use Rattle.aig_parts.proofs.symbols.Symbols.contains.Goals as goal

pub returns : goal.returns
returns c =
    rw (c.is_some.ensures, ← c.self.view_is)
    (key_found c.find.result c.self.inside.text.items c.self.inside.places.entries (c.args.kind, c.args.position)
    c.find.ensures.some c.find.ensures.none)

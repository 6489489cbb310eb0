use Rattle.aig_parts.proofs.SymbolLemmas.{keys_in}
use Rattle.aig_parts.proofs.symbols.list.SymbolList.contains.Goals as goal

pub returns : goal.returns
returns c =
    let marks = c.self.invariant.marks (c.args.kind, c.args.position) in
    rw (← c.self.view_is, keys_in c.self.inside.text.items c.self.inside.entries.items)
    (λ h. marks.0 (c.contains.ensures.0 h), λ h. c.contains.ensures.1 (marks.1 h))

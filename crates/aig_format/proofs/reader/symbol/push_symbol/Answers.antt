use Rattle.std.proofs.Common.{arith}
use Rattle.aig_format.proofs.BufferedSymbols.{one_symbol}
use Rattle.aig_format.proofs.reader.symbol.push_symbol.Goals as goal

pub returns-clause-added : goal.returns-clause-added
returns-clause-added c =
    let found = c.in-Some.ensures in
    let inserted = c.in_ok-insert.ensures in
    one_symbol c.args.counts.now c.args.all.now c.insert.new.self ((c.in-Some.kind, c.in-Some.position), c.in-Some.name.now)
    c.in-Some.size c.args.bytes.now found.line found.within found.position (omega (arith, c.of.ensures, c.if-position-of.false))
    found.name (λ h. let e = inserted.when.1 h in absurd cc) (inserted.fresh c.if-not-branch.false)

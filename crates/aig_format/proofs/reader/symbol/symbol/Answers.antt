use Rattle.std.proofs.lemmas.Result.{on_ok_weaker}
use Rattle.aig_format.proofs.Sizes.{symbols_more}
use Rattle.aig_format.proofs.reader.symbol.symbol.Goals as goal

pub returns-clause-symbols : goal.returns-clause-symbols
returns-clause-symbols g c = λ so_far.
    on_ok_weaker c.entry.result (λ h.
    symbols_more c.args.counts.now c.args.all.now c.entry.new.all c.args.kind c.in_ok-position.position h.0
    so_far c.in_ok-position.ensures.there h.1 c.in_ok-position.ensures.fresh h.2) c.entry.ensures.name

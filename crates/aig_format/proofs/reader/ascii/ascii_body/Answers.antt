use Rattle.std.proofs.Common.{refl}
use Rattle.aig_format.proofs.Sizes.{parts_formed}
use Rattle.aig_format.proofs.reader.ascii.ascii_body.Goals as goal

pub returns-clause-formed : goal.returns-clause-formed
returns-clause-formed g c =
    parts_formed c.args.counts.now _ c.requires.within refl c.in_ok-inputs.ensures.count c.in_ok-latches.ensures.count
    c.in_ok-properties.ensures.counts c.in_ok-gates.ensures.count c.in_ok-names.ensures.symbols

use Rattle.aig_format.proofs.Formats.{format_read}
use Rattle.aig_format.proofs.reader.file.Goals as goal

pub returns-clause-format : goal.returns-clause-format
returns-clause-format g c = λ reported.
    format_read (g.S.Source.left c.args.s.now) c.in_ok-format.format c.in_ok-format.counts _
    (c.in_ok-format.ensures.reads.bytes reported)

use Rattle.std.proofs.Common.{rules}
use Rattle.aig_format.specs.state.Held.{known}
use Rattle.aig_format.proofs.Holding.{held_skip}
use Rattle.aig_format.proofs.reader.stream.StreamSource.skip.Goals as goal

pub returns-clause-left : goal.returns-clause-left
returns-clause-left g c =
    let s = c.args.self.now in
    held_skip s.buffer (known (g.R.Read.left s.reader.now)) s.start s.end c.args.count (search rules) (search rules) c.requires

use Rattle.aig_shell.proofs.lines.Answering.{wave_is}
use Rattle.aig_shell.proofs.session.Session.export.Goals as goal

pub returns-in-Wave : goal.returns-in-Wave
returns-in-Wave g c =
    wave_is c.args.self.now c.args.self.now c.args.export c.in-Wave.file c.wave.result c.args.text.now.items
    (g.K.Keep.calls c.args.files.now) (g.K.Keep.calls c.wave.new.files) c.in-Wave.is c.requires.empty
    c.wave.ensures.files

use Rattle.std.proofs.Common.{◌+◌, subst, sym}
use Rattle.aig_base.specs.state.Worklists.{FitsOneVariable, IsIdle}
use Rattle.aig_base.proofs.change.append.append_level.Goals as goal

pub add_variable-requires-clause-idle : goal.add_variable-requires-clause-idle
add_variable-requires-clause-idle c =
    subst (λ n. IsIdle n c.args.worklist.now) (sym c.requires.idle.visits.marks) c.requires.idle

pub add_variable-requires-clause-fits : goal.add_variable-requires-clause-fits
add_variable-requires-clause-fits c =
    subst (λ n. FitsOneVariable n c.args.worklist.now) (sym c.requires.idle.visits.marks) c.requires.fits

pub returns-clause-idle : goal.returns-clause-idle
returns-clause-idle c =
    subst (λ n. IsIdle (n + 1) c.add_variable.new.self) c.requires.idle.visits.marks c.add_variable.ensures

use Rattle.std.proofs.Common.{OnOk, subst, sym}
use Rattle.aig_base.specs.state.Worklists.{FitsOneVariable, IsIdle}
use Rattle.aig_base.proofs.change.append.make_room_for_level.Goals as goal

pub make_room-requires : goal.make_room-requires
make_room-requires c = subst (λ n. IsIdle n c.args.worklist.now) (sym c.requires.visits.marks) c.requires

pub returns-clause-idle : goal.returns-clause-idle
returns-clause-idle c = subst (λ n. IsIdle n c.make_room.new.self) c.requires.visits.marks c.make_room.ensures.idle

pub returns-clause-fits : goal.returns-clause-fits
returns-clause-fits c =
    subst (λ n. OnOk c.make_room.result (FitsOneVariable n c.make_room.new.self)) c.requires.visits.marks
    c.make_room.ensures.fits

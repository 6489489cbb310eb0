use Rattle.std.proofs.Common.{refl}
use Rattle.aig_bench.proofs.growing.Lengthened.{readers_roomy}
use Rattle.aig_bench.proofs.propagate.latch_readers.LatchReaders.make_room.Goals as goal

pub returns-in_err-reserve-clause-readers : goal.returns-in_err-reserve-clause-readers
returns-in_err-reserve-clause-readers c raw are = readers_roomy raw c.args.self.now _ are c.reserve.ensures.items refl refl

pub returns-clause-readers : goal.returns-clause-readers
returns-clause-readers c raw are = readers_roomy raw c.args.self.now _ are c.reserve.ensures.items refl refl

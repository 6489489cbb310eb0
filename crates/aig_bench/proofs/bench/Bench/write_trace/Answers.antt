use Rattle.aig_bench.proofs.renewals.Engines.{held}
use Rattle.aig_bench.proofs.bench.Bench.write_trace.Goals as goal

pub write_frames-requires : goal.write_frames-requires
write_frames-requires g c =
    let k = held c.engine.invariant c.engine.view_is c.self.invariant in
    k.working.bench

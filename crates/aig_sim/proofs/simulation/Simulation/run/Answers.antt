use Rattle.std.proofs.Common.{◌≡◌, ◌<◌, ℕ, length, take, refl, subst, arith}
use Rattle.aig_bytes.specs.Bytes.{before}
use Rattle.aig_sim.specs.declared.stimulus.fault.StimFault.TheVariants.{Io}
use Rattle.aig_sim.specs.state.Running.{Streamed}
use Rattle.aig_sim.proofs.LineLemmas.{forwarded}
use Rattle.aig_sim.proofs.SimulationLemmas.{running_none, read_nothing, read_more, so_far_flushed}
use Rattle.aig_sim.proofs.SimulationLemmas.{simulates_flush_failed, simulates_read_failed, simulates_stopped}
use Rattle.aig_sim.proofs.SimulationLemmas.{simulates_end, stopped_for_no_memory}
use Rattle.aig_sim.proofs.simulation.Simulation.run.Goals as goal

pub loop-reader-init : goal.loop-reader-init
loop-reader-init g c =
    let s = c.args.self.now in
    record {
      size = refl;
      room = c.requires.room;
      so_far = read_nothing s.machine.circuit (g.R.Read.left c.args.reader.now) (g.R.Read.failures c.args.reader.now)
          (g.W.Write.written c.args.out.now) (g.W.Write.failures c.args.out.now) s
          (running_none (g.W.Write.written c.args.out.now) (g.W.Write.failures c.args.out.now) s c.requires.starts);
    }

pub loop-reader-preserved : goal.loop-reader-preserved
loop-reader-preserved g c =
    let h = c.in_ok-size.ensures in
    let e = c.in_ok-feed.ensures in
    record {
      size = omega arith;
      room = e.room;
      so_far = read_more (so_far_flushed c.loop-reader.invariant.so_far (g.W.Write.written c.flush.new.self)
          (g.W.Write.failures c.flush.new.self) c.in_ok-flush.ensures.kept c.in_ok-flush.ensures.count) (take c.in_ok-size.size c.read.new.buffer) c.feed.new.self
          (g.W.Write.written c.feed.new.out) (g.W.Write.failures c.feed.new.out)
          h.given h.count e.ok;
    }

pub returns-then-size-eq0-clause-streams : goal.returns-then-size-eq0-clause-streams
returns-then-size-eq0-clause-streams g c =
    let h = c.in_ok-size.ensures in
    let e = c.finish.ensures in
    let some : 0 < length c.read.new.buffer = omega arith in
    let zero : c.in_ok-size.size ≡ 0 = c.if-size-eq0.true in
    simulates_end (so_far_flushed c.loop-reader.invariant.so_far (g.W.Write.written c.flush.new.self)
    (g.W.Write.failures c.flush.new.self) c.in_ok-flush.ensures.kept c.in_ok-flush.ensures.count) c.finish.result c.loop-reader.invariant.room.0
    (subst (λ (n : ℕ). g.R.Read.left c.loop-reader.reader
    ≡ before (take n c.read.new.buffer) (g.R.Read.left c.read.new.self)) zero h.given)
    h.count (h.end zero some) e.frames e.ended e.fault e.unfinished

pub returns-in_err-feed-clause-streams : goal.returns-in_err-feed-clause-streams
returns-in_err-feed-clause-streams g c =
    let h = c.in_ok-size.ensures in
    let e = c.in_err-feed.ensures in
    let f = c.in_err-feed.field-0.0 in
    forwarded (λ r. Streamed g.T.Recorder.is_text c.args.self.now.machine.circuit
    (record {
      left = g.R.Read.left c.args.reader.now;
      reads = g.R.Read.failures c.args.reader.now;
      writes =
          g.W.Write.failures c.args.out.now;
    })
    (record {
      left = g.R.Read.left c.read.new.self;
      reads = g.R.Read.failures c.read.new.self;
      writes =
          g.W.Write.failures c.feed.new.out;
    })
    (g.W.Write.written c.args.out.now) (g.W.Write.written c.feed.new.out) r)
    c.from_residual-in_err-feed.result f c.from_residual-in_err-feed.ensures.1
    (simulates_stopped (so_far_flushed c.loop-reader.invariant.so_far (g.W.Write.written c.flush.new.self)
    (g.W.Write.failures c.flush.new.self) c.in_ok-flush.ensures.kept c.in_ok-flush.ensures.count) (take c.in_ok-size.size c.read.new.buffer)
    (g.W.Write.written c.feed.new.out) (g.W.Write.failures c.feed.new.out) f
    h.given h.count e.err)

pub returns-in_err-feed-clause-memory : goal.returns-in_err-feed-clause-memory
returns-in_err-feed-clause-memory g c =
    let so_far = so_far_flushed c.loop-reader.invariant.so_far (g.W.Write.written c.flush.new.self)
    (g.W.Write.failures c.flush.new.self) c.in_ok-flush.ensures.kept c.in_ok-flush.ensures.count in
    let f = c.in_err-feed.field-0.0 in
    stopped_for_no_memory c.from_residual-in_err-feed.result f c.from_residual-in_err-feed.ensures.1
    (c.in_err-feed.ensures.err c.args.self.now.machine.circuit (g.W.Write.written c.args.out.now)
    (g.W.Write.failures c.args.out.now) so_far.text so_far.running)

pub returns-in_err-flush-clause-streams : goal.returns-in_err-flush-clause-streams
returns-in_err-flush-clause-streams g c =
    let e = c.in_err-flush.ensures in
    forwarded (λ r. Streamed g.T.Recorder.is_text c.args.self.now.machine.circuit
    (record {
      left = g.R.Read.left c.args.reader.now;
      reads = g.R.Read.failures c.args.reader.now;
      writes = g.W.Write.failures c.args.out.now;
    })
    (record {
      left = g.R.Read.left c.loop-reader.reader;
      reads = g.R.Read.failures c.loop-reader.reader;
      writes = g.W.Write.failures c.flush.new.self;
    })
    (g.W.Write.written c.args.out.now) (g.W.Write.written c.flush.new.self) r)
    c.from_residual.result Io c.from_residual.ensures.1
    (simulates_flush_failed c.loop-reader.invariant.so_far (g.W.Write.written c.flush.new.self)
    (g.W.Write.failures c.flush.new.self) e.kept e.count)

pub returns-in_err-size-clause-streams : goal.returns-in_err-size-clause-streams
returns-in_err-size-clause-streams g c =
    let e = c.in_err-size.ensures in
    forwarded (λ r. Streamed g.T.Recorder.is_text c.args.self.now.machine.circuit
    (record {
      left = g.R.Read.left c.args.reader.now;
      reads = g.R.Read.failures c.args.reader.now;
      writes = g.W.Write.failures c.args.out.now;
    })
    (record {
      left = g.R.Read.left c.read.new.self;
      reads = g.R.Read.failures c.read.new.self;
      writes = g.W.Write.failures c.flush.new.self;
    })
    (g.W.Write.written c.args.out.now) (g.W.Write.written c.flush.new.self) r)
    c.from_residual-in_err-size.result Io c.from_residual-in_err-size.ensures.1
    (simulates_read_failed (so_far_flushed c.loop-reader.invariant.so_far (g.W.Write.written c.flush.new.self)
    (g.W.Write.failures c.flush.new.self) c.in_ok-flush.ensures.kept c.in_ok-flush.ensures.count) e.given e.count)

use Rattle.std.proofs.Common.{sym, arith}
use Rattle.std.specs.Prelude.{option_copied}
use Rattle.aig_bytes.proofs.WriteLemmas.{writes_none, writes_same, writes_stop, writes_then}
use Rattle.aig_unroll.proofs.InputMapLines.{lines_none}
use Rattle.aig_unroll.proofs.KeptLines.{frames_more, frames_number, frames_rest}
use Rattle.aig_unroll.proofs.input_map.MapWriter.write_frames.Goals as goal

pub loop-frame-init : goal.loop-frame-init
loop-frame-init g c =
    let map = c.args.self.now in
    record {
      written = writes_same writes_none (sym (lines_none map.prefix.now map.circuit.now c.args.first));
      number = omega arith;
      few = omega arith;
    }

pub returns-in_err-position-clause-written : goal.returns-in_err-position-clause-written
returns-in_err-position-clause-written g c =
    let map = c.args.self.now in
    let (rest, is) = frames_rest (option_copied map.marks) map.prefix.now map.circuit.now c.args.first c.loop-frame.position
    c.args.frames c.loop-frame.frame c.loop-frame-test.true c.loop-frame.invariant.number in
    writes_same (writes_then c.loop-frame.invariant.written
    (writes_stop rest c.in_err-position.ensures.written c.from_residual.ensures.0)) is

pub loop-frame-preserved : goal.loop-frame-preserved
loop-frame-preserved g c =
    let map = c.args.self.now in
    let w = writes_same (writes_then c.loop-frame.invariant.written c.in_ok-position.ensures.written)
    (frames_more (option_copied map.marks) map.prefix.now map.circuit.now c.args.first c.loop-frame.position c.loop-frame.frame
    c.loop-frame.invariant.number) in
    record {
      written = record { ok = w.ok; err = tt; count = w.count };
      number = frames_number (option_copied map.marks) map.prefix.now map.circuit.now c.args.first c.loop-frame.position
          c.in_ok-position.position c.loop-frame.frame c.loop-frame.invariant.number c.in_ok-position.ensures.next;
      few = omega (arith, c.loop-frame.invariant.few, c.in_ok-position.ensures.few);
    }

use Rattle.std.proofs.Common.{refl, ◌++◌}
use Rattle.std.specs.Prelude.{codes}
use Rattle.aig_bench.specs.Edit.{rewire, set_reset, set_bit, drop_frame, append_gate, set_output}
use Rattle.aig_script.specs.Replies.{edit_reply, value_reply, unroll_reply}
use Rattle.aig_script.proofs.RunLemmas.{edit_reply_of, excused}
use Rattle.aig_script.proofs.reply.obey.Goals as goal

pub returns-in-Rewire : goal.returns-in-Rewire
returns-in-Rewire g c = (
  edit_reply c.rewire.result,
  rw c.in-Rewire.is (edit_reply_of c.args.bench.now.pair (rewire c.in-Rewire.gate c.in-Rewire.right0 c.in-Rewire.right1)
      c.rewire.result c.rewire.new.self.pair (c.rewire.ensures.edits, c.rewire.ensures.memory)),
  c.write_edit.ensures,
)

pub returns-in-SetReset : goal.returns-in-SetReset
returns-in-SetReset g c = (
  edit_reply c.set_reset.result,
  rw c.in-SetReset.is (edit_reply_of c.args.bench.now.pair (set_reset c.in-SetReset.latch c.in-SetReset.value)
      c.set_reset.result c.set_reset.new.self.pair (c.set_reset.ensures.edits, excused c.set_reset.result)),
  c.write_edit-in-SetReset.ensures,
)

pub returns-in-SetBit : goal.returns-in-SetBit
returns-in-SetBit g c = (
  edit_reply c.set_bit.result,
  rw c.in-SetBit.is (edit_reply_of c.args.bench.now.pair (set_bit c.in-SetBit.frame c.in-SetBit.position c.in-SetBit.value)
      c.set_bit.result c.set_bit.new.self.pair (c.set_bit.ensures.edits, excused c.set_bit.result)),
  c.write_edit-in-SetBit.ensures,
)

pub returns-in-DropFrame : goal.returns-in-DropFrame
returns-in-DropFrame g c = (
  edit_reply c.drop_frame.result,
  rw c.in-DropFrame.is (edit_reply_of c.args.bench.now.pair drop_frame c.drop_frame.result c.drop_frame.new.self.pair
      (c.drop_frame.ensures.edits, excused c.drop_frame.result)),
  c.write_edit-in-DropFrame.ensures,
)

pub returns-in-AppendGate : goal.returns-in-AppendGate
returns-in-AppendGate g c = (
  edit_reply c.append_gate.result,
  rw c.in-AppendGate.is (edit_reply_of c.args.bench.now.pair (append_gate c.in-AppendGate.right0 c.in-AppendGate.right1)
      c.append_gate.result c.append_gate.new.self.pair (c.append_gate.ensures.edits, excused c.append_gate.result)),
  c.write_edit-in-AppendGate.ensures,
)

pub returns-in-SetOutput : goal.returns-in-SetOutput
returns-in-SetOutput g c = (
  edit_reply c.set_output.result,
  rw c.in-SetOutput.is (edit_reply_of c.args.bench.now.pair (set_output c.in-SetOutput.position c.in-SetOutput.literal)
      c.set_output.result c.set_output.new.self.pair (c.set_output.ensures.edits, excused c.set_output.result)),
  c.write_edit-in-SetOutput.ensures,
)

pub returns-in-Trace : goal.returns-in-Trace
returns-in-Trace g c =
    let h = c.write_frames.ensures in
    (h.0 ++ codes ".\n", rw c.in-Trace.is (h.0, h.1, refl, refl), h.2)

pub returns-in-Unroll : goal.returns-in-Unroll
returns-in-Unroll g c =
    let h = c.write_unrolled.ensures in
    (unroll_reply h.0, rw c.in-Unroll.is (h.0, h.1, refl, refl), h.2)

pub returns-in-Value : goal.returns-in-Value
returns-in-Value g c =
    let h = c.write_value.ensures in
    (value_reply h.0, rw c.in-Value.is (h.0, h.1, refl, refl), h.2)

use Rattle.aig_script.proofs.RunLemmas.{excused}
use Rattle.aig_c.proofs.live.change.apply.Goals as goal

pub returns-in-Set : goal.returns-in-Set
returns-in-Set c =
    rw c.in-Set.is (record { does = ((c.set_bit.ensures.edits, excused c.set_bit.result), c.set_bit.ensures.works) })

pub returns-in-Rewire : goal.returns-in-Rewire
returns-in-Rewire c =
    rw c.in-Rewire.is (record { does = ((c.rewire.ensures.edits, c.rewire.ensures.memory), c.rewire.ensures.works) })

pub returns-in-Reset : goal.returns-in-Reset
returns-in-Reset c =
    rw c.in-Reset.is (record { does = ((c.set_reset.ensures.edits, excused c.set_reset.result), c.set_reset.ensures.works) })

pub returns-in-Append : goal.returns-in-Append
returns-in-Append c = rw c.in-Append.is (record {
  does = ((c.append_gate.ensures.edits, excused c.append_gate.result), c.append_gate.ensures.works);
})

pub returns-in-Output : goal.returns-in-Output
returns-in-Output c =
    rw c.in-Output.is (record { does = ((c.set_output.ensures.edits, excused c.set_output.result), c.set_output.ensures.works) })

pub returns-in-DropFrame : goal.returns-in-DropFrame
returns-in-DropFrame c = rw c.in-DropFrame.is (record {
  does = ((c.drop_frame.ensures.edits, excused c.drop_frame.result), c.drop_frame.ensures.works);
})

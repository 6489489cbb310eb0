-- What a fault of a row is in a reply.
use Rattle.std.specs.Prelude.{ℕ, List, codes}
use Rattle.aig_sim.specs.declared.stimulus.fault.StimFault.{StimFault}
use Rattle.aig_sim.specs.declared.stimulus.fault.StimFault.TheVariants as stimuli
use Rattle.aig_bench.specs.declared.edit.EditFault.TheVariants as faults
use Rattle.aig_script.specs.Replies.{refusal}

-- the reply to a line that appends a frame, by what is wrong with its row
abbrev pub row_fault_reply : StimFault → List ℕ
row_fault_reply (stimuli.Length n) = refusal faults.Length
row_fault_reply (stimuli.Char n) = codes "bad\n"
row_fault_reply stimuli.Unfinished = codes "bad\n"
row_fault_reply stimuli.Limit = codes "bad\n"
row_fault_reply stimuli.Memory = codes "bad\n"
row_fault_reply stimuli.Io = codes "bad\n"

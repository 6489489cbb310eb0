-- What the program's commands mean.
use Rattle.aig_bench.specs.Edit as edits
use Rattle.aig_script.specs.declared.command.ScriptCommand as code
use Rattle.aig_script.specs.declared.command.ScriptCommand.TheVariants.{Rewire, SetReset, SetBit, DropFrame, AppendGate}
use Rattle.aig_script.specs.declared.command.ScriptCommand.TheVariants.{SetOutput, Value, Trace, Unroll}
use Rattle.aig_script.specs.Command.{Command, edit, value, trace, unroll}

abbrev pub meaning : code.ScriptCommand → Command
meaning (Rewire g a b) = edit (edits.rewire g a b)
meaning (SetReset l w) = edit (edits.set_reset l w)
meaning (SetBit t p w) = edit (edits.set_bit t p w)
meaning DropFrame = edit edits.drop_frame
meaning (AppendGate a b) = edit (edits.append_gate a b)
meaning (SetOutput p l) = edit (edits.set_output p l)
meaning (Value t l) = value t l
meaning Trace = trace
meaning Unroll = unroll

use Rattle.aig_bytes.specs.Flow.{flow}
use Rattle.aig_commands.specs.Toaig.{Converts}
use Rattle.aig_commands.proofs.GoodRuns.{reader_goes_well}
use Rattle.aig_commands.proofs.toaig.convert_from.Goals as goal
use Rattle.aig_command.proofs.Files.{ends_of_reader, reader_refused}
use Rattle.aig_command.specs.declared.run_fault.RunFault.TheVariants as run_faults

pub returns-in-Ok-clause-ends : goal.returns-in-Ok-clause-ends
returns-in-Ok-clause-ends g c =
    let h = c.in-Ok.ensures in
    ends_of_reader (flow g.R.Read.left g.R.Read.failures c.args.reader.now c.read_from.new.reader)
    (flow g.W.Write.written g.W.Write.failures c.args.out.now c.write_converted.new.out) run_faults.Output (Converts c.args.to) c.in-Ok.circuit (λ fault bytes h. h)
    h.answers h.circuit h.io c.write_converted.result c.write_converted.ensures.ends

pub returns-in-Err-clause-ends : goal.returns-in-Err-clause-ends
returns-in-Err-clause-ends g c =
    let h = c.in-Err.ensures in
    reader_refused (flow g.R.Read.left g.R.Read.failures c.args.reader.now c.read_from.new.reader)
    g.W.Write.written g.W.Write.failures c.args.out.now run_faults.Output (Converts c.args.to) c.in-Err.fault h.answers h.io

pub returns-in-Ok-clause-output : goal.returns-in-Ok-clause-output
returns-in-Ok-clause-output g c = λ is.
    let h = c.in-Ok.ensures in
    reader_goes_well (Converts c.args.to) c.in-Ok.circuit
    (flow g.R.Read.left g.R.Read.failures c.args.reader.now c.read_from.new.reader) (λ fault bytes h. h) h.answers h.circuit h.io
    (c.write_converted.ensures.once.output is)

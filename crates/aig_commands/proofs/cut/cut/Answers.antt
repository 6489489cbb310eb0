use Rattle.aig_bytes.specs.Flow.{flow}
use Rattle.aig_commands.specs.Cut.{WritesCut}
use Rattle.aig_commands.proofs.cut.cut.Goals as goal
use Rattle.aig_command.proofs.Files.{ends_of_reader, reader_refused}
use Rattle.aig_command.specs.declared.run_fault.RunFault.TheVariants as run_faults

pub returns-in-Ok : goal.returns-in-Ok
returns-in-Ok g c =
    record {
      ends =
          let h = c.in-Ok.ensures in
          ends_of_reader (flow g.R.Read.left g.R.Read.failures c.args.circuit.now c.read_from.new.reader)
          (flow g.W.Write.written g.W.Write.failures c.args.out.now c.write_cut.new.out) run_faults.Output
          (WritesCut c.args.cuts.now c.args.to) c.in-Ok.circuit (λ fault bytes h. h.2)
          h.answers h.circuit h.io c.write_cut.result c.write_cut.ensures;
    }

pub returns-in-Err : goal.returns-in-Err
returns-in-Err g c =
    record {
      ends =
          let h = c.in-Err.ensures in
          reader_refused (flow g.R.Read.left g.R.Read.failures c.args.circuit.now c.read_from.new.reader)
          g.W.Write.written g.W.Write.failures c.args.out.now run_faults.Output
          (WritesCut c.args.cuts.now c.args.to) c.in-Err.fault h.answers h.io;
    }

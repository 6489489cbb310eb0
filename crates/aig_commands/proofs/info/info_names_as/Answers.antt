use Rattle.aig_bytes.specs.Flow.{flow}
use Rattle.aig_commands.specs.Names.{ListsNamesAs}
use Rattle.aig_commands.proofs.info.info_names_as.Goals as goal
use Rattle.aig_command.proofs.Files.{ends_of_reader, reader_refused}
use Rattle.aig_command.specs.declared.run_fault.RunFault.TheVariants as run_faults

pub returns-in-Ok : goal.returns-in-Ok
returns-in-Ok g c =
    record {
      ends =
          let h = c.in-Ok.ensures in
          ends_of_reader (flow g.R.Read.left g.R.Read.failures c.args.circuit.now c.read_from.new.reader)
          (flow g.W.Write.written g.W.Write.failures c.args.out.now c.list_names.new.out) run_faults.Output (ListsNamesAs c.args.form) c.in-Ok.circuit (λ fault bytes h. h)
          h.answers h.circuit h.io c.list_names.result c.list_names.ensures;
    }

pub returns-in-Err : goal.returns-in-Err
returns-in-Err g c =
    record {
      ends =
          let h = c.in-Err.ensures in
          reader_refused (flow g.R.Read.left g.R.Read.failures c.args.circuit.now c.read_from.new.reader)
          g.W.Write.written g.W.Write.failures c.args.out.now run_faults.Output (ListsNamesAs c.args.form) c.in-Err.fault h.answers h.io;
    }

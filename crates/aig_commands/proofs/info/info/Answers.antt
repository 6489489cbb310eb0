use Rattle.aig_bytes.specs.Flow.{flow}
use Rattle.aig_commands.specs.Info.{ListsFacts}
use Rattle.aig_commands.proofs.InfoLemmas.{by_known, no_read}
use Rattle.aig_commands.proofs.info.info.Goals as goal
use Rattle.aig_command.proofs.Files.{ends_of_reader, reader_refused}
use Rattle.aig_command.specs.declared.run_fault.RunFault.TheVariants as run_faults

pub returns-in-Ok : goal.returns-in-Ok
returns-in-Ok g c =
    record {
      ends =
          let h = c.in-Ok.ensures in
          let left = g.R.Read.left c.args.circuit.now in
          ends_of_reader (flow g.R.Read.left g.R.Read.failures c.args.circuit.now c.read_with_format.new.reader)
          (flow g.W.Write.written g.W.Write.failures c.args.out.now c.list_facts.new.out) run_faults.Output (ListsFacts left)
          c.in-Ok.circuit (λ fault bytes h. h)
          (λ bytes e whole. h.answers bytes e (λ is. cc)) h.circuit h.io c.list_facts.result
          (c.list_facts.ensures left (by_known left h.format));
    }

pub returns-in-Err : goal.returns-in-Err
returns-in-Err g c =
    record {
      ends =
          let h = c.in-Err.ensures in
          let left = g.R.Read.left c.args.circuit.now in
          reader_refused (flow g.R.Read.left g.R.Read.failures c.args.circuit.now c.read_with_format.new.reader)
          g.W.Write.written g.W.Write.failures c.args.out.now run_faults.Output (ListsFacts left) c.in-Err.fault
          (λ bytes e whole. h.answers bytes e (no_read c.in-Err.fault whole)) h.io;
    }

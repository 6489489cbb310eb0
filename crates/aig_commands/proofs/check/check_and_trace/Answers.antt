use Rattle.std.specs.Prelude.{codes}
use Rattle.aig_bytes.specs.Flow.{flow}
use Rattle.aig_commands.specs.Check.{ChecksAndTraces, OfProperty}
use Rattle.aig_commands.proofs.Asked.{asked_ends, refused_ends, traces_witness}
use Rattle.aig_commands.proofs.Traced.{none_within, trace_printed}
use Rattle.aig_commands.proofs.check.check_and_trace.Goals as goal
use Rattle.aig_command.proofs.Files.{answered, file_refused}
use Rattle.aig_command.specs.Command.{CommandEnds, OfFile}
use Rattle.aig_command.specs.declared.run_fault.RunFault.TheVariants as run_faults

pub returns : goal.returns
returns g c =
    record {
      ends =
          asked_ends (ChecksAndTraces c.args.shown) c.args.witness.now c.in_ok-read.read
          (traces_witness c.args.shown c.args.witness.now c.in_ok-read.read)
          (flow g.W.Write.written g.W.Write.failures c.args.out.now c.write_run.new.out) c.args.circuit.now c.in_ok-read.ensures.circuit
          c.args.property c.in_ok-refuse_other.ensures.ok c.write_run.result c.write_run.ensures;
      printed = λ printed. (
        c.in_ok-read.read,
        c.in_ok-read.ensures.circuit,
        trace_printed g.W.Write.written g.W.Write.failures c.args.out.now c.write_run.new.out c.args.shown c.args.witness.now c.in_ok-read.read
            c.write_run.result c.write_run.ensures printed,
        c.in_ok-refuse_other.ensures.ok,
      );
    }

pub returns-in_err-refuse_other : goal.returns-in_err-refuse_other
returns-in_err-refuse_other g c =
    record {
      ends =
          answered c.from_residual-in_err-refuse_other.result c.in_err-refuse_other.field-0.0
          (CommandEnds (flow g.W.Write.written g.W.Write.failures c.args.out.now c.args.out.now) run_faults.Output
          (OfFile c.args.circuit.now (OfProperty c.args.property (ChecksAndTraces c.args.shown) c.args.witness.now)))
          c.from_residual-in_err-refuse_other.ensures.1
          (refused_ends (ChecksAndTraces c.args.shown) c.args.witness.now c.in_ok-read.read
          (traces_witness c.args.shown c.args.witness.now c.in_ok-read.read)
          g.W.Write.written g.W.Write.failures c.args.out.now c.args.circuit.now c.in_ok-read.ensures.circuit c.args.property
          c.in_err-refuse_other.field-0.0 c.in_err-refuse_other.ensures.fault);
      printed = λ printed. absurd (none_within (g.W.Write.written c.args.out.now) (codes "con") 102 (codes "irmed") printed);
    }

pub returns-in_err-read : goal.returns-in_err-read
returns-in_err-read g c =
    record {
      ends =
          answered c.from_residual.result (run_faults.Circuit c.in_err-read.field-0.0)
          (CommandEnds (flow g.W.Write.written g.W.Write.failures c.args.out.now c.args.out.now) run_faults.Output
          (OfFile c.args.circuit.now (OfProperty c.args.property (ChecksAndTraces c.args.shown) c.args.witness.now)))
          c.from_residual.ensures.1
          (file_refused g.W.Write.written g.W.Write.failures c.args.out.now run_faults.Output
          (OfProperty c.args.property (ChecksAndTraces c.args.shown) c.args.witness.now) c.args.circuit.now c.in_err-read.field-0.0 c.in_err-read.ensures.fault);
      printed = λ printed. absurd (none_within (g.W.Write.written c.args.out.now) (codes "con") 102 (codes "irmed") printed);
    }

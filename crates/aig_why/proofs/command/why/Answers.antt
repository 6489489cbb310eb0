use Rattle.std.proofs.Common.{[], List, ℕ, Err, subst}
use Rattle.std.specs.Prelude.{option_copied}
use Rattle.aig_bytes.specs.Bytes.{Writes}
use Rattle.aig_bytes.specs.Flow.{flow}
use Rattle.aig_command.proofs.Files.{answered, ends_of_file, file_refused}
use Rattle.aig_command.proofs.Written.{got_none, output_ends}
use Rattle.aig_command.specs.Command.{CommandEnds, OfFile}
use Rattle.aig_command.specs.Given.{given_text}
use Rattle.aig_command.specs.declared.run_fault.RunFault.TheVariants as run_faults
use Rattle.aig_why.specs.Why.{WritesWhy}
use Rattle.aig_why.proofs.RunLemmas.{why_no_circuit}
use Rattle.aig_why.proofs.command.why.Goals as goal

pub returns : goal.returns
returns g c =
    record {
      ends =
          ends_of_file (WritesWhy c.args.asked.form (given_text c.args.given) (option_copied c.args.asked.name) c.args.asked.span) c.in_ok-circuit.circuit
          (why_no_circuit c.args.asked.form c.in_ok-circuit.circuit (given_text c.args.given) (option_copied c.args.asked.name) c.args.asked.span)
          (flow g.W.Write.written g.W.Write.failures c.args.out.now c.write_text.new.out) run_faults.Output c.args.circuit.now
          c.in_ok-circuit.ensures.circuit c.write_text.result
          (output_ends g.W.Write.written g.W.Write.failures c.args.out.now c.write_text.new.out
          (WritesWhy c.args.asked.form (given_text c.args.given) (option_copied c.args.asked.name) c.args.asked.span c.in_ok-circuit.circuit) c.in_ok-text.text.items c.write_text.result
          (subst (λ (bytes : List ℕ). Writes g.W.Write.written g.W.Write.failures c.args.out.now c.write_text.new.out bytes c.write_text.result)
          c.deref.ensures.value c.write_text.ensures.written)
          c.write_text.ensures.output c.in_ok-text.ensures.text);
    }

pub returns-in_err-circuit : goal.returns-in_err-circuit
returns-in_err-circuit g c =
    record {
      ends =
          answered c.from_residual.result (run_faults.Circuit c.in_err-circuit.field-0.0)
          (CommandEnds (flow g.W.Write.written g.W.Write.failures c.args.out.now c.args.out.now) run_faults.Output
          (OfFile c.args.circuit.now (WritesWhy c.args.asked.form (given_text c.args.given) (option_copied c.args.asked.name) c.args.asked.span)))
          c.from_residual.ensures.1
          (file_refused g.W.Write.written g.W.Write.failures c.args.out.now run_faults.Output
          (WritesWhy c.args.asked.form (given_text c.args.given) (option_copied c.args.asked.name) c.args.asked.span) c.args.circuit.now c.in_err-circuit.field-0.0 c.in_err-circuit.ensures.fault);
    }

pub returns-in_err-text : goal.returns-in_err-text
returns-in_err-text g c =
    record {
      ends =
          answered c.from_residual-in_err-text.result c.in_err-text.field-0.0
          (CommandEnds (flow g.W.Write.written g.W.Write.failures c.args.out.now c.args.out.now) run_faults.Output
          (OfFile c.args.circuit.now (WritesWhy c.args.asked.form (given_text c.args.given) (option_copied c.args.asked.name) c.args.asked.span)))
          c.from_residual-in_err-text.ensures.1
          (ends_of_file (WritesWhy c.args.asked.form (given_text c.args.given) (option_copied c.args.asked.name) c.args.asked.span) c.in_ok-circuit.circuit
          (why_no_circuit c.args.asked.form c.in_ok-circuit.circuit (given_text c.args.given) (option_copied c.args.asked.name) c.args.asked.span)
          (flow g.W.Write.written g.W.Write.failures c.args.out.now c.args.out.now) run_faults.Output c.args.circuit.now
          c.in_ok-circuit.ensures.circuit (Err c.in_err-text.field-0.0)
          (CommandEnds.writes_all [] c.in_err-text.ensures.fault (got_none g.W.Write.written g.W.Write.failures c.args.out.now)));
    }

use Rattle.aig_bytes.specs.Flow.{flow}
use Rattle.aig_commands.specs.Toaig.{Converts}
use Rattle.aig_commands.specs.declared.certified.Purpose.TheVariants.{Circuit}
use Rattle.aig_commands.proofs.Certificates.{certified_ends, not_certified}
use Rattle.aig_commands.proofs.strengthen.strengthen.Goals as goal

pub returns : goal.returns
returns g c =
    record {
      ends =
          let asked = c.args.certified in
          certified_ends Circuit asked.circuit.now asked.property asked.certificate.now (Converts c.args.to)
          (flow g.W.Write.written g.W.Write.failures c.args.out.now c.write_converted.new.out) c.in_ok-circuit.circuit
          c.in_ok-circuit.ensures.certified c.write_converted.result c.write_converted.ensures.ends;
    }

pub returns-in_err-circuit : goal.returns-in_err-circuit
returns-in_err-circuit g c =
    record {
      ends =
          let asked = c.args.certified in
          not_certified Circuit asked.circuit.now asked.property asked.certificate.now (Converts c.args.to)
          g.W.Write.written g.W.Write.failures c.args.out.now c.in_err-circuit.field-0.0 c.in_err-circuit.ensures.refused
          c.from_residual.result c.from_residual.ensures.1;
    }

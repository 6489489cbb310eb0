use Rattle.std.specs.Prelude.{IfSome}
use Rattle.aig_commands.specs.Certified.{OfCertified}
use Rattle.aig_commands.specs.declared.certified.Purpose.TheVariants as purposes
use Rattle.aig_commands.specs.Toaig.{Converts}
use Rattle.aig_files.specs.declared.part.Part.TheVariants as parts
use Rattle.aig_command.specs.declared.run_fault.RunFault.TheVariants as run_faults
use Rattle.aig_program.specs.Ends.{Ends, end_of, seen}
use Rattle.aig_program.proofs.Endings.{command_ends, ends_unread, nothing, of_any, of_any_two, of_both, of_whole, slice_whole}
use Rattle.aig_program.proofs.commands.strengthen.run.Goals as goal

pub returns : goal.returns
returns g c =
    let w = g.W.Write.written in
    let f = g.W.Write.failures in
    let out = seen w f c.args.out.now c.ended.new.out in
    let file = c.as_slice-file.result.now in
    let claims = c.as_slice-claims.result.now in
    record {
      ends =
          of_both (g.F.Read.remaining c.args.it.circuit) (g.F.Read.remaining c.args.it.certificate) file claims
          (slice_whole (g.F.Read.remaining c.args.it.circuit) _ _ c.as_slice-file.ensures.value c.in_ok-circuit.ensures.whole)
          (slice_whole (g.F.Read.remaining c.args.it.certificate) _ _ c.as_slice-claims.ensures.value c.in_ok-certificate.ensures.whole)
          (λ xs ys. Ends out run_faults.Output end_of (OfCertified purposes.Circuit xs c.args.it.property ys (Converts c.args.it.to)) c.ended.result)
          (command_ends w f _ _ _ run_faults.Output _ c.strengthen-done.result c.ended.result c.strengthen-done.ensures.ends c.ended.ensures.ends);
    }

pub returns-in_err-circuit : goal.returns-in_err-circuit
returns-in_err-circuit g c =
    let w = g.W.Write.written in
    let f = g.W.Write.failures in
    let out = seen w f c.args.out.now c.args.out.now in
    record {
      ends =
          of_any_two (g.F.Read.remaining c.args.it.circuit) (g.F.Read.remaining c.args.it.certificate)
          (λ xs ys. Ends out run_faults.Output end_of (OfCertified purposes.Circuit xs c.args.it.property ys (Converts c.args.it.to)) c.from_residual.result)
          (λ xs ys. (ends_unread (nothing w f c.args.out.now) c.from_residual.result c.in_err-circuit.field-0.0 parts.Circuit c.in_err-circuit.ensures.fails c.from_residual.ensures.1));
    }

pub returns-in_err-certificate : goal.returns-in_err-certificate
returns-in_err-certificate g c =
    let w = g.W.Write.written in
    let f = g.W.Write.failures in
    let out = seen w f c.args.out.now c.args.out.now in
    record {
      ends =
          of_any_two (g.F.Read.remaining c.args.it.circuit) (g.F.Read.remaining c.args.it.certificate)
          (λ xs ys. Ends out run_faults.Output end_of (OfCertified purposes.Circuit xs c.args.it.property ys (Converts c.args.it.to)) c.from_residual-in_err-certificate.result)
          (λ xs ys. (ends_unread (nothing w f c.args.out.now) c.from_residual-in_err-certificate.result c.in_err-certificate.field-0.0 parts.Certificate c.in_err-certificate.ensures.fails c.from_residual-in_err-certificate.ensures.1));
    }

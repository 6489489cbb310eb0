use Rattle.std.proofs.Common.{refl, ap}
use Rattle.std.specs.Prelude.{Some}
use Rattle.aig_commands.specs.Certified.{OfCertified}
use Rattle.aig_commands.specs.Toaig.{Converts}
use Rattle.aig_commands.specs.declared.certified.Purpose.TheVariants as purposes
use Rattle.aig_c.proofs.Endings.{after_err, after_ok, asked}
use Rattle.aig_c.proofs.Silent.{converts, of_certified}
use Rattle.aig_c.proofs.circuits.aig_strengthen.Goals as goal

pub returns-in-Ok-strengthen : goal.returns-in-Ok-strengthen
returns-in-Ok-strengthen c = record {
  returns = asked (λ to. OfCertified purposes.Circuit c.args.circuit.now c.args.property c.args.certificate.now (Converts to)) c.format.ensures
      (after_ok (OfCertified purposes.Circuit c.args.circuit.now c.args.property c.args.certificate.now (Converts c.format.result)) c.strengthen.new.out.bytes _ (ap Some c.in-Ok.ensures) refl
      c.bytes.ensures c.in-Ok-strengthen.ensures.ends c.answer.ensures);
}

pub returns : goal.returns
returns c = record {
  returns = asked (λ to. OfCertified purposes.Circuit c.args.circuit.now c.args.property c.args.certificate.now (Converts to)) c.format.ensures
      (after_err (OfCertified purposes.Circuit c.args.circuit.now c.args.property c.args.certificate.now (Converts c.format.result)) (of_certified (Converts c.format.result) (converts c.format.result) purposes.Circuit c.args.circuit.now c.args.property c.args.certificate.now)
      c.in-Err.fault c.strengthen.new.out.bytes _ (ap Some c.in-Ok.ensures) refl c.bytes-in-Err.ensures c.in-Err.ensures.ends c.refuse.ensures);
}

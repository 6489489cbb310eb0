use Rattle.std.proofs.Common.{List, sym, subst}
use Rattle.aig_bytes.proofs.Results.{known_err}
use Rattle.aig_command.specs.declared.run_fault.RunFault.{RunFault}
use Rattle.aig_command.specs.declared.run_fault.RunFault.TheVariants as run_faults
use Rattle.aig_commands.specs.Certified.{RefusesCertified, no_circuit, no_certificate, apart}
use Rattle.aig_commands.proofs.certified.Certified.strengthened.Goals as goal

pub returns-in_err-circuit-clause-refused : goal.returns-in_err-circuit-clause-refused
returns-in_err-circuit-clause-refused c =
    let me = c.args.self.now in
    let fault = c.in_err-circuit.field-0.0 in
    known_err c.from_residual.result (run_faults.Circuit fault)
    (RefusesCertified c.args.purpose me.circuit.now me.property me.certificate.now) c.from_residual.ensures.1
    (no_circuit fault c.in_err-circuit.ensures.fault)

pub returns-in_err-certificate-clause-refused : goal.returns-in_err-certificate-clause-refused
returns-in_err-certificate-clause-refused c =
    let me = c.args.self.now in
    let part = c.in_err-certificate.field-0.0 in
    let why = c.in_err-certificate.ensures.refused in
    known_err c.from_residual-in_err-certificate.result part
    (RefusesCertified c.args.purpose me.circuit.now me.property me.certificate.now) c.from_residual-in_err-certificate.ensures.1
    (subst (λ (f : RunFault). RefusesCertified c.args.purpose me.circuit.now me.property me.certificate.now f) (sym why.1)
    (no_certificate c.in_ok-circuit.circuit why.0 c.in_ok-circuit.ensures.circuit why.2))

pub returns-clause-refused : goal.returns-clause-refused
returns-clause-refused c =
    let me = c.args.self.now in
    subst (λ (f : RunFault). RefusesCertified c.args.purpose me.circuit.now me.property me.certificate.now f) (sym c.fault.ensures)
    (apart c.in_ok-circuit.circuit c.in_ok-certificate.certificate c.in-Err.fault c.in_ok-circuit.ensures.circuit
    c.in_ok-certificate.ensures.certificate c.in-Err.ensures.refused)

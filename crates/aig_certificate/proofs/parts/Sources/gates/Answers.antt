use Rattle.std.proofs.Common.{List, All, sym, subst}
use Rattle.aig_parts.specs.declared.gate.Gate.{Gate}
use Rattle.aig_base.specs.RenumberingTable.{IsGateListed}
use Rattle.aig_certificate.proofs.Entered.{has_literals}
use Rattle.aig_certificate.proofs.parts.Sources.gates.Goals as goal

pub push_gates-requires : goal.push_gates-requires
push_gates-requires c =
    let table = c.args.self.now.translation.table in
    let P : List Gate → Type 0 = All (IsGateListed table) in
    subst P (sym c.gates-2.ensures)
    (has_literals c.args.self.now.certificate.now c.facts.ensures.sound table c.requires.size).gates

use Rattle.std.proofs.Common.{ℕ, List, All, sym, subst}
use Rattle.aig_base.specs.RenumberingTable.{IsInTable}
use Rattle.aig_certificate.proofs.Entered.{has_literals, has_properties}
use Rattle.aig_certificate.proofs.parts.Sources.claims.Goals as goal

pub push_literals-requires : goal.push_literals-requires
push_literals-requires c =
    let table = c.args.self.now.translation.table in
    let certificate = c.args.self.now.certificate.now in
    let P : List ℕ → Type 0 = All (IsInTable table) in
    subst P (sym c.properties.ensures)
    (has_properties certificate table (has_literals certificate c.facts.ensures.sound table c.requires.size))

pub push_negations-requires : goal.push_negations-requires
push_negations-requires c =
    let table = c.args.self.now.translation.table in
    let P : List ℕ → Type 0 = All (IsInTable table) in
    subst P (sym c.constraints.ensures)
    (has_literals c.args.self.now.certificate.now c.facts.ensures.sound table c.requires.size).constraints

use Rattle.std.proofs.Common.{ℕ, List, All, sym, subst, ◌∙◌}
use Rattle.aig_base.specs.RenumberingTable.{IsInTable}
use Rattle.aig_certificate.proofs.Entered.{has_literals}
use Rattle.aig_certificate.proofs.OwnEntries.{All-own}
use Rattle.aig_certificate.proofs.parts.Sources.inputs.Goals as goal

pub push_literals-requires : goal.push_literals-requires
push_literals-requires c =
    let table = c.args.self.now.translation.table in
    let certificate = c.args.self.now.certificate.now in
    let P : List ℕ → Type 0 = All (IsInTable table) in
    subst P (sym (c.as_slice-2.ensures ∙ c.in_ok-own.ensures))
    (All-own (IsInTable table) c.as_slice.result.now c.inputs.result.now
    (subst P (sym c.inputs.ensures) (has_literals certificate c.facts.ensures.sound table c.requires.size).inputs))

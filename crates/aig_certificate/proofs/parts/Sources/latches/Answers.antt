use Rattle.std.proofs.Common.{List, All, sym, subst, ◌∙◌}
use Rattle.aig_parts.specs.declared.latch.Latch.{Latch}
use Rattle.aig_base.specs.RenumberingTable.{IsLatchListed}
use Rattle.aig_certificate.proofs.Entered.{has_literals}
use Rattle.aig_certificate.proofs.OwnEntries.{All-own}
use Rattle.aig_certificate.proofs.parts.Sources.latches.Goals as goal

pub push_latches-requires : goal.push_latches-requires
push_latches-requires c =
    let table = c.args.self.now.translation.table in
    let certificate = c.args.self.now.certificate.now in
    let P : List Latch → Type 0 = All (IsLatchListed table) in
    subst P (sym (c.as_slice-2.ensures ∙ c.in_ok-own.ensures))
    (All-own (IsLatchListed table) c.as_slice.result.now c.latches.result.now
    (subst P (sym c.latches.ensures) (has_literals certificate c.facts.ensures.sound table c.requires.size).latches))

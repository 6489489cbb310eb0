use Rattle.std.proofs.Common.{ap, sym, ◌∙◌, arith}
use Rattle.aig_sat.specs.declared.checker.ids.Entry.{Entry}
use Rattle.aig_sat.proofs.checking.IdLemmas.{placed}
use Rattle.aig_sat.proofs.checker.ids.Ids.place.Goals as goal
use Rattle.aig_sat.proofs.checker.ids.Ids.place.Goals.{else-index-len-via-then-index-len+else-index-id, else-index-len-via-else-index-len}

pub returns-then-index-id : goal.returns-then-index-id
returns-then-index-id c = λ k it at is.
    let (same, inside, found) = placed c.args.self.now.entries.items c.args.id _ c.index_of-index.ensures k it at is in
    ap (λ (x : Entry). x.place) (found c.index-then-index-id.result.now c.index-then-index-id.ensures)

pub returns : goal.returns
returns c = λ k it at is.
    let (same, inside, found) = placed c.args.self.now.entries.items c.args.id _ c.index_of-index.ensures k it at is in
    elim c.else-index-len.branch [
      | else-index-len-via-then-index-len+else-index-id w ↦
          absurd (w.if-index-id.false (ap (λ (x : Entry). x.id) (found w.index.result.now w.index.ensures) ∙ is))
      | else-index-len-via-else-index-len w ↦
          absurd (omega (arith, w.if-index-len.false, same, inside, c.len.ensures, c.args.self.now.entries.ok.0))
    ]

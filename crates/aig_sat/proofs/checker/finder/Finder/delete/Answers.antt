use Rattle.std.proofs.Common.{sym, subst}
use Rattle.aig_sat.specs.declared.checker.clauses.Clauses.{Clauses}
use Rattle.aig_sat.specs.checker.Words.{MeetsAll}
use Rattle.aig_sat.proofs.checker.finder.Finder.delete.Goals as goal
use Rattle.aig_sat.proofs.checker.finder.Finder.delete.Goals.{then-before-eq0, else-before-eq0}

pub returns-then-are : goal.returns-then-are
returns-then-are c = λ v m.
    let linked : MeetsAll v c.if-before-eq0.clauses.words.items = elim c.if-before-eq0.branch [
      | then-before-eq0 w ↦ subst (λ (x : Clauses). MeetsAll v x.words.items) (sym w.clauses-is) (c.loop.invariant.met v m)
      | else-before-eq0 w ↦
          subst (λ (x : Clauses). MeetsAll v x.words.items) (sym w.clauses-is) (w.set_next.ensures v (c.loop.invariant.met v m))
    ] in
    c.remove.ensures.met v linked

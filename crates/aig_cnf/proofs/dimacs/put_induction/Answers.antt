use Rattle.std.proofs.Common.{sym}
use Rattle.std.specs.List.{flat_map}
use Rattle.std.proofs.lemmas.List.Concat.{flat_map-cons}
use Rattle.aig_bytes.proofs.GatherLemmas.{gathers_then, gathers_stop, gathers_failed, gathers_same}
use Rattle.aig_cnf.specs.Dimacs.{clause_text}
use Rattle.aig_cnf.specs.Formula.{all_but_last, implies}
use Rattle.aig_cnf.proofs.dimacs.put_induction.Goals as goal

pub returns-in_err-put_clause : goal.returns-in_err-put_clause
returns-in_err-put_clause g c =
    let h = c.from_residual.ensures.0 in
    gathers_same (gathers_stop _ h (gathers_failed c.in_err-put_clause.ensures h))
    (sym (flat_map-cons clause_text c.args.goals.now
    (flat_map (implies c.args.starts.now) (all_but_last c.args.goals.now))))

pub returns : goal.returns
returns g c =
    gathers_same (gathers_then c.in_ok-put_clause.ensures c.put_starts.ensures)
    (sym (flat_map-cons clause_text c.args.goals.now
    (flat_map (implies c.args.starts.now) (all_but_last c.args.goals.now))))

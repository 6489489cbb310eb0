use Rattle.std.proofs.Common.{◌∷◌, [], ◌∙◌, sym, ap, ap₂, arith}
use Rattle.std.specs.List.{flat_map}
use Rattle.std.proofs.lemmas.List.{append-nil, take_all}
use Rattle.aig_bytes.proofs.GatherLemmas.{gathers_ok, gathers_same, piece_failed, piece_more}
use Rattle.aig_cnf.specs.Dimacs.{clause_text}
use Rattle.aig_cnf.proofs.FormulaText.{all_implied_text, implied_text}
use Rattle.aig_cnf.proofs.dimacs.put_implied.Goals as goal

pub returns-in_err-put_clause : goal.returns-in_err-put_clause
unfolding implied_text
returns-in_err-put_clause g c =
    gathers_same (piece_failed (implied_text c.args.literal) c.args.implied.now c.loop-other.other-index c.other-item.result
    c.loop-other.invariant c.loop-other-test.true
    (gathers_same c.in_err-put_clause.ensures
    (ap₂ (λ n m. clause_text (n ∷ m ∷ [])) c.not.ensures c.other-item.is ∙ sym (append-nil _)))
    c.from_residual.ensures.0) (all_implied_text c.args.literal c.args.implied.now)

pub loop-other-preserved : goal.loop-other-preserved
unfolding implied_text
loop-other-preserved g c =
    piece_more (implied_text c.args.literal) c.args.implied.now c.loop-other.other-index c.other-item.result
    c.loop-other.invariant c.loop-other-test.true
    (gathers_same c.in_ok-put_clause.ensures
    (ap₂ (λ n m. clause_text (n ∷ m ∷ [])) c.not.ensures c.other-item.is ∙ sym (append-nil _)))

pub returns : goal.returns
returns g c =
    gathers_same (gathers_ok c.loop-other.invariant)
    (ap (flat_map (implied_text c.args.literal)) (take_all c.loop-other.other-index c.args.implied.now
    (omega (arith, c.loop-other-test.false))) ∙ all_implied_text c.args.literal c.args.implied.now)

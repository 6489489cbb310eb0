use Rattle.std.proofs.Common.{ℕ, List, ◌∙◌, sym, ap, arith}
use Rattle.std.specs.List.{flat_map}
use Rattle.std.proofs.lemmas.List.{nil_from_length, take_all}
use Rattle.aig_bytes.proofs.GatherLemmas.{gathers_none, gathers_ok, gathers_same, piece_failed, piece_more}
use Rattle.aig_cnf.specs.Dimacs.{clause_text}
use Rattle.aig_cnf.specs.Formula.{all_but_last, implies}
use Rattle.aig_cnf.proofs.FormulaText.{all_but_last-append, implies_text, starts_of_none, starts_text}
use Rattle.aig_cnf.proofs.dimacs.put_starts.Goals as goal

pub returns-in_default : goal.returns-in_default
returns-in_default g c =
    gathers_same gathers_none
    (ap (flat_map clause_text) (starts_of_none c.args.starts.now c.args.goals.now (nil_from_length c.args.goals.now c.in_default.ensures.cases)))

pub returns-in_err-put_implied : goal.returns-in_err-put_implied
unfolding implies_text
returns-in_err-put_implied g c =
    gathers_same (piece_failed (implies_text c.args.starts.now) c.in-Some.earlier.now c.loop-bad.bad-index
    c.bad-item.result c.loop-bad.invariant c.loop-bad-test.true
    (gathers_same c.in_err-put_implied.ensures (ap (implies_text c.args.starts.now) c.bad-item.is))
    c.from_residual.ensures.0)
    (starts_text c.args.starts.now c.in-Some.earlier.now
    ∙ ap (λ (ls : List ℕ). flat_map clause_text (flat_map (implies c.args.starts.now) ls))
    (sym (ap all_but_last c.in-Some.ensures.cases.0 ∙ all_but_last-append c.in-Some.earlier.now _)))

pub loop-bad-preserved : goal.loop-bad-preserved
unfolding implies_text
loop-bad-preserved g c =
    piece_more (implies_text c.args.starts.now) c.in-Some.earlier.now c.loop-bad.bad-index c.bad-item.result
    c.loop-bad.invariant c.loop-bad-test.true
    (gathers_same c.in_ok-put_implied.ensures (ap (implies_text c.args.starts.now) c.bad-item.is))

pub returns : goal.returns
returns g c =
    gathers_same (gathers_ok c.loop-bad.invariant)
    (ap (flat_map (implies_text c.args.starts.now)) (take_all c.loop-bad.bad-index c.in-Some.earlier.now
    (omega (arith, c.loop-bad-test.false))) ∙ starts_text c.args.starts.now c.in-Some.earlier.now
    ∙ ap (λ (ls : List ℕ). flat_map clause_text (flat_map (implies c.args.starts.now) ls))
    (sym (ap all_but_last c.in-Some.ensures.cases.0 ∙ all_but_last-append c.in-Some.earlier.now _)))

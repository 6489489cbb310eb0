use Rattle.std.proofs.Common.{ℕ, List, ◌∷◌, [], ◌∙◌, sym, ap, arith}
use Rattle.std.specs.List.{flat_map}
use Rattle.std.proofs.lemmas.List.{append-nil, take_all}
use Rattle.aig_parts.specs.Literal.{negation}
use Rattle.aig_bytes.proofs.GatherLemmas.{gathers_then, gathers_stop, gathers_same, piece_failed, piece_more}
use Rattle.aig_cnf.specs.Dimacs.{clause_text}
use Rattle.aig_cnf.specs.Formula.{first_reached}
use Rattle.aig_cnf.proofs.FormulaText.{denied_text, first_text}
use Rattle.aig_cnf.proofs.dimacs.put_first_reached.Goals as goal

pub returns-in_err-put_clause : goal.returns-in_err-put_clause
unfolding denied_text
returns-in_err-put_clause g c =
    let h = c.from_residual.ensures.0 in
    gathers_same (gathers_stop (clause_text (c.in-Some.last.now ∷ [])) h
    (piece_failed denied_text c.in-Some.earlier.now c.loop-literal.literal-index c.literal-item.result
    c.loop-literal.invariant c.loop-literal-test.true
    (gathers_same c.in_err-put_clause.ensures (ap (λ n. clause_text (n ∷ [])) (c.not.ensures ∙ ap negation c.literal-item.is)
    ∙ sym (append-nil _))) h))
    (first_text c.in-Some.earlier.now c.in-Some.last.now
    ∙ ap (λ (ls : List ℕ). flat_map clause_text (first_reached ls)) (sym c.in-Some.ensures.cases.0))

pub loop-literal-preserved : goal.loop-literal-preserved
unfolding denied_text
loop-literal-preserved g c =
    piece_more denied_text c.in-Some.earlier.now c.loop-literal.literal-index c.literal-item.result
    c.loop-literal.invariant c.loop-literal-test.true
    (gathers_same c.in_ok-put_clause.ensures (ap (λ n. clause_text (n ∷ [])) (c.not.ensures ∙ ap negation c.literal-item.is)
    ∙ sym (append-nil _)))

pub returns : goal.returns
returns g c =
    gathers_same (gathers_then (gathers_same c.loop-literal.invariant
    (ap (flat_map denied_text) (take_all c.loop-literal.literal-index c.in-Some.earlier.now
    (omega (arith, c.loop-literal-test.false))))) c.put_clause-2.ensures)
    (first_text c.in-Some.earlier.now c.in-Some.last.now
    ∙ ap (λ (ls : List ℕ). flat_map clause_text (first_reached ls)) (sym c.in-Some.ensures.cases.0))

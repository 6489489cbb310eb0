use Rattle.std.proofs.Common.{◌∙◌, ◌∷◌, [], sym}
use Rattle.std.proofs.lemmas.List.{append-nil}
use Rattle.aig_parts.specs.Literal.{negation}
use Rattle.aig_cnf.specs.Dimacs.{clause_text, gate_text}
use Rattle.aig_bytes.proofs.GatherLemmas.{gathers_then, gathers_stop, gathers_failed, gathers_same}
use Rattle.aig_cnf.proofs.TermLemmas.{opposite, pair_clause, triple_clause}
use Rattle.aig_cnf.proofs.dimacs.put_gate.Goals as goal

pub returns-in_err-put_pair : goal.returns-in_err-put_pair
unfolding gate_text
returns-in_err-put_pair g c =
    let h = c.from_residual.ensures.0 in
    let lhs = opposite c.args.gate.lhs _ _ c.term_of-lhs.ensures c.negated.ensures in
    gathers_stop _ h (gathers_failed (gathers_same c.in_err-put_pair.ensures
    (pair_clause (negation c.args.gate.lhs) c.args.gate.rhs0 _ _ lhs c.term_of-rhs0.ensures)) h)

pub returns-in_err-put_pair-2 : goal.returns-in_err-put_pair-2
unfolding gate_text
returns-in_err-put_pair-2 g c =
    let h = c.from_residual-in_err-put_pair-2.ensures.0 in
    let lhs = opposite c.args.gate.lhs _ _ c.term_of-lhs.ensures c.negated.ensures in
    let again = opposite c.args.gate.lhs _ _ c.term_of-lhs.ensures c.negated-2.ensures in
    gathers_then (gathers_same c.in_ok-put_pair.ensures
    (pair_clause (negation c.args.gate.lhs) c.args.gate.rhs0 _ _ lhs c.term_of-rhs0.ensures))
    (gathers_stop _ h (gathers_failed (gathers_same c.in_err-put_pair-2.ensures
    (pair_clause (negation c.args.gate.lhs) c.args.gate.rhs1 _ _ again c.term_of-rhs1.ensures)) h))

pub returns : goal.returns
unfolding gate_text
returns g c =
    let lhs = opposite c.args.gate.lhs _ _ c.term_of-lhs.ensures c.negated.ensures in
    let again = opposite c.args.gate.lhs _ _ c.term_of-lhs.ensures c.negated-2.ensures in
    let rhs0 = opposite c.args.gate.rhs0 _ _ c.term_of-rhs0.ensures c.negated-3.ensures in
    let rhs1 = opposite c.args.gate.rhs1 _ _ c.term_of-rhs1.ensures c.negated-4.ensures in
    gathers_then (gathers_same c.in_ok-put_pair.ensures
    (pair_clause (negation c.args.gate.lhs) c.args.gate.rhs0 _ _ lhs c.term_of-rhs0.ensures))
    (gathers_then (gathers_same c.in_ok-put_pair-2.ensures
    (pair_clause (negation c.args.gate.lhs) c.args.gate.rhs1 _ _ again c.term_of-rhs1.ensures))
    (gathers_same c.put_triple.ensures
    (triple_clause c.args.gate.lhs (negation c.args.gate.rhs0) (negation c.args.gate.rhs1) _ _ _ c.term_of-lhs.ensures rhs0 rhs1
    ∙ sym (append-nil (clause_text (c.args.gate.lhs ∷ negation c.args.gate.rhs0 ∷ negation c.args.gate.rhs1 ∷ []))))))

use Rattle.std.proofs.Common.{ap, arith}
use Rattle.std.specs.List.{flat_map}
use Rattle.std.proofs.lemmas.List.{take_all}
use Rattle.aig_cnf.specs.Dimacs.{clause_text, literal_text}
use Rattle.aig_bytes.proofs.GatherLemmas.{gathers_then, gathers_stop, piece_failed, piece_more, gathers_same}
use Rattle.aig_cnf.proofs.dimacs.put_clause.Goals as goal

pub returns-in_err-put_literal : goal.returns-in_err-put_literal
unfolding clause_text
returns-in_err-put_literal g c =
    let h = c.from_residual.ensures.0 in
    gathers_stop _ h (piece_failed literal_text c.args.literals.now c.loop-literal.literal-index c.literal-item.result
    c.loop-literal.invariant c.loop-literal-test.true
    (gathers_same c.in_err-put_literal.ensures (ap literal_text c.literal-item.is)) h)

pub loop-literal-preserved : goal.loop-literal-preserved
loop-literal-preserved g c =
    piece_more literal_text c.args.literals.now c.loop-literal.literal-index c.literal-item.result c.loop-literal.invariant
    c.loop-literal-test.true (gathers_same c.in_ok-put_literal.ensures (ap literal_text c.literal-item.is))

pub returns : goal.returns
unfolding clause_text
returns g c =
    gathers_then (gathers_same c.loop-literal.invariant
    (ap (flat_map literal_text) (take_all c.loop-literal.literal-index c.args.literals.now (omega (arith, c.loop-literal-test.false)))))
    c.put_all.ensures

use Rattle.aig_cnf.proofs.ReadFormulas.{bad_is_defined, err_read, ok_has, ok_read}
use Rattle.aig_cnf.proofs.read_formula.formula_of.Goals as goal

pub over_part-requires-clause-bad : goal.over_part-requires-clause-bad
over_part-requires-clause-bad c =
    bad_is_defined c.args.circuit.now c.facts.ensures c.args.query.property c.in_ok-bad.bad c.in_ok-bad.ensures.1

pub returns-clause-formula : goal.returns-clause-formula
returns-clause-formula c =
    ok_read c.args.circuit.now c.args.query c.in_ok-bad.bad c.in_ok-bad.ensures.0 c.in_ok-bad.ensures.1 c.over_part.result
    c.over_part.ensures.formula

pub returns-clause-accepted : goal.returns-clause-accepted
returns-clause-accepted c =
    ok_has c.args.circuit.now c.args.query c.in_ok-bad.bad c.in_ok-bad.ensures.0 c.in_ok-bad.ensures.1 c.over_part.result
    c.over_part.ensures.formula

pub returns-clause-refused : goal.returns-clause-refused
returns-clause-refused c =
    err_read c.args.circuit.now c.args.query c.in_ok-bad.bad c.in_ok-bad.ensures.0 c.in_ok-bad.ensures.1 c.over_part.result
    c.over_part.ensures.refused

use Rattle.std.proofs.Common.{arith}
use Rattle.aig_cnf.proofs.ReadFormulas.{err_alive, ok_alive, ok_has_alive}
use Rattle.aig_cnf.proofs.read_formula.ReadFormula.alive.Goals as goal

pub returns-clause-formula : goal.returns-clause-formula
returns-clause-formula c =
    ok_alive c.args.circuit.now c.args.frames c.new.result (omega (arith, c.if-frames-eq0.false)) c.new.ensures c.over_part.result
    c.over_part.ensures.formula

pub returns-clause-accepted : goal.returns-clause-accepted
returns-clause-accepted c =
    ok_has_alive c.args.circuit.now c.args.frames c.new.result (omega (arith, c.if-frames-eq0.false)) c.new.ensures
    c.over_part.result c.over_part.ensures.formula

pub returns-clause-refused : goal.returns-clause-refused
returns-clause-refused c =
    err_alive c.args.circuit.now c.args.frames c.new.result (omega (arith, c.if-frames-eq0.false)) c.new.ensures
    c.over_part.result c.over_part.ensures.refused

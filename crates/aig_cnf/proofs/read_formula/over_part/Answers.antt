use Rattle.aig_bytes.proofs.Results.{known_err}
use Rattle.aig_cnf.specs.state.Over.{RefusesOver}
use Rattle.aig_cnf.proofs.ReadFormulas.{is_over, refuses_over}
use Rattle.aig_cnf.proofs.read_formula.over_part.Goals as goal

pub returns-clause-formula : goal.returns-clause-formula
returns-clause-formula c =
    is_over c.args.circuit.now c.in_ok-part.part c.of.new.circuit c.args.bad c.args.goal c.args.frames
    c.in_ok-marks.marks.items c.deref.result.now c.in_ok-formula.formula c.in_ok-marks.ensures c.deref.ensures.value
    c.in_ok-part.ensures c.of.ensures.circuit c.in_ok-formula.ensures.formula c.in_ok-formula.ensures.accepted

pub returns-in_err-formula-clause-refused : goal.returns-in_err-formula-clause-refused
returns-in_err-formula-clause-refused c =
    known_err c.from_residual-in_err-formula.result c.in_err-formula.field-0.0
    (RefusesOver c.args.circuit.now c.args.bad c.args.goal c.args.frames) c.from_residual-in_err-formula.ensures.1
    (refuses_over c.args.circuit.now c.in_ok-part.part c.args.bad c.args.goal c.args.frames c.in_ok-marks.marks.items
    c.deref.result.now c.in_err-formula.field-0.0 c.requires.frames c.in_ok-marks.ensures c.deref.ensures.value
    c.in_ok-part.ensures c.in_err-formula.ensures.refused)

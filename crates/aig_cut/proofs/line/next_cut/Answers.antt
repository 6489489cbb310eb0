use Rattle.aig_cut.proofs.LineLemmas.{first_line, no_end}
use Rattle.aig_cut.proofs.line.next_cut.Goals as goal

pub returns-in_err-line-clause-none : goal.returns-in_err-line-clause-none
returns-in_err-line-clause-none c is cut after there e = no_end c.args.text.now c.in_err-line.ensures.none cut after e

pub returns-in_err-cut-clause-none : goal.returns-in_err-cut-clause-none
returns-in_err-cut-clause-none c is cut after there e =
    c.cut_of_line.ensures.none c.in_err-cut.was cut there
    (first_line c.args.text.now c.in_ok-line.line.now c.in_ok-line.after.now c.in_ok-line.ensures.line c.in_ok-line.ensures.split
    cut after e)

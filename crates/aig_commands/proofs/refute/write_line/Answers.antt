use Rattle.aig_bytes.proofs.WriteLemmas.{writes_then, writes_stop}
use Rattle.aig_commands.proofs.refute.write_line.Goals as goal

pub returns-in_err-write_all-in-Within : goal.returns-in_err-write_all-in-Within
returns-in_err-write_all-in-Within g c =
    rw c.in-Within.is (writes_stop _ c.in_err-write_all-in-Within.ensures c.from_residual.ensures.0)

pub returns-in_err-write_number-in-Within : goal.returns-in_err-write_number-in-Within
returns-in_err-write_number-in-Within g c =
    rw c.in-Within.is (writes_then c.in_ok-write_all-in-Within.ensures
    (writes_stop _ c.in_err-write_number-in-Within.ensures c.from_residual-in_err-write_number-in-Within.ensures.0))

pub returns-in_ok-write_number-in-Within : goal.returns-in_ok-write_number-in-Within
returns-in_ok-write_number-in-Within g c =
    rw c.in-Within.is (writes_then c.in_ok-write_all-in-Within.ensures
    (writes_then c.in_ok-write_number-in-Within.ensures c.write_all-in-Within.ensures))

pub returns-in_err-write_all-in-Last : goal.returns-in_err-write_all-in-Last
returns-in_err-write_all-in-Last g c =
    rw c.in-Last.is (writes_stop _ c.in_err-write_all-in-Last.ensures c.from_residual-in_err-write_all-in-Last.ensures.0)

pub returns-in_err-write_number-in-Last : goal.returns-in_err-write_number-in-Last
returns-in_err-write_number-in-Last g c =
    rw c.in-Last.is (writes_then c.in_ok-write_all-in-Last.ensures
    (writes_stop _ c.in_err-write_number-in-Last.ensures c.from_residual-in_err-write_number-in-Last.ensures.0))

pub returns-in_ok-write_number-in-Last : goal.returns-in_ok-write_number-in-Last
returns-in_ok-write_number-in-Last g c =
    rw c.in-Last.is (writes_then c.in_ok-write_all-in-Last.ensures
    (writes_then c.in_ok-write_number-in-Last.ensures c.write_all-in-Last-2.ensures))

pub returns-in-Step : goal.returns-in-Step
returns-in-Step g c = rw c.in-Step.is c.write_all-in-Step.ensures

pub returns-in-Induction : goal.returns-in-Induction
returns-in-Induction g c = rw c.in-Induction.is c.write_all-in-Induction.ensures

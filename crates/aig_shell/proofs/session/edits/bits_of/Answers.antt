use Rattle.aig_shell.proofs.editing.Results.{not_malformed, not_other_width, not_wide}
use Rattle.aig_shell.proofs.session.edits.bits_of.Goals as goal

pub returns-in-Err-Malformed-clause-err : goal.returns-in-Err-Malformed-clause-err
returns-in-Err-Malformed-clause-err c = λ other bits h.
    c.in-Err-Malformed.ensures.fault (not_malformed c.in-Err-Malformed.field-0 c.in-Err-Malformed.field-0-is) bits h.0 h.1

pub returns-in-Err-OtherWidth-clause-err : goal.returns-in-Err-OtherWidth-clause-err
returns-in-Err-OtherWidth-clause-err c = λ other bits h.
    c.in-Err-OtherWidth.ensures.fault (not_other_width c.in-Err-OtherWidth.field-0 c.in-Err-OtherWidth.field-0-is) bits h.0 h.1

pub returns-in-Err-Wide-clause-err : goal.returns-in-Err-Wide-clause-err
returns-in-Err-Wide-clause-err c = λ other bits h.
    c.in-Err-Wide.ensures.fault (not_wide c.in-Err-Wide.field-0 c.in-Err-Wide.field-0-is) bits h.0 h.1

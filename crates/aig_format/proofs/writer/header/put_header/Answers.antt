use Rattle.aig_bytes.proofs.GatherLemmas.{gathers_then, gathers_stop, gathers_failed}
use Rattle.aig_format.specs.Header.{header_line}
use Rattle.aig_format.proofs.writer.header.put_header.Goals as goal

pub returns-in_err-put_word : goal.returns-in_err-put_word
unfolding header_line
returns-in_err-put_word g c = let h = c.from_residual.ensures.0 in gathers_stop _ h (gathers_stop _ h (gathers_stop _ h (gathers_stop _ h (gathers_stop _ h (gathers_stop _ h (gathers_failed c.in_err-put_word.ensures h))))))

pub returns-in_err-put_field : goal.returns-in_err-put_field
unfolding header_line
returns-in_err-put_field g c = let h = c.from_residual-in_err-put_field.ensures.0 in gathers_stop _ h (gathers_stop _ h (gathers_stop _ h (gathers_stop _ h (gathers_stop _ h (gathers_then c.in_ok-put_word.ensures (gathers_failed c.in_err-put_field.ensures h))))))

pub returns-in_err-put_field-2 : goal.returns-in_err-put_field-2
unfolding header_line
returns-in_err-put_field-2 g c = let h = c.from_residual-in_err-put_field-2.ensures.0 in gathers_stop _ h (gathers_stop _ h (gathers_stop _ h (gathers_stop _ h (gathers_then (gathers_then c.in_ok-put_word.ensures c.in_ok-put_field.ensures) (gathers_failed c.in_err-put_field-2.ensures h)))))

pub returns-in_err-put_field-3 : goal.returns-in_err-put_field-3
unfolding header_line
returns-in_err-put_field-3 g c = let h = c.from_residual-in_err-put_field-3.ensures.0 in gathers_stop _ h (gathers_stop _ h (gathers_stop _ h (gathers_then (gathers_then (gathers_then c.in_ok-put_word.ensures c.in_ok-put_field.ensures) c.in_ok-put_field-2.ensures) (gathers_failed c.in_err-put_field-3.ensures h))))

pub returns-in_err-put_field-4 : goal.returns-in_err-put_field-4
unfolding header_line
returns-in_err-put_field-4 g c = let h = c.from_residual-in_err-put_field-4.ensures.0 in gathers_stop _ h (gathers_stop _ h (gathers_then (gathers_then (gathers_then (gathers_then c.in_ok-put_word.ensures c.in_ok-put_field.ensures) c.in_ok-put_field-2.ensures) c.in_ok-put_field-3.ensures) (gathers_failed c.in_err-put_field-4.ensures h)))

pub returns-in_err-put_number : goal.returns-in_err-put_number
unfolding header_line
returns-in_err-put_number g c = let h = c.from_residual-in_err-put_number.ensures.0 in gathers_stop _ h (gathers_then (gathers_then (gathers_then (gathers_then (gathers_then c.in_ok-put_word.ensures c.in_ok-put_field.ensures) c.in_ok-put_field-2.ensures) c.in_ok-put_field-3.ensures) c.in_ok-put_field-4.ensures) (gathers_failed c.in_err-put_number.ensures h))

pub returns : goal.returns
unfolding header_line
returns g c = gathers_then (gathers_then (gathers_then (gathers_then (gathers_then (gathers_then c.in_ok-put_word.ensures c.in_ok-put_field.ensures) c.in_ok-put_field-2.ensures) c.in_ok-put_field-3.ensures) c.in_ok-put_field-4.ensures) c.in_ok-put_number.ensures) c.put_tail.ensures

use Rattle.std.proofs.Common.{sym, ◌∙◌}
use Rattle.aig_bytes.proofs.GatherLemmas.{gathers_then, gathers_stop, gathers_failed, gathers_same}
use Rattle.aig_format.proofs.Written.{tail_end, tail_step}
use Rattle.aig_format.proofs.writer.header.+put_tail.Goals as goal

pub returns-then-are_zero : goal.returns-then-are_zero
returns-then-are_zero g t c = gathers_same c.put_all.ensures (sym (tail_end c.args.counts.now (sym c.are_zero.ensures ∙ c.if-are_zero.true)))

pub returns-in_err-put_all : goal.returns-in_err-put_all
returns-in_err-put_all g t c =
    let h = c.from_residual.ensures.0 in
    let e = sym c.are_zero.ensures ∙ c.if-are_zero.false in
    gathers_same (gathers_stop _ h (gathers_failed c.in_err-put_all.ensures h)) (sym (tail_step c.args.counts.now e))

pub returns-in_err-put_number : goal.returns-in_err-put_number
returns-in_err-put_number g t c =
    let h = c.from_residual-in_err-put_number.ensures.0 in
    let e = sym c.are_zero.ensures ∙ c.if-are_zero.false in
    gathers_same (gathers_then c.in_ok-put_all.ensures (gathers_stop _ h (gathers_failed c.in_err-put_number.ensures h)))
    (sym (tail_step c.args.counts.now e))

pub returns : goal.returns
returns g t c =
    let e = sym c.are_zero.ensures ∙ c.if-are_zero.false in
    gathers_same (gathers_then c.in_ok-put_all.ensures (gathers_then c.in_ok-put_number.ensures c.put_tail.ensures)) (sym (tail_step c.args.counts.now e))

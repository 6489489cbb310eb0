use Rattle.std.proofs.Common.{false, ◌++◌, ap, sym, append_assoc}
use Rattle.std.specs.Fmt.{decimal}
use Rattle.aig_format.specs.Header.{space, field}
use Rattle.aig_format.specs.Spelling.{reset_text}
use Rattle.aig_bytes.proofs.GatherLemmas.{gathers_then, gathers_stop, gathers_failed, gathers_same}
use Rattle.aig_format.proofs.writer.ascii.put_latch.Goals as goal

pub returns-in_err-put_field : goal.returns-in_err-put_field
returns-in_err-put_field g c =
    let h = c.from_residual.ensures.0 in
    gathers_same
    (gathers_stop (decimal c.args.latch.next ++ reset_text false c.args.latch.reset) h
    (gathers_failed (gathers_same c.in_err-put_field.ensures (ap (λ n. field n space) c.value.ensures)) h))
    (sym (append_assoc (field c.args.latch.lit space) (decimal c.args.latch.next) (reset_text false c.args.latch.reset)))

pub returns : goal.returns
returns g c =
    gathers_same
    (gathers_then (gathers_same c.in_ok-put_field.ensures (ap (λ n. field n space) c.value.ensures)) c.put_next.ensures)
    (sym (append_assoc (field c.args.latch.lit space) (decimal c.args.latch.next) (reset_text false c.args.latch.reset)))

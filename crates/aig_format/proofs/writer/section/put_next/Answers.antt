use Rattle.std.proofs.Common.{false, ℕ, ◌++◌, ◌∷◌, [], ap, sym, ◌∙◌, append_assoc}
use Rattle.std.specs.Fmt.{decimal}
use Rattle.aig_format.specs.Header.{space, line_end, field}
use Rattle.aig_format.specs.Spelling.{reset_text}
use Rattle.aig_bytes.proofs.GatherLemmas.{gathers_then, gathers_stop, gathers_failed, gathers_same}
use Rattle.aig_format.proofs.Written.{reset_written, next_written}
use Rattle.aig_format.proofs.writer.section.put_next.Goals as goal

pub returns-then-value-eq0 : goal.returns-then-value-eq0
returns-then-value-eq0 g c =
    gathers_same c.put_field.ensures
    (ap (λ n. field n line_end) c.value-then-value-eq0.ensures
    ∙ ap (λ r. decimal c.args.next ++ reset_text false r) (sym c.if-value-eq0.true ∙ c.value.ensures))

pub returns-in_err-put_field : goal.returns-in_err-put_field
returns-in_err-put_field g c =
    let h = c.from_residual.ensures.0 in
    gathers_same
    (gathers_stop (field c.args.reset line_end) h
    (gathers_failed (gathers_same c.in_err-put_field.ensures (ap (λ n. field n space) c.value-2.ensures)) h))
    (next_written c.args.next c.args.reset (λ e. c.if-value-eq0.false (c.value.ensures ∙ e)))

pub returns : goal.returns
returns g c =
    gathers_same
    (gathers_then (gathers_same c.in_ok-put_field.ensures (ap (λ n. field n space) c.value-2.ensures))
    (gathers_same c.put_field-3.ensures (ap (λ n. field n line_end) c.value-3.ensures)))
    (next_written c.args.next c.args.reset (λ e. c.if-value-eq0.false (c.value.ensures ∙ e)))

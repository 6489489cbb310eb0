use Rattle.std.proofs.Common.{ap, arith, subst, sym, ℕ, ◌≡◌, ◌∙◌, length}
use Rattle.std.specs.Prelude.{false, slice_index}
use Rattle.aig_files.proofs.ShownLemmas.{is_some, on_err, shown_first, shown_front}
use Rattle.aig_files.specs.Shown.{is_plain}
use Rattle.aig_files.proofs.shown.ShownWrite.write.Goals as goal

pub returns-then-plain-gt0-clause-shown : goal.returns-then-plain-gt0-clause-shown
returns-then-plain-gt0-clause-shown g c =
    shown_front _ _ _ (sym (ap g.W.Write.contents c.self.view_is)) c.write.result c.args.bytes.now c.plain_length-plain.result
    c.plain_length-plain.ensures.plain c.write.ensures.bound c.write.ensures.bytes

pub returns-in_err-write_escape-clause-broken : goal.returns-in_err-write_escape-clause-broken
returns-in_err-write_escape-clause-broken g c =
    let some = sym c.is_empty.ensures ∙ c.if-is_empty.false in
    on_err c.from_residual.result _
    (shown_first _ _ c.args.bytes.now some
    (subst (λ (at : ℕ). is_plain (slice_index c.args.bytes.now at) ≡ false) (omega (arith, c.if-plain-gt0.false))
    (c.plain_length-plain.ensures.stops (omega (arith, c.if-plain-gt0.false, is_some (length c.args.bytes.now) some))))
    c.in_err-write_escape.ensures.broken)

use Rattle.std.proofs.Common.{◌≢◌, ℕ, ◌<◌, Some, length, get_or, take, sym, ap, subst, ◌∙◌, arith}
use Rattle.std.proofs.lemmas.List.{take_more}
use Rattle.std.proofs.lemmas.List.Elements.{All-push}
use Rattle.std.proofs.lemmas.Option.{slice_get-get_or}
use Rattle.aig_script.specs.Lines.{IsPiece}
use Rattle.aig_script.proofs.script.short_length.Goals as goal

pub returns-then-byte-eq10-clause-no_end : goal.returns-then-byte-eq10-clause-no_end
returns-then-byte-eq10-clause-no_end c = c.loop-size.invariant

pub returns-then-byte-eq10-clause-ended : goal.returns-then-byte-eq10-clause-ended
returns-then-byte-eq10-clause-ended c =
    let lt : c.loop-size.size < length c.args.bytes.now = omega arith in
    slice_get-get_or c.args.bytes.now c.loop-size.size 0 lt ∙ ap Some c.if-byte-eq10.true

pub loop-size-preserved : goal.loop-size-preserved
loop-size-preserved c =
    let xs = c.args.bytes.now in
    let i = c.loop-size.size in
    let lt : i < length xs = omega arith in
    subst IsPiece (sym (take_more xs i 0 lt))
    (All-push (λ (b : ℕ). b ≢ 10) (take i xs) (get_or xs i 0) c.loop-size.invariant c.if-byte-eq10.false)

use Rattle.std.proofs.Common.{append-nil, ◌∙◌, ap, sym}
use Rattle.std.specs.List.{flat_map}
use Rattle.std.specs.Prelude.{decimal}
use Rattle.std.proofs.lemmas.List.{take_all}
use Rattle.std.proofs.lemmas.List.Folds.{flat_map-map}
use Rattle.aig_bytes.proofs.WriteLemmas.{writes_none, writes_same, writes_stop_at, writes_then}
use Rattle.aig_signals.specs.Json.{comma_before}
use Rattle.aig_signals.proofs.json.names.write_more.Goals as goal

pub returns-in_err-write_next : goal.returns-in_err-write_next
returns-in_err-write_next g c =
    writes_same
    (writes_stop_at (λ n. comma_before (decimal n)) c.args.numbers.now c.loop-number.number-index _ c.loop-number.invariant
    c.loop-number-test.true c.in_err-write_next.ensures c.from_residual.ensures.0)
    (sym (flat_map-map comma_before decimal c.args.numbers.now))

pub returns : goal.returns
returns g c =
    writes_same (writes_then c.loop-number.invariant writes_none)
    (append-nil _ ∙ ap (flat_map (λ n. comma_before (decimal n))) (take_all c.loop-number.number-index c.args.numbers.now c.loop-number-test.false)
    ∙ sym (flat_map-map comma_before decimal c.args.numbers.now))

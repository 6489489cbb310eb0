use Rattle.std.proofs.Common.{◌≡◌, Some, slice_get, subst}
use Rattle.aig_parts.specs.declared.raw.Raw.{Raw}
use Rattle.aig_base.proofs.circuits.Circuits.{latch_defined, latch_in_range, next_defined, next_in_range}
use Rattle.aig_causes.specs.Causes.{moment}
use Rattle.aig_causes.proofs.KeptLatches.{keeps_by_next}
use Rattle.aig_causes.proofs.kept.keeps_value.Goals as goal

pub value_at-requires-clause-range : goal.value_at-requires-clause-range
value_at-requires-clause-range g c =
    latch_in_range c.args.bench.now.pair.circuit c.width.ensures.circuit.sound c.args.position c.latch_at-latch.result
    (subst (λ (r : Raw). slice_get r.latches c.args.position ≡ Some c.latch_at-latch.result) c.circuit.ensures
    c.latch_at-latch.ensures)

pub value_at-requires-2-clause-range : goal.value_at-requires-2-clause-range
value_at-requires-2-clause-range g c =
    next_in_range c.args.bench.now.pair.circuit c.width.ensures.circuit.sound c.args.position c.latch_at-latch.result
    (subst (λ (r : Raw). slice_get r.latches c.args.position ≡ Some c.latch_at-latch.result) c.circuit.ensures
    c.latch_at-latch.ensures)

pub returns : goal.returns
returns g c =
    let p = c.args.bench.now.pair in
    let sound = c.width.ensures.circuit.sound in
    let latch = c.latch_at-latch.result in
    let at : slice_get p.circuit.latches c.args.position ≡ Some latch =
    subst (λ (r : Raw). slice_get r.latches c.args.position ≡ Some latch) c.circuit.ensures c.latch_at-latch.ensures in
    keeps_by_next p.circuit c.width.ensures.circuit (moment p c.args.frame) c.args.position latch c.value_at.result
    c.value_at-2.result at (c.value_at.ensures (latch_defined p.circuit c.args.position latch at))
    (c.value_at-2.ensures (next_defined p.circuit sound c.args.position latch at)) c.eq.result c.eq.ensures

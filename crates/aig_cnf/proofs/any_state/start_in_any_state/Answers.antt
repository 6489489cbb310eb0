use Rattle.std.proofs.Common.{length, List, refl, ap, arith}
use Rattle.aig_parts.specs.declared.latch.Latch.{Latch}
use Rattle.aig_cnf.proofs.AnyState.{started_none, started_more, started_all, started_length, latch_here}
use Rattle.aig_cnf.proofs.any_state.start_in_any_state.Goals as goal

pub loop-position-init : goal.loop-position-init
loop-position-init c = started_none _

pub latch_at-latch-requires : goal.latch_at-latch-requires
latch_at-latch-requires c =
    omega (arith, started_length c.loop-position.invariant, ap (λ (xs : List Latch). length xs) c.latches-position-end.ensures)

pub loop-position-preserved : goal.loop-position-preserved
loop-position-preserved c =
    started_more c.loop-position.position c.args.circuit.now c.loop-position.circuit c.replace_reset.new.self
    c.latch_at-latch.result.lit c.latch_at-latch.result c.loop-position.invariant c.latch_at-latch.ensures refl c.replace_reset.ensures

pub replace_reset-requires : goal.replace_reset-requires
replace_reset-requires c = latch_here c.loop-position.circuit c.loop-position.position c.latch_at-latch.result c.latch_at-latch.ensures

pub returns : goal.returns
returns c =
    started_all c.loop-position.position c.args.circuit.now c.loop-position.circuit c.loop-position.invariant
    (omega (arith, ap (λ (xs : List Latch). length xs) c.latches-position-end.ensures))

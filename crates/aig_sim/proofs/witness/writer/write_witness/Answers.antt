use Rattle.std.proofs.Common.{arith}
use Rattle.aig_bytes.proofs.WriteLemmas.{writes_then, writes_stop}
use Rattle.aig_sim.proofs.WrittenWitness.{spells_position}
use Rattle.aig_sim.proofs.witness.writer.write_witness.Goals as goal

pub returns-in_err-write_all-clause-written : goal.returns-in_err-write_all-clause-written
returns-in_err-write_all-clause-written g c = writes_stop _ c.in_err-write_all.ensures c.from_residual.ensures.0

pub returns-in_err-write_number-clause-written : goal.returns-in_err-write_number-clause-written
returns-in_err-write_number-clause-written g c =
    writes_then c.in_ok-write_all.ensures
    (writes_stop _ c.in_err-write_number.ensures c.from_residual-in_err-write_number.ensures.0)

pub returns-in_err-write_all-2-clause-written : goal.returns-in_err-write_all-2-clause-written
returns-in_err-write_all-2-clause-written g c =
    writes_then c.in_ok-write_all.ensures
    (writes_then c.in_ok-write_number.ensures
    (writes_stop _ c.in_err-write_all-2.ensures c.from_residual-in_err-write_all-2.ensures.0))

pub returns-clause-written : goal.returns-clause-written
returns-clause-written g c =
    writes_then c.in_ok-write_all.ensures
    (writes_then c.in_ok-write_number.ensures (writes_then c.in_ok-write_all-2.ensures c.write_run.ensures))

pub returns-in_err-write_all-clause-position : goal.returns-in_err-write_all-clause-position
returns-in_err-write_all-clause-position g c = spells_position c.args.property (omega (arith, c.ranges.property.fits))

pub returns-in_err-write_number-clause-position : goal.returns-in_err-write_number-clause-position
returns-in_err-write_number-clause-position g c = spells_position c.args.property (omega (arith, c.ranges.property.fits))

pub returns-in_err-write_all-2-clause-position : goal.returns-in_err-write_all-2-clause-position
returns-in_err-write_all-2-clause-position g c = spells_position c.args.property (omega (arith, c.ranges.property.fits))

pub returns-clause-position : goal.returns-clause-position
returns-clause-position g c = spells_position c.args.property (omega (arith, c.ranges.property.fits))

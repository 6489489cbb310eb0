use Rattle.std.proofs.Common.{arith}
use Rattle.aig_base.proofs.levels.FirstLevels.{first_other, first_low, first_gate}
use Rattle.aig_base.proofs.level.next_level.Goals as goal

pub returns-in_default : goal.returns-in_default
returns-in_default c =
    first_other c.args.circuit.now c.args.levels.now
    (rw c.requires.size at c.in_default.ensures.none) c.requires.levels

pub level_over-requires-clause-first : goal.level_over-requires-clause-first
level_over-requires-clause-first c =
    let smaller = c.reads_smaller.ensures.0 c.if-not-reads_smaller.false in
    omega (arith, smaller.0, c.in-Some.ensures.found.2, c.requires.size)

pub level_over-requires-clause-second : goal.level_over-requires-clause-second
level_over-requires-clause-second c =
    let smaller = c.reads_smaller.ensures.0 c.if-not-reads_smaller.false in
    omega (arith, smaller.1, c.in-Some.ensures.found.2, c.requires.size)

pub level_over-requires-clause-fits : goal.level_over-requires-clause-fits
level_over-requires-clause-fits c =
    let low = first_low c.args.circuit.now c.args.levels.now c.in-Some.gate
    (rw c.requires.size at c.in-Some.ensures.found) (c.reads_smaller.ensures.0 c.if-not-reads_smaller.false)
    c.requires.levels in
    omega (arith, c.requires.size, c.ranges.variable.fits)

pub returns : goal.returns
returns c =
    rw c.level_over.ensures
    (first_gate c.args.circuit.now c.args.levels.now c.in-Some.gate (rw c.requires.size at c.in-Some.ensures.found)
    (c.reads_smaller.ensures.0 c.if-not-reads_smaller.false) c.requires.levels c.facts.ensures.sound)

use Rattle.aig_values.proofs.MemoryBits.{flipped_one, flipped_zero, other_ones, other_zeros}
use Rattle.aig_values.proofs.row.planes.flip.Goals as goal

pub returns-clause-one : goal.returns-clause-one
returns-clause-one c =
    flipped_one c.args.words.now c.args.variable c.requires.within c.args.change c.rotate_left.result c.ranges.change.fits
    c.rotate_left.ensures

pub returns-clause-zero : goal.returns-clause-zero
returns-clause-zero c =
    flipped_zero c.args.words.now c.args.variable c.requires.within c.args.change c.rotate_left.result c.ranges.change.fits
    c.rotate_left.ensures

pub returns-clause-other_ones : goal.returns-clause-other_ones
returns-clause-other_ones c =
    other_ones c.args.words.now c.args.variable c.requires.within c.args.change c.rotate_left.result c.ranges.change.fits
    c.rotate_left.ensures c.requires.alone

pub returns-clause-other_zeros : goal.returns-clause-other_zeros
returns-clause-other_zeros c =
    other_zeros c.args.words.now c.args.variable c.requires.within c.args.change c.rotate_left.result c.ranges.change.fits
    c.rotate_left.ensures c.requires.alone

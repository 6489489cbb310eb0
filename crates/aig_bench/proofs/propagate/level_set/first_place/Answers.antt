use Rattle.aig_bench.proofs.queues.BitPlaces.{no_place, first_set, whole_word}
use Rattle.aig_bench.proofs.propagate.level_set.first_place.Goals as goal

pub returns-then-rest-eq0-clause-least : goal.returns-then-rest-eq0-clause-least
returns-then-rest-eq0-clause-least c = no_place c.args.word c.args.from c.if-rest-eq0.true

pub returns-then-rest-eq0-clause-empty : goal.returns-then-rest-eq0-clause-empty
returns-then-rest-eq0-clause-empty c = whole_word c.args.word c.args.from c.if-rest-eq0.true

pub returns-clause-least : goal.returns-clause-least
returns-clause-least c = first_set c.args.word c.args.from c.ranges.word.fits c.if-rest-eq0.false

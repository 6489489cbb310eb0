use Rattle.std.proofs.Common.{◌-◌, ◌+◌, arith}
use Rattle.aig_shell.proofs.tables.Differing.{none_found, none_outside, one_inside, shows_all, shows_from, shows_last, some_found}
use Rattle.aig_shell.proofs.session.Session.differing_frames.Goals as goal

pub returns-then-count-le-SHOWN-clause-shown : goal.returns-then-count-le-SHOWN-clause-shown
returns-then-count-le-SHOWN-clause-shown c = λ p h. shows_all c.args.self.now.run.bench.pair p c.args.count (omega (arith, c.if-count-le-SHOWN.true))

pub returns-in_default-clause-shown : goal.returns-in_default-clause-shown
returns-in_default-clause-shown c = λ p h.
    shows_last c.args.self.now.run.bench.pair p c.args.count (omega (arith, c.if-count-le-SHOWN.false))
    (none_found c.in_ok-found.found (c.in_ok-found.ensures.same p h) c.in_default.not-Some)

pub returns-in_default-clause-outside : goal.returns-in_default-clause-outside
returns-in_default-clause-outside c = λ p h.
    none_outside c.args.self.now.run.bench.pair p (c.args.count - 64) (c.args.count - (c.args.count - 64)) c.args.count
    (none_found c.in_ok-found.found (c.in_ok-found.ensures.same p h) c.in_default.not-Some)

pub returns-clause-shown : goal.returns-clause-shown
returns-clause-shown c = λ p h.
    shows_from c.args.self.now.run.bench.pair p c.args.count c.in-Some.first c.min-first.result
    (omega (arith, c.if-count-le-SHOWN.false)) (omega (arith, c.min-first.ensures))
    (some_found _ c.in_ok-found.found c.in-Some.first c.in-Some.is (c.in_ok-found.ensures.before p h))
    (some_found _ c.in_ok-found.found c.in-Some.first c.in-Some.is (c.in_ok-found.ensures.differs p h))

pub returns-clause-outside : goal.returns-clause-outside
returns-clause-outside c = λ p h.
    let range = some_found _ c.in_ok-found.found c.in-Some.first c.in-Some.is c.in_ok-found.ensures.range in
    let first = c.min-first.result in
    one_inside c.args.self.now.run.bench.pair p c.in-Some.first first (first + 64 - first) c.args.count
    (omega (arith, c.min-first.ensures)) (omega (arith, c.min-first.ensures, range.1, c.if-count-le-SHOWN.false))
    (some_found _ c.in_ok-found.found c.in-Some.first c.in-Some.is (c.in_ok-found.ensures.differs p h))

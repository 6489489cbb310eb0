use Rattle.std.proofs.Common.{sym, subst, ◌+◌, ◌∙◌, arith}
use Rattle.aig_signals.specs.Signals.{signals_of}
use Rattle.aig_shell.proofs.tables.Differences.{signal_within}
use Rattle.aig_shell.proofs.tables.Differing.{IsLeast, end_less, end_same, least_before, least_differs, least_none, least_same, least_some}
use Rattle.aig_shell.proofs.tables.Differing.{none_found, some_found}
use Rattle.aig_shell.proofs.session.Session.first_frame.Goals.{in-Some, in_default}
use Rattle.aig_shell.proofs.session.Session.first_frame.Goals as goal

pub signal_literals-requires-clause-order : goal.signal_literals-requires-clause-order
signal_literals-requires-clause-order c =
    let there =
    signal_within c.args.self.now.run.bench.pair.circuit c.args.self.now.signals.items c.as_slice-signal-items.result.now
    c.loop-signal.signal-index c.signal-item.result c.as_slice-signal-items.ensures.value c.args.self.now.has_signals c.loop-signal-test.true
    c.signal-item.is in
    omega (arith, there.0)

pub signal_literals-requires-clause-within : goal.signal_literals-requires-clause-within
signal_literals-requires-clause-within c =
    let there =
    signal_within c.args.self.now.run.bench.pair.circuit c.args.self.now.signals.items c.as_slice-signal-items.result.now
    c.loop-signal.signal-index c.signal-item.result c.as_slice-signal-items.ensures.value c.args.self.now.has_signals c.loop-signal-test.true
    c.signal-item.is in
    there.1

pub loop-signal-preserved : goal.loop-signal-preserved
loop-signal-preserved c =
    let now = c.args.self.now.run.bench.pair in
    let items = c.as_slice-signal-items.result.now in
    let i = c.loop-signal.signal-index in
    let signal = c.signal-item.result in
    let before = c.loop-signal.invariant in
    let are = c.in_ok-literals.ensures.are in
    let lt = c.loop-signal-test.true in
    let is = c.signal-item.is in
    elim c.match-found.branch [
      | in-Some w ↦
          let range = some_found _ c.in_ok-found.found w.in-Some.frame w.in-Some.is c.in_ok-found.ensures.range in
          record {
            end = end_less c.args.first c.args.end c.loop-signal.least c.match-found.least c.loop-signal.end c.match-found.end
                w.in-Some.frame w.least-is w.end-is range before.end;
            least = λ p h. subst (IsLeast now p c.args.first c.args.end items (i + 1)) (sym w.least-is)
                (least_differs now p c.args.first c.args.end items i signal c.loop-signal.least c.loop-signal.end w.in-Some.frame lt is
                before.end range.1
                (some_found _ c.in_ok-found.found w.in-Some.frame w.in-Some.is (c.in_ok-found.ensures.differs signal are p h))
                (some_found _ c.in_ok-found.found w.in-Some.frame w.in-Some.is (c.in_ok-found.ensures.before signal are p h))
                (before.least p h));
          }
      | in_default w ↦
          record {
            end = end_same c.args.first c.args.end c.loop-signal.least c.match-found.least c.loop-signal.end c.match-found.end w.least-is
                w.end-is before.end;
            least = λ p h. subst (IsLeast now p c.args.first c.args.end items (i + 1)) (sym w.least-is)
                (least_same now p c.args.first c.args.end items i signal c.loop-signal.least c.loop-signal.end lt is before.end
                (none_found c.in_ok-found.found (c.in_ok-found.ensures.same signal are p h) w.in_default.not-Some) (before.least p h));
          }
    ]

pub returns-clause-differs : goal.returns-clause-differs
returns-clause-differs c = λ p h.
    let now = c.args.self.now.run.bench.pair in
    least_some now p c.args.first c.args.end c.as_slice-signal-items.result.now c.loop-signal.signal-index c.loop-signal.least
    (signals_of now.circuit) (c.as_slice-signal-items.ensures.value ∙ c.args.self.now.has_signals) (omega (arith, c.loop-signal-test.false))
    (c.loop-signal.invariant.least p h)

pub returns-clause-before : goal.returns-clause-before
returns-clause-before c = λ p h.
    let now = c.args.self.now.run.bench.pair in
    least_before now p c.args.first c.args.end c.as_slice-signal-items.result.now c.loop-signal.signal-index c.loop-signal.least
    (signals_of now.circuit) (c.as_slice-signal-items.ensures.value ∙ c.args.self.now.has_signals) (omega (arith, c.loop-signal-test.false))
    (c.loop-signal.invariant.least p h)

pub returns-clause-same : goal.returns-clause-same
returns-clause-same c = λ p h.
    let now = c.args.self.now.run.bench.pair in
    least_none now p c.args.first c.args.end c.as_slice-signal-items.result.now c.loop-signal.signal-index c.loop-signal.least
    (signals_of now.circuit) (c.as_slice-signal-items.ensures.value ∙ c.args.self.now.has_signals) (omega (arith, c.loop-signal-test.false))
    (c.loop-signal.invariant.least p h)

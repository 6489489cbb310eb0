use Rattle.std.proofs.Common.{arith, subst}
use Rattle.aig_base.specs.Circuit.{IsCircuit}
use Rattle.aig_shell.proofs.tables.OneCell.{texts_same, texts_differ, same_more}
use Rattle.aig_shell.proofs.session.Session.first_difference.Goals as goal

pub loop-frame-init : goal.loop-frame-init
loop-frame-init c = λ signal are p h t a b from to n w. absurd (omega (arith, from, to))

pub returns-then-not-are_same-clause-differs : goal.returns-then-not-are_same-clause-differs
returns-then-not-are_same-clause-differs c = λ signal are p h.
    let texts = c.in_ok-fill.ensures signal are in (
      c.loop-frame.frame,
      c.fill.new.cells.current.items,
      c.fill.new.cells.was.items,
      omega arith,
      omega arith,
      texts.current,
      texts.was p h,
      texts_differ _ _ c.are_same.result c.are_same.ensures c.if-not-are_same.true,
    )

pub returns-then-not-are_same-clause-before : goal.returns-then-not-are_same-clause-before
returns-then-not-are_same-clause-before c = λ signal are p h. c.loop-frame.invariant signal are p h

pub loop-frame-preserved : goal.loop-frame-preserved
loop-frame-preserved c = λ signal are p h.
    let texts = c.in_ok-fill.ensures signal are in
    same_more c.args.self.now.run.bench.pair p signal c.args.first c.loop-frame.frame c.fill.new.cells.current.items
    c.fill.new.cells.was.items (subst IsCircuit c.circuit.ensures c.facts.ensures) h.keeps.circuit texts.current (texts.was p h)
    (texts_same _ _ c.are_same.result c.are_same.ensures c.if-not-are_same.false) (c.loop-frame.invariant signal are p h)

pub returns-clause-same : goal.returns-clause-same
returns-clause-same c = λ signal are p h t a b from to n w.
    c.loop-frame.invariant signal are p h t a b from (omega (arith, to, c.loop-frame-test.false)) n w

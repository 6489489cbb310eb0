use Rattle.std.proofs.Common.{length, sym, ◌∙◌, arith}
use Rattle.aig_signals.specs.Lookup.{has_name}
use Rattle.aig_signals.specs.Names.{literals_of}
use Rattle.aig_signals.proofs.Lookups.{least_start, least_next, least_is, least_none}
use Rattle.aig_signals.proofs.lookup.NameSearch.position_in.Goals as goal

pub loop-position-init : goal.loop-position-init
loop-position-init c = least_start (has_name c.args.self.now.circuit.now c.args.self.now.name.now c.args.rule c.args.kind)

pub loop-position-preserved : goal.loop-position-preserved
loop-position-preserved c =
    least_next (has_name c.args.self.now.circuit.now c.args.self.now.name.now c.args.rule c.args.kind) c.loop-position.position c.loop-position.invariant
    (sym c.in_ok-has.ensures ∙ c.if-has.false)

pub returns-then-has-clause-named : goal.returns-then-has-clause-named
returns-then-has-clause-named c =
    sym (least_is (has_name c.args.self.now.circuit.now c.args.self.now.name.now c.args.rule c.args.kind) c.loop-position.position
    (length (literals_of c.args.self.now.circuit.now c.args.kind)) c.loop-position.invariant (sym c.in_ok-has.ensures ∙ c.if-has.true)
    (omega (arith, c.loop-position-test.true, c.count_of-position-end.ensures.count)))

pub returns-clause-named : goal.returns-clause-named
returns-clause-named c =
    sym (least_none (has_name c.args.self.now.circuit.now c.args.self.now.name.now c.args.rule c.args.kind) c.loop-position.position
    (length (literals_of c.args.self.now.circuit.now c.args.kind)) c.loop-position.invariant
    (omega (arith, c.loop-position-test.false, c.count_of-position-end.ensures.count)))

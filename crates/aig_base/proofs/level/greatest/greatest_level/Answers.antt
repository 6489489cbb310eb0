use Rattle.std.proofs.Common.{◌≡◌, ◌<◌, max, get_or, length, ap, subst, arith}
use Rattle.aig_base.specs.Grounded as by
use Rattle.aig_parts.specs.Literal.{variable}
use Rattle.aig_base.proofs.circuits.Gates.{gate_in_range, IsGate-of_gate}
use Rattle.aig_base.proofs.levels.GreatestLemmas.{level_listed, reached_more, within_more, greatest_so}
use Rattle.aig_base.proofs.fan_outs.ReaderLists.{gate_at}
use Rattle.aig_base.proofs.level.greatest.greatest_level.Goals as goal

pub loop-gate-init : goal.loop-gate-init
loop-gate-init c = record {
  reached = (0, by.Level.source 0 by.IsSource.constant);
  within = λ q g lt at. absurd (omega arith);
}

pub bounds-levels-variable : goal.bounds-levels-variable
bounds-levels-variable c =
    let raw = c.args.circuit.now in
    let at = gate_at raw _ _ _ c.gates-gate-items.ensures c.loop-gate-test.true c.gate-item.is in
    let le = gate_in_range raw c.facts.ensures.sound _ (IsGate-of_gate raw _ _ at) in
    omega (arith, c.requires.size, c.var-variable.ensures)

pub loop-gate-preserved : goal.loop-gate-preserved
loop-gate-preserved c =
    let raw = c.args.circuit.now in
    let levels = c.args.levels.now in
    let g = c.gate-item.result in
    let at = gate_at raw _ _ _ c.gates-gate-items.ensures c.loop-gate-test.true c.gate-item.is in
    let le = gate_in_range raw c.facts.ensures.sound _ (IsGate-of_gate raw _ _ at) in
    let within : variable g.lhs < length levels = omega (arith, c.requires.size) in
    let here = level_listed raw levels _ g c.requires c.facts.ensures at within in
    let greater : c.max-greatest.result ≡ max (get_or levels (variable g.lhs) 0) c.loop-gate.greatest =
    subst (λ v. c.max-greatest.result ≡ max (get_or levels v 0) c.loop-gate.greatest) c.var-variable.ensures
    c.max-greatest.ensures in
    record {
      reached = reached_more raw _ _ _ _ greater here c.loop-gate.invariant.reached;
      within = within_more raw levels _ _ _ g at greater c.loop-gate.invariant.within;
    }

pub returns : goal.returns
returns c =
    greatest_so c.args.circuit.now c.args.levels.now c.loop-gate.gate-index c.loop-gate.greatest c.requires
    (let past = c.loop-gate-test.false in omega (arith, ap length c.gates-gate-items.ensures))
    c.loop-gate.invariant.reached c.loop-gate.invariant.within

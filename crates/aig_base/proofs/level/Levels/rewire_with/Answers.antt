use Rattle.std.proofs.Common.{ap, subst}
use Rattle.aig_parts.specs.Literal.{variable}
use Rattle.aig_base.specs.Sections.{IsGate}
use Rattle.aig_base.proofs.rewires.FanOutLemmas.{acyclic_from_before, cycle_from_fan_out}
use Rattle.aig_base.proofs.circuits.Gates.{IsGate-of_gate}
use Rattle.aig_base.proofs.checks.Walks.{the_gate}
use Rattle.aig_base.proofs.level.Levels.rewire_with.Goals as goal

pub closes_cycle-requires-clause-gate : goal.closes_cycle-requires-clause-gate
closes_cycle-requires-clause-gate g c =
    let raw = c.args.circuit.now in
    let (g, q, at, is) = the_gate raw c.facts.ensures.sound c.args.gate c.args.r0 c.args.r1 c.requires.gate in
    subst (IsGate raw) (ap variable is) (IsGate-of_gate raw q g at)

pub returns-then-closes_cycle-clause-cycle : goal.returns-then-closes_cycle-clause-cycle
returns-then-closes_cycle-clause-cycle g c =
    cycle_from_fan_out c.args.circuit.now c.facts.ensures.sound c.args.gate c.args.r0 c.args.r1 c.requires.gate
    c.if-closes_cycle.ensures.reached

pub returns-clause-acyclic : goal.returns-clause-acyclic
returns-clause-acyclic g c =
    let apart = c.if-closes_cycle.ensures.none in
    acyclic_from_before c.args.circuit.now c.facts.ensures.sound c.args.gate c.args.r0 c.args.r1
    c.requires.gate
    c.facts.ensures.acyclic c.requires.defined0 c.requires.defined1 apart.0 apart.1

pub renew-requires-clause-changed : goal.renew-requires-clause-changed
renew-requires-clause-changed g c =
    let apart = c.if-closes_cycle.ensures.none in
    record {
      gate = c.requires.gate;
      defined0 = c.requires.defined0;
      defined1 = c.requires.defined1;
      apart0 = apart.0;
      apart1 = apart.1;
    }

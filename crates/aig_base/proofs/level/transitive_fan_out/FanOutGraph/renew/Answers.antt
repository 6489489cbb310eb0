use Rattle.std.proofs.Common.{◌∙◌, length, sym, subst, arith}
use Rattle.aig_base.specs.state.Visits.{AreNoVisits}
use Rattle.aig_base.proofs.rewires.QueueLemmas.{idle_room}
use Rattle.aig_parts.specs.Literal.{variable}
use Rattle.aig_base.proofs.circuits.Gates.{defined_in_range}
use Rattle.aig_base.proofs.rewires.LevelSteps.{left_step}
use Rattle.aig_base.proofs.rewires.Passes.{changed_fits, changed_low, changed_wait, gate_within}
use Rattle.aig_base.proofs.rewires.Passes.{passed_first, passed_more, passed_all}
use Rattle.aig_base.proofs.rewires.Passes.{popped_fits, popped_low, popped_met, popped_wait, popped_wide}
use Rattle.aig_base.proofs.rewires.Passes.{popped_gate, popped_room, popped_sides, popped_size, popped_within}
use Rattle.aig_base.specs.Readers.{list_of}
use Rattle.aig_base.specs.state.Descent.{level_above}
use Rattle.aig_base.proofs.level.transitive_fan_out.FanOutGraph.renew.Goals as goal

pub renew_gate-requires-clause-first : goal.renew_gate-requires-clause-first
renew_gate-requires-clause-first g c =
    let low = defined_in_range c.args.self.now.circuit.now c.facts.ensures.sound (variable c.args.changed.now.rhs0)
    c.requires.changed.defined0 in
    omega (arith, c.requires.levels.size)

pub renew_gate-requires-clause-second : goal.renew_gate-requires-clause-second
renew_gate-requires-clause-second g c =
    let low = defined_in_range c.args.self.now.circuit.now c.facts.ensures.sound (variable c.args.changed.now.rhs1)
    c.requires.changed.defined1 in
    omega (arith, c.requires.levels.size)

pub renew_gate-requires-clause-level : goal.renew_gate-requires-clause-level
renew_gate-requires-clause-level g c =
    changed_fits c.args.self.now.circuit.now c.facts.ensures c.args.changed.now.lhs c.args.changed.now.rhs0
    c.args.changed.now.rhs1
    c.requires.changed.gate c.requires.changed.defined0 c.requires.changed.defined1 c.requires.changed.apart0
    c.requires.changed.apart1 c.args.levels.now
    c.requires.levels
    c.args.self.now.readers.now c.requires.readers

pub renew_gate-requires-clause-left : goal.renew_gate-requires-clause-left
renew_gate-requires-clause-left g c =
    gate_within c.args.self.now.circuit.now c.facts.ensures c.args.changed.now.lhs
    c.args.changed.now.rhs0 c.args.changed.now.rhs1
    c.requires.changed.gate c.requires.changed.defined0 c.requires.changed.defined1 c.requires.changed.apart0
    c.requires.changed.apart1 c.args.levels.now
    c.requires.levels
    c.args.self.now.readers.now c.requires.readers

pub renew_gate-requires-clause-readers : goal.renew_gate-requires-clause-readers
renew_gate-requires-clause-readers g c =
    let lt = gate_within c.args.self.now.circuit.now c.facts.ensures c.args.changed.now.lhs c.args.changed.now.rhs0
    c.args.changed.now.rhs1
    c.requires.changed.gate c.requires.changed.defined0 c.requires.changed.defined1 c.requires.changed.apart0
    c.requires.changed.apart1 c.args.levels.now
    c.requires.levels
    c.args.self.now.readers.now c.requires.readers in
    omega (arith, c.requires.levels.size, c.requires.readers.size)

pub renew_gate-requires-clause-wait : goal.renew_gate-requires-clause-wait
renew_gate-requires-clause-wait g c =
    changed_wait c.args.self.now.circuit.now c.facts.ensures c.args.changed.now.lhs c.args.changed.now.rhs0
    c.args.changed.now.rhs1
    c.requires.changed.gate c.requires.changed.defined0 c.requires.changed.defined1 c.requires.changed.apart0
    c.requires.changed.apart1 c.args.levels.now
    c.requires.levels
    c.args.self.now.readers.now c.requires.readers

pub renew_gate-requires-clause-low : goal.renew_gate-requires-clause-low
renew_gate-requires-clause-low g c =
    changed_low c.args.self.now.circuit.now c.facts.ensures c.args.changed.now.lhs c.args.changed.now.rhs0
    c.args.changed.now.rhs1
    c.requires.changed.gate c.requires.changed.defined0 c.requires.changed.defined1 c.requires.changed.apart0
    c.requires.changed.apart1 c.args.levels.now
    c.requires.levels
    c.args.self.now.readers.now c.requires.readers

pub loop-variable-init : goal.loop-variable-init
loop-variable-init g c = record {
  pass = passed_first c.args.self.now.circuit.now c.facts.ensures c.args.changed.now.lhs c.args.changed.now.rhs0
      c.args.changed.now.rhs1
      c.requires.changed.gate c.requires.changed.defined0 c.requires.changed.defined1 c.requires.changed.apart0
      c.requires.changed.apart1 c.args.levels.now
      c.requires.levels
      c.args.self.now.readers.now c.requires.readers
      c.renew_gate.new.levels c.args.worklist.now.visits c.renew_gate.new.worklist.visits c.args.worklist.now.queue
      c.renew_gate.new.worklist.queue
      c.requires.idle.visits c.requires.idle.queue c.renew_gate.ensures.sets;
  copy = c.renew_gate.ensures.copy;
  rest = c.renew_gate.ensures.rest;
}

pub renew_gate-requires-in-Some-gate_of-clause-first : goal.renew_gate-requires-in-Some-gate_of-clause-first
renew_gate-requires-in-Some-gate_of-clause-first g c =
    (popped_sides c.args.self.now.circuit.now c.facts.ensures c.args.changed.now.lhs c.args.changed.now.rhs0
    c.args.changed.now.rhs1
    c.requires.changed.gate c.requires.changed.defined0 c.requires.changed.defined1 c.requires.changed.apart0
    c.requires.changed.apart1 c.args.levels.now
    c.requires.levels
    c.args.self.now.readers.now c.requires.readers
    c.loop-variable.levels c.loop-variable.worklist.visits c.loop-variable.worklist.queue c.pop.new.self
    c.loop-variable.invariant.pass c.in-Some.ensures.some.0 c.in-Some.variable c.in-Some.ensures.some.1
    c.in-Some.ensures.some.2
    c.in-Some.ensures.capacity
    c.in-Some-gate_of.ensures.found.0 c.in-Some-gate_of.gate
    c.in-Some-gate_of.ensures.found.1 c.in-Some-gate_of.ensures.found.2).0

pub renew_gate-requires-in-Some-gate_of-clause-second :
    goal.renew_gate-requires-in-Some-gate_of-clause-second
renew_gate-requires-in-Some-gate_of-clause-second g c =
    (popped_sides c.args.self.now.circuit.now c.facts.ensures c.args.changed.now.lhs c.args.changed.now.rhs0
    c.args.changed.now.rhs1
    c.requires.changed.gate c.requires.changed.defined0 c.requires.changed.defined1 c.requires.changed.apart0
    c.requires.changed.apart1 c.args.levels.now
    c.requires.levels
    c.args.self.now.readers.now c.requires.readers
    c.loop-variable.levels c.loop-variable.worklist.visits c.loop-variable.worklist.queue c.pop.new.self
    c.loop-variable.invariant.pass c.in-Some.ensures.some.0 c.in-Some.variable c.in-Some.ensures.some.1
    c.in-Some.ensures.some.2
    c.in-Some.ensures.capacity
    c.in-Some-gate_of.ensures.found.0 c.in-Some-gate_of.gate
    c.in-Some-gate_of.ensures.found.1 c.in-Some-gate_of.ensures.found.2).1

pub renew_gate-requires-in-Some-gate_of-clause-level : goal.renew_gate-requires-in-Some-gate_of-clause-level
renew_gate-requires-in-Some-gate_of-clause-level g c =
    popped_fits c.args.self.now.circuit.now c.facts.ensures c.args.changed.now.lhs c.args.changed.now.rhs0
    c.args.changed.now.rhs1
    c.requires.changed.gate c.requires.changed.defined0 c.requires.changed.defined1 c.requires.changed.apart0
    c.requires.changed.apart1 c.args.levels.now
    c.requires.levels
    c.args.self.now.readers.now c.requires.readers
    c.loop-variable.levels c.loop-variable.worklist.visits c.loop-variable.worklist.queue c.pop.new.self
    c.loop-variable.invariant.pass c.in-Some.ensures.some.0 c.in-Some.variable c.in-Some.ensures.some.1
    c.in-Some.ensures.some.2
    c.in-Some.ensures.capacity
    c.in-Some-gate_of.ensures.found.0 c.in-Some-gate_of.gate
    c.in-Some-gate_of.ensures.found.1 c.in-Some-gate_of.ensures.found.2

pub renew_gate-requires-in-Some-gate_of-clause-left : goal.renew_gate-requires-in-Some-gate_of-clause-left
renew_gate-requires-in-Some-gate_of-clause-left g c =
    rw c.in-Some-gate_of.ensures.found.2
    (popped_within c.args.self.now.circuit.now c.facts.ensures c.args.changed.now.lhs c.args.changed.now.rhs0
    c.args.changed.now.rhs1
    c.requires.changed.gate c.requires.changed.defined0 c.requires.changed.defined1 c.requires.changed.apart0
    c.requires.changed.apart1 c.args.levels.now
    c.requires.levels
    c.args.self.now.readers.now c.requires.readers
    c.loop-variable.levels c.loop-variable.worklist.visits c.loop-variable.worklist.queue c.pop.new.self
    c.loop-variable.invariant.pass c.in-Some.ensures.some.0 c.in-Some.variable c.in-Some.ensures.some.1
    c.in-Some.ensures.some.2
    c.in-Some.ensures.capacity)

pub renew_gate-requires-in-Some-gate_of-clause-readers : goal.renew_gate-requires-in-Some-gate_of-clause-readers
renew_gate-requires-in-Some-gate_of-clause-readers g c =
    let lt = popped_within c.args.self.now.circuit.now c.facts.ensures c.args.changed.now.lhs c.args.changed.now.rhs0
    c.args.changed.now.rhs1
    c.requires.changed.gate c.requires.changed.defined0 c.requires.changed.defined1 c.requires.changed.apart0
    c.requires.changed.apart1 c.args.levels.now
    c.requires.levels
    c.args.self.now.readers.now c.requires.readers
    c.loop-variable.levels c.loop-variable.worklist.visits c.loop-variable.worklist.queue c.pop.new.self
    c.loop-variable.invariant.pass c.in-Some.ensures.some.0 c.in-Some.variable c.in-Some.ensures.some.1
    c.in-Some.ensures.some.2
    c.in-Some.ensures.capacity in
    let same = c.loop-variable.invariant.pass.renewing.size in
    omega (arith, c.requires.levels.size, c.requires.readers.size, c.in-Some-gate_of.ensures.found.2)

pub renew_gate-requires-in-Some-gate_of-clause-wait : goal.renew_gate-requires-in-Some-gate_of-clause-wait
renew_gate-requires-in-Some-gate_of-clause-wait g c =
    rw c.in-Some-gate_of.ensures.found.2
    (popped_wait c.args.self.now.circuit.now c.facts.ensures c.args.changed.now.lhs c.args.changed.now.rhs0
    c.args.changed.now.rhs1
    c.requires.changed.gate c.requires.changed.defined0 c.requires.changed.defined1 c.requires.changed.apart0
    c.requires.changed.apart1 c.args.levels.now
    c.requires.levels
    c.args.self.now.readers.now c.requires.readers
    c.loop-variable.levels c.loop-variable.worklist.visits c.loop-variable.worklist.queue c.pop.new.self
    c.loop-variable.invariant.pass c.in-Some.ensures.some.0 c.in-Some.variable c.in-Some.ensures.some.1
    c.in-Some.ensures.some.2
    c.in-Some.ensures.capacity)

pub renew_gate-requires-in-Some-gate_of-clause-low : goal.renew_gate-requires-in-Some-gate_of-clause-low
renew_gate-requires-in-Some-gate_of-clause-low g c =
    popped_low c.args.self.now.circuit.now c.facts.ensures c.args.changed.now.lhs c.args.changed.now.rhs0
    c.args.changed.now.rhs1
    c.requires.changed.gate c.requires.changed.defined0 c.requires.changed.defined1 c.requires.changed.apart0
    c.requires.changed.apart1 c.args.levels.now
    c.requires.levels
    c.args.self.now.readers.now c.requires.readers
    c.loop-variable.levels c.loop-variable.worklist.visits c.loop-variable.worklist.queue c.pop.new.self
    c.loop-variable.invariant.pass c.in-Some.ensures.some.0 c.in-Some.variable c.in-Some.ensures.some.1
    c.in-Some.ensures.some.2
    c.in-Some.ensures.capacity
    c.in-Some-gate_of.ensures.found.0 c.in-Some-gate_of.gate
    c.in-Some-gate_of.ensures.found.1 c.in-Some-gate_of.ensures.found.2

pub renew_gate-requires-clause-room : goal.renew_gate-requires-clause-room
renew_gate-requires-clause-room g c = idle_room (length c.args.levels.now) c.args.worklist.now c.requires.idle

pub renew_gate-requires-in-Some-gate_of-clause-room : goal.renew_gate-requires-in-Some-gate_of-clause-room
renew_gate-requires-in-Some-gate_of-clause-room g c =
    record {
      marks = c.loop-variable.invariant.pass.size ∙ sym c.loop-variable.invariant.pass.renewing.size;
      visits = c.loop-variable.invariant.pass.visits;
      queue = popped_room c.args.self.now.circuit.now c.facts.ensures c.args.changed.now.lhs c.args.changed.now.rhs0
          c.args.changed.now.rhs1
          c.requires.changed.gate c.requires.changed.defined0 c.requires.changed.defined1 c.requires.changed.apart0
          c.requires.changed.apart1 c.args.levels.now
          c.requires.levels
          c.args.self.now.readers.now c.requires.readers
          c.loop-variable.levels c.loop-variable.worklist.visits c.loop-variable.worklist.queue c.pop.new.self
          c.loop-variable.invariant.pass c.in-Some.ensures.some.0 c.in-Some.variable c.in-Some.ensures.some.1
          c.in-Some.ensures.some.2
          c.in-Some.ensures.capacity;
      wide = popped_wide c.args.self.now.circuit.now c.facts.ensures c.args.changed.now.lhs c.args.changed.now.rhs0
          c.args.changed.now.rhs1
          c.requires.changed.gate c.requires.changed.defined0 c.requires.changed.defined1 c.requires.changed.apart0
          c.requires.changed.apart1 c.args.levels.now
          c.requires.levels
          c.args.self.now.readers.now c.requires.readers
          c.loop-variable.levels c.loop-variable.worklist.visits c.loop-variable.worklist.queue c.pop.new.self
          c.loop-variable.invariant.pass c.in-Some.ensures.some.0 c.in-Some.variable c.in-Some.ensures.some.1
          c.in-Some.ensures.some.2
          c.in-Some.ensures.capacity;
      met = popped_met c.args.self.now.circuit.now c.facts.ensures c.args.changed.now.lhs c.args.changed.now.rhs0
          c.args.changed.now.rhs1
          c.requires.changed.gate c.requires.changed.defined0 c.requires.changed.defined1 c.requires.changed.apart0
          c.requires.changed.apart1 c.args.levels.now
          c.requires.levels
          c.args.self.now.readers.now c.requires.readers
          c.loop-variable.levels c.loop-variable.worklist.visits c.loop-variable.worklist.queue c.pop.new.self
          c.loop-variable.invariant.pass c.in-Some.ensures.some.0 c.in-Some.variable c.in-Some.ensures.some.1
          c.in-Some.ensures.some.2
          c.in-Some.ensures.capacity;
    }

pub loop-variable-smaller-in-Some-gate_of : goal.loop-variable-smaller-in-Some-gate_of
loop-variable-smaller-in-Some-gate_of g c =
    let less = popped_size c.args.self.now.circuit.now c.facts.ensures c.args.changed.now.lhs c.args.changed.now.rhs0
    c.args.changed.now.rhs1
    c.requires.changed.gate c.requires.changed.defined0 c.requires.changed.defined1 c.requires.changed.apart0
    c.requires.changed.apart1 c.args.levels.now
    c.requires.levels
    c.args.self.now.readers.now c.requires.readers
    c.loop-variable.levels c.loop-variable.worklist.visits c.loop-variable.worklist.queue c.pop.new.self
    c.loop-variable.invariant.pass c.in-Some.ensures.some.0 c.in-Some.variable c.in-Some.ensures.some.1
    c.in-Some.ensures.some.2
    c.in-Some.ensures.capacity in
    let gate = c.in-Some-gate_of.gate in
    let left = left_step (list_of c.args.self.now.readers.now (variable gate.lhs)) (variable gate.lhs)
    (level_above c.loop-variable.levels gate) c.loop-variable.levels c.renew_gate-in-Some-gate_of.new.levels
    c.loop-variable.worklist.visits c.renew_gate-in-Some-gate_of.new.worklist.visits c.pop.new.self c.renew_gate-in-Some-gate_of.new.worklist.queue
    c.renew_gate-in-Some-gate_of.ensures.sets in
    omega arith

pub loop-variable-preserved-in-Some-gate_of : goal.loop-variable-preserved-in-Some-gate_of
loop-variable-preserved-in-Some-gate_of g c = record {
  pass = passed_more c.args.self.now.circuit.now c.facts.ensures c.args.changed.now.lhs c.args.changed.now.rhs0
      c.args.changed.now.rhs1
      c.requires.changed.gate c.requires.changed.defined0 c.requires.changed.defined1 c.requires.changed.apart0
      c.requires.changed.apart1 c.args.levels.now
      c.requires.levels
      c.args.self.now.readers.now c.requires.readers
      c.loop-variable.levels c.loop-variable.worklist.visits c.loop-variable.worklist.queue c.pop.new.self
      c.loop-variable.invariant.pass c.in-Some.ensures.some.0 c.in-Some.variable c.in-Some.ensures.some.1
      c.in-Some.ensures.some.2
      c.in-Some.ensures.capacity
      c.in-Some-gate_of.ensures.found.0 c.in-Some-gate_of.gate
      c.in-Some-gate_of.ensures.found.1 c.in-Some-gate_of.ensures.found.2
      c.renew_gate-in-Some-gate_of.new.levels c.renew_gate-in-Some-gate_of.new.worklist.visits c.renew_gate-in-Some-gate_of.new.worklist.queue
      (rw c.in-Some-gate_of.ensures.found.2 at c.renew_gate-in-Some-gate_of.ensures.sets);
  copy = c.renew_gate-in-Some-gate_of.ensures.copy;
  rest = c.renew_gate-in-Some-gate_of.ensures.rest ∙ c.loop-variable.invariant.rest;
}

pub loop-variable-smaller : goal.loop-variable-smaller
loop-variable-smaller g c =
    absurd (c.in_default-gate_of.ensures.none (popped_gate c.args.self.now.circuit.now c.facts.ensures
    c.args.changed.now.lhs c.args.changed.now.rhs0 c.args.changed.now.rhs1
    c.requires.changed.gate c.requires.changed.defined0 c.requires.changed.defined1 c.requires.changed.apart0
    c.requires.changed.apart1 c.args.levels.now
    c.requires.levels
    c.args.self.now.readers.now c.requires.readers
    c.loop-variable.levels c.loop-variable.worklist.visits c.loop-variable.worklist.queue c.pop.new.self
    c.loop-variable.invariant.pass c.in-Some.ensures.some.0 c.in-Some.variable c.in-Some.ensures.some.1
    c.in-Some.ensures.some.2
    c.in-Some.ensures.capacity))

pub loop-variable-preserved : goal.loop-variable-preserved
loop-variable-preserved g c =
    absurd (c.in_default-gate_of.ensures.none (popped_gate c.args.self.now.circuit.now c.facts.ensures
    c.args.changed.now.lhs c.args.changed.now.rhs0 c.args.changed.now.rhs1
    c.requires.changed.gate c.requires.changed.defined0 c.requires.changed.defined1 c.requires.changed.apart0
    c.requires.changed.apart1 c.args.levels.now
    c.requires.levels
    c.args.self.now.readers.now c.requires.readers
    c.loop-variable.levels c.loop-variable.worklist.visits c.loop-variable.worklist.queue c.pop.new.self
    c.loop-variable.invariant.pass c.in-Some.ensures.some.0 c.in-Some.variable c.in-Some.ensures.some.1
    c.in-Some.ensures.some.2
    c.in-Some.ensures.capacity))

pub returns-clause-levels : goal.returns-clause-levels
returns-clause-levels g c =
    passed_all c.args.self.now.circuit.now c.facts.ensures c.args.changed.now.lhs c.args.changed.now.rhs0
    c.args.changed.now.rhs1
    c.requires.changed.gate c.requires.changed.defined0 c.requires.changed.defined1 c.requires.changed.apart0
    c.requires.changed.apart1 c.args.levels.now
    c.requires.levels
    c.args.self.now.readers.now c.requires.readers
    c.loop-variable.levels c.loop-variable.worklist.visits c.loop-variable.worklist.queue c.loop-variable.invariant.pass
    c.in_default.ensures.none

pub returns-clause-idle : goal.returns-clause-idle
returns-clause-idle g c =
    let pass = c.loop-variable.invariant.pass in
    let fits = pass.fits_queue in
    record {
      visits = subst (λ n. AreNoVisits n c.clear.new.self) pass.size c.clear.ensures;
      queue = record {
        empty = c.in_default.ensures.left;
        room = omega (arith, c.pop.ensures.capacity);
      };
    }

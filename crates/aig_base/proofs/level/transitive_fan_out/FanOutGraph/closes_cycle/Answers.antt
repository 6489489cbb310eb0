use Rattle.std.proofs.Common.{inl, inr, subst, sym, arith}
use Rattle.aig_parts.specs.Literal.{variable}
use Rattle.aig_base.specs.Sections.{IsDefined, IsGate}
use Rattle.aig_base.specs.state.Rewires.{IsApart, IsInFanOut}
use Rattle.aig_base.proofs.circuits.Gates.{defined_in_range}
use Rattle.aig_base.proofs.rewires.Searches.{apart_at, on_false}
use Rattle.aig_base.proofs.level.transitive_fan_out.FanOutGraph.closes_cycle.Goals as goal
use Rattle.aig_base.proofs.level.transitive_fan_out.FanOutGraph.closes_cycle.Goals.{then-first-gate-via-then-first-gate}
use Rattle.aig_base.proofs.level.transitive_fan_out.FanOutGraph.closes_cycle.Goals.{then-first-gate-via-else-first-gate+then-second-gate}

pub returns-then-first-gate-clause-reached : goal.returns-then-first-gate-clause-reached
returns-then-first-gate-clause-reached c =
    let raw = c.args.self.now.circuit.now in
    rw (← c.var-gate.ensures, ← c.var-first.ensures, ← c.var-second.ensures)
    (elim c.then-first-gate.branch [
      | then-first-gate-via-then-first-gate w ↦
          inl (subst (IsInFanOut raw c.var-gate.result) (sym w.if-first-gate.true) IsInFanOut.self)
      | then-first-gate-via-else-first-gate+then-second-gate w ↦
          inr (subst (IsInFanOut raw c.var-gate.result) (sym w.if-second-gate.true) IsInFanOut.self)
    ])

pub bounds-levels-first : goal.bounds-levels-first
bounds-levels-first c =
    let low = defined_in_range c.args.self.now.circuit.now c.facts.ensures.sound (variable c.args.changed.now.rhs0)
    c.requires.defined0 in
    omega (arith, c.requires.levels.size, c.var-first.ensures)

pub bounds-levels-second : goal.bounds-levels-second
bounds-levels-second c =
    let low = defined_in_range c.args.self.now.circuit.now c.facts.ensures.sound (variable c.args.changed.now.rhs1)
    c.requires.defined1 in
    omega (arith, c.requires.levels.size, c.var-second.ensures)

pub search-found-requires-clause-gate : goal.search-found-requires-clause-gate
search-found-requires-clause-gate c =
    subst (IsGate c.args.self.now.circuit.now) (sym c.var-gate.ensures) c.requires.gate

pub returns-clause-reached : goal.returns-clause-reached
returns-clause-reached c =
    rw (← c.var-gate.ensures, ← c.var-first.ensures, ← c.var-second.ensures) c.search-found.ensures.found

pub returns-clause-none : goal.returns-clause-none
returns-clause-none c =
    let raw = c.args.self.now.circuit.now in
    let gate = c.var-gate.result in
    let first = c.var-first.result in
    let second = c.var-second.result in
    let bound = c.max-bound.result in
    rw (← c.var-gate.ensures, ← c.var-first.ensures, ← c.var-second.ensures)
    (on_false c.search-found.result (IsApart raw gate bound first × IsApart raw gate bound second) _
    (λ apart. (
      apart_at raw c.facts.ensures c.args.levels.now c.requires.levels gate bound first
          (subst (IsDefined raw) (sym c.var-first.ensures) c.requires.defined0)
          c.if-first-gate.false (omega (arith, c.max-bound.ensures)) apart.0,
      apart_at raw c.facts.ensures c.args.levels.now c.requires.levels gate bound second
          (subst (IsDefined raw) (sym c.var-second.ensures) c.requires.defined1)
          c.if-second-gate.false (omega (arith, c.max-bound.ensures)) apart.1,
    )) c.search-found.ensures.none)

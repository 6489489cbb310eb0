use Rattle.std.proofs.Common.{◌≤◌, inl, inr, arith}
use Rattle.aig_base.proofs.circuits.Gates.{gate_in_range}
use Rattle.aig_base.proofs.fan_outs.ListedReaders.{list_within}
use Rattle.aig_base.proofs.rewires.Searches.{element, next_within, searched_none, searched_found, searched_more}
use Rattle.aig_base.proofs.rewires.Searches.{searched_all}
use Rattle.aig_base.proofs.level.transitive_fan_out.FanOutGraph.search.Goals as goal

pub visit-requires-clause-within : goal.visit-requires-clause-within
visit-requires-clause-within c =
    let low = gate_in_range c.args.self.now.circuit.now c.facts.ensures.sound c.args.gate c.requires.gate in
    omega (arith, c.requires.visits.marks, c.requires.levels.size)

pub loop-next-init : goal.loop-next-init
loop-next-init c =
    searched_none c.args.self.now.circuit.now c.args.gate c.args.sought.first c.args.sought.second c.args.sought.bound _
    c.args.visits.now c.visit.new.self c.requires.visits c.visit.ensures.among c.visit.ensures.visited

pub list-list-requires : goal.list-list-requires
list-list-requires c =
    let u = c.index.result.now in
    let at = element c.loop-next.visits.list.items c.loop-next.next u (omega arith) c.index.ensures in
    let low = next_within c.args.self.now.circuit.now c.args.gate _ _ _ c.args.visits.now c.loop-next.visits c.loop-next.next u
    c.loop-next.invariant at in
    omega (arith, c.requires.visits.marks, c.requires.levels.size, c.requires.readers.size)

pub visit_below-requires-clause-within : goal.visit_below-requires-clause-within
visit_below-requires-clause-within c =
    let u = c.index.result.now in
    let at = element c.loop-next.visits.list.items c.loop-next.next u (omega arith) c.index.ensures in
    let low = next_within c.args.self.now.circuit.now c.args.gate _ _ _ c.args.visits.now c.loop-next.visits c.loop-next.next u
    c.loop-next.invariant at in
    rw c.list-list.ensures
    (list_within c.args.self.now.circuit.now c.args.self.now.readers.now c.requires.readers u
    (omega (arith, c.requires.visits.marks, c.requires.levels.size)) c.facts.ensures.sound c.args.levels.now
    c.requires.levels)

pub returns-then-visit_below-clause-found : goal.returns-then-visit_below-clause-found
returns-then-visit_below-clause-found c =
    let u = c.index.result.now in
    let raw = c.args.self.now.circuit.now in
    let s = c.args.sought in
    let at = element c.loop-next.visits.list.items c.loop-next.next u (omega arith) c.index.ensures in
    let low = next_within raw c.args.gate _ _ _ c.args.visits.now c.loop-next.visits c.loop-next.next u
    c.loop-next.invariant at in
    let le : u ≤ raw.max_var = omega (arith, c.requires.visits.marks, c.requires.levels.size) in
    elim (rw c.list-list.ensures at c.if-visit_below.ensures.found) [
      | inl k ↦
          inl (searched_found raw c.args.gate s.first s.second s.bound c.args.visits.now c.loop-next.visits
          c.loop-next.next u
          c.loop-next.invariant at c.args.self.now.readers.now c.requires.readers le s.first k)
      | inr k ↦
          inr (searched_found raw c.args.gate s.first s.second s.bound c.args.visits.now c.loop-next.visits
          c.loop-next.next u
          c.loop-next.invariant at c.args.self.now.readers.now c.requires.readers le s.second k)
    ]

pub loop-next-preserved : goal.loop-next-preserved
loop-next-preserved c =
    let u = c.index.result.now in
    let raw = c.args.self.now.circuit.now in
    let s = c.args.sought in
    let at = element c.loop-next.visits.list.items c.loop-next.next u (omega arith) c.index.ensures in
    let low = next_within raw c.args.gate _ _ _ c.args.visits.now c.loop-next.visits c.loop-next.next u
    c.loop-next.invariant at in
    let le : u ≤ raw.max_var = omega (arith, c.requires.visits.marks, c.requires.levels.size) in
    searched_more raw c.args.gate s.first s.second s.bound c.args.visits.now c.loop-next.visits c.loop-next.next u
    c.loop-next.invariant at c.args.self.now.readers.now c.requires.readers le c.args.levels.now c.requires.levels
    c.visit_below.new.visits (rw c.list-list.ensures at c.visit_below.ensures.among)
    (rw c.list-list.ensures at c.if-visit_below.ensures.looked)

pub returns-clause-none : goal.returns-clause-none
returns-clause-none c =
    searched_all c.args.self.now.circuit.now c.facts.ensures c.args.gate c.args.sought.first c.args.sought.second
    c.args.sought.bound c.args.visits.now c.loop-next.visits c.loop-next.next
    (let past = c.loop-next-test.false in omega arith) c.loop-next.invariant

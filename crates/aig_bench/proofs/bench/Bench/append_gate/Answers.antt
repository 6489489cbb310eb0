use Rattle.std.proofs.Common.{ℕ, List, length, sym, ap, ◌∙◌, subst, arith}
use Rattle.std.proofs.lemmas.List.{length-append, length-map}
use Rattle.aig_parts.specs.Literal.{variable}
use Rattle.aig_base.proofs.circuits.Gates.{defined_in_range}
use Rattle.aig_bench.proofs.renewals.Engines.{held}
use Rattle.aig_bench.proofs.growing.Grown.{new_flag}
use Rattle.aig_bench.proofs.growing.GrownBench.{even_new, grown_changed, grown_touched, last_is, last_level}
use Rattle.aig_bench.proofs.growing.GrownBench.{ready_grown, ready_still}
use Rattle.aig_bench.proofs.growing.Lengthened.{readers_longer}
use Rattle.aig_parts.specs.declared.gate.Gate.{Gate}
use Rattle.aig_parts.specs.declared.raw.Raw.{Raw}
use Rattle.aig_bench.specs.state.Buckets.{AreBuckets}
use Rattle.aig_bench.specs.state.SweepOrder.{Orders}
use Rattle.aig_bench.proofs.bench.Bench.append_gate.Goals as goal

pub make_room-requires-clause-ready : goal.make_room-requires-clause-ready
make_room-requires-clause-ready g c =
    let k = held c.engine.invariant c.engine.view_is c.self.invariant in
    (c.engine.inside.driven, k)

pub invariant_of-engine : goal.invariant_of-engine
invariant_of-engine g c =
    let k = held c.engine.invariant c.engine.view_is c.self.invariant in
    let r = c.make_room.ensures.ready c.engine.inside.driven k in
    record { work = r.working.work; lists = r.lists; orders = c.engine.invariant.orders }

pub invariant_of-self-in_err-make_room : goal.invariant_of-self-in_err-make_room
invariant_of-self-in_err-make_room g c =
    let k = held c.engine.invariant c.engine.view_is c.self.invariant in
    let r = c.make_room.ensures.ready c.engine.inside.driven k in
    record { current = r.working.bench.current; idle = r.idle }

pub invariant_of-engine-in-Break-branch-3 : goal.invariant_of-engine-in-Break-branch-3
invariant_of-engine-in-Break-branch-3 g c =
    let k = held c.engine.invariant c.engine.view_is c.self.invariant in
    let r = c.make_room.ensures.ready c.engine.inside.driven k in
    record { work = r.working.work; lists = r.lists; orders = c.reserve_gate.ensures.orders c.engine.inside.driven.circuit c.engine.invariant.orders }

pub invariant_of-self-in_err-reserve_gate : goal.invariant_of-self-in_err-reserve_gate
invariant_of-self-in_err-reserve_gate g c =
    let k = held c.engine.invariant c.engine.view_is c.self.invariant in
    let r = c.make_room.ensures.ready c.engine.inside.driven k in
    record { current = r.working.bench.current; idle = r.idle }

pub append_gate-requires-clause-levels : goal.append_gate-requires-clause-levels
append_gate-requires-clause-levels g c =
    let k = held c.engine.invariant c.engine.view_is c.self.invariant in
    let r = c.make_room.ensures.ready c.engine.inside.driven k in
    r.working.work.levels

pub append_gate-requires-clause-readers : goal.append_gate-requires-clause-readers
append_gate-requires-clause-readers g c =
    let k = held c.engine.invariant c.engine.view_is c.self.invariant in
    let r = c.make_room.ensures.ready c.engine.inside.driven k in
    r.working.work.readers

pub add_variable-requires-2-clause-empty : goal.add_variable-requires-2-clause-empty
add_variable-requires-2-clause-empty g c =
    let k = held c.engine.invariant c.engine.view_is c.self.invariant in
    let r = c.make_room.ensures.ready c.engine.inside.driven k in
    r.idle.queued

pub invariant_of-engine-in-Break-branch-4 : goal.invariant_of-engine-in-Break-branch-4
invariant_of-engine-in-Break-branch-4 g c =
    let k = held c.engine.invariant c.engine.view_is c.self.invariant in
    let e = c.in_err-append_gate.ensures in
    let r = ready_still c.engine.inside.driven c.make_room.new.fanouts c.make_room.new.pending _ _
    (c.make_room.ensures.ready c.engine.inside.driven k) c.append_gate.new.circuit c.append_gate.new.levels c.append_gate.new.readers
    e.same_circuit e.same_levels e.same_readers.lists in
    record {
      work = r.working.work;
      lists = r.lists;
      orders = subst (λ (raw : Raw). Orders raw c.reserve_gate.new.self) (sym e.same_circuit)
          (c.reserve_gate.ensures.orders c.engine.inside.driven.circuit c.engine.invariant.orders);
    }

pub invariant_of-self-in_err-append_gate : goal.invariant_of-self-in_err-append_gate
invariant_of-self-in_err-append_gate g c =
    let k = held c.engine.invariant c.engine.view_is c.self.invariant in
    let e = c.in_err-append_gate.ensures in
    let r = ready_still c.engine.inside.driven c.make_room.new.fanouts c.make_room.new.pending _ _
    (c.make_room.ensures.ready c.engine.inside.driven k) c.append_gate.new.circuit c.append_gate.new.levels c.append_gate.new.readers
    e.same_circuit e.same_levels e.same_readers.lists in
    record { current = r.working.bench.current; idle = r.idle }

pub evaluate_new-requires : goal.evaluate_new-requires
evaluate_new-requires g c =
    let k = held c.engine.invariant c.engine.view_is c.self.invariant in
    let raw = c.engine.inside.driven.circuit in
    let is = last_is raw _ c.args.r0 c.args.r1 _ c.in_ok-append_gate.ensures.circuit c.last_gate-gate.ensures in
    let r = c.make_room.ensures.ready c.engine.inside.driven k in
    let flags = g.G.Grid.gate_flags c.add_gate.new.self in
    let size = r.working.work.laid_out.flags_are.size in
    let sound = r.working.bench.driven_is.circuit.sound in
    let can = c.in_ok-check_append.ensures.gate in
    let low0 = defined_in_range raw sound (variable c.args.r0) can.defined0 in
    let low1 = defined_in_range raw sound (variable c.args.r1) can.defined1 in
    rw is (record {
      even = even_new raw c.args.r0 c.args.r1;
      gate = new_flag raw c.args.r0 c.args.r1 _ flags size c.add_gate.ensures.gates;
      rhs0 = rw (c.add_gate.ensures.gates, length-append) (omega arith);
      rhs1 = rw (c.add_gate.ensures.gates, length-append) (omega arith);
    })

pub invariant_of-engine-2 : goal.invariant_of-engine-2
invariant_of-engine-2 g c =
    let k = held c.engine.invariant c.engine.view_is c.self.invariant in
    let driven = c.engine.inside.driven in
    let raw = driven.circuit in
    let r = c.make_room.ensures.ready driven k in
    let a = c.in_ok-check_append.ensures in
    let e = c.in_ok-append_gate.ensures.circuit in
    let more = c.evaluate_new.ensures in
    let is = last_is raw _ c.args.r0 c.args.r1 _ e c.last_gate-gate.ensures in
    let levels = c.in_ok-append_gate.ensures.levels in
    let (l, longer) = c.in_ok-append_gate.ensures.more in
    let place = ap (λ (x : Gate). variable x.lhs) is in
    let last = last_level c.make_room.new.fanouts.levels c.append_gate.new.levels l c.level-level.result c.var.result longer
    (omega (arith, place, c.var.ensures, r.working.work.levels.size)) c.level-level.ensures in
    let now = ready_grown driven c.make_room.new.fanouts c.make_room.new.pending _ _ r c.args.r0 c.args.r1 a.gate a.cells
    (g.G.Grid.cells c.add_gate.new.self) (g.G.Grid.cells c.evaluate_new.new.grid) c.last_gate-gate.result is
    c.add_gate.ensures.cells
    more.frames more.rows c.append_gate.new.circuit _ _ _ _ _ e levels c.in_ok-append_gate.ensures.readers
    (readers_longer raw c.args.r0 c.args.r1 r.working.bench.driven_is.circuit.sound _ c.add_variable.new.self
    r.lists.readers
    c.add_variable.ensures.last c.add_variable.ensures.before c.add_variable.ensures.read)
    (subst (λ (ls : List ℕ). AreBuckets ls c.add_variable-2.new.self) (sym last) (c.add_variable-2.ensures.buckets _ r.working.work.buckets))
    c.add_variable-2.ensures.empty c.add_variable-2.ensures.heads c.add_variable-2.ensures.sides (more.flags ∙ c.add_gate.ensures.gates) in
    record {
      work = now.working.work;
      lists = now.lists;
      orders = subst (λ (raw : Raw). Orders raw c.push_gate.new.self) (sym e)
          (c.push_gate.ensures raw c.args.r0 c.args.r1 is
          a.gate.defined0 a.gate.defined1 (c.reserve_gate.ensures.orders raw c.engine.invariant.orders));
    }

pub invariant_of-self-2 : goal.invariant_of-self-2
invariant_of-self-2 g c =
    let k = held c.engine.invariant c.engine.view_is c.self.invariant in
    let driven = c.engine.inside.driven in
    let raw = driven.circuit in
    let r = c.make_room.ensures.ready driven k in
    let a = c.in_ok-check_append.ensures in
    let e = c.in_ok-append_gate.ensures.circuit in
    let more = c.evaluate_new.ensures in
    let is = last_is raw _ c.args.r0 c.args.r1 _ e c.last_gate-gate.ensures in
    let levels = c.in_ok-append_gate.ensures.levels in
    let (l, longer) = c.in_ok-append_gate.ensures.more in
    let place = ap (λ (x : Gate). variable x.lhs) is in
    let last = last_level c.make_room.new.fanouts.levels c.append_gate.new.levels l c.level-level.result c.var.result longer
    (omega (arith, place, c.var.ensures, r.working.work.levels.size)) c.level-level.ensures in
    let now = ready_grown driven c.make_room.new.fanouts c.make_room.new.pending _ _ r c.args.r0 c.args.r1 a.gate a.cells
    (g.G.Grid.cells c.add_gate.new.self) (g.G.Grid.cells c.evaluate_new.new.grid) c.last_gate-gate.result is
    c.add_gate.ensures.cells
    more.frames more.rows c.append_gate.new.circuit _ _ _ c.add_variable-2.new.self _ e levels c.in_ok-append_gate.ensures.readers
    (readers_longer raw c.args.r0 c.args.r1 r.working.bench.driven_is.circuit.sound _ c.add_variable.new.self
    r.lists.readers
    c.add_variable.ensures.last c.add_variable.ensures.before c.add_variable.ensures.read)
    (subst (λ (ls : List ℕ). AreBuckets ls c.add_variable-2.new.self) (sym last) (c.add_variable-2.ensures.buckets _ r.working.work.buckets))
    c.add_variable-2.ensures.empty c.add_variable-2.ensures.heads c.add_variable-2.ensures.sides (more.flags ∙ c.add_gate.ensures.gates) in
    record { current = now.working.bench.current; idle = now.idle }

pub returns-clause-works : goal.returns-clause-works
returns-clause-works g c =
    let k = held c.engine.invariant c.engine.view_is c.self.invariant in
    let driven = c.engine.inside.driven in
    let r = c.make_room.ensures.ready driven k in
    let a = c.in_ok-check_append.ensures in
    let more = c.evaluate_new.ensures in
    let rows = r.working.bench.laid_out.rows_are.frames_are in
    let mid = ap length c.add_gate.ensures.cells ∙ length-map _ _ ∙ rows in
    rw (← c.self.view_is, ← c.engine.view_is) (
      grown_touched driven _ _ _ _ r c.args.r0 c.args.r1 a.gate a.cells _ (more.evaluated ∙ mid),
      grown_changed driven _ _ _ _ r c.args.r0 c.args.r1 a.gate a.cells _ more.changed,
      omega (arith, more.count, c.add_gate.ensures.count, c.make_room.ensures.count),
    )

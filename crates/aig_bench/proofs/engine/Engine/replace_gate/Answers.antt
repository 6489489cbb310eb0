use Rattle.std.proofs.Common.{◌⊎◌, length, refl, ap, sym, subst, arith}
use Rattle.aig_base.specs.Changes.{with_gate}
use Rattle.aig_base.specs.Grounded.{IsAcyclic}
use Rattle.aig_base.specs.Sections.{IsDefined}
use Rattle.aig_base.proofs.circuits.Gates.{defined_in_range, gate_in_range}
use Rattle.aig_parts.specs.Literal.{variable}
use Rattle.aig_parts.specs.declared.raw.Raw.{Raw}
use Rattle.aig_bench.specs.declared.engine.driven_circuit.DrivenCircuit.{DrivenCircuit}
use Rattle.aig_bench.specs.declared.engine.fanouts.Fanouts.{Fanouts}
use Rattle.aig_bench.specs.Fanout.{HasFourReaders}
use Rattle.aig_bench.specs.state.Engine.{EngineState}
use Rattle.aig_bench.specs.state.Sweep.{IsWork}
use Rattle.aig_bench.proofs.carries.LatchChains.{readers_rewired}
use Rattle.aig_bench.proofs.edits.Edited.{buckets_renewed, lists_for, pair_rewired, work_kept, work_rewired}
use Rattle.aig_bench.proofs.edits.FourReaders.{any_fault, either_four}
use Rattle.aig_bench.proofs.edits.Rewired.{driven_rewired, laid_out_rewired, left_side_gate}
use Rattle.aig_base.proofs.fan_outs.ReaderLists.{readers_kept}
use Rattle.aig_bench.proofs.renewals.Engines.{held}
use Rattle.aig_bench.proofs.engine.Engine.replace_gate.Goals as goal

pub make_room-requires-clause-first : goal.make_room-requires-clause-first
make_room-requires-clause-first g c =
    let w = c.self.invariant.work in
    let d = subst (λ (s : EngineState). IsDefined s.pair.circuit (variable c.args.r0)) (sym c.self.view_is) c.requires.defined.0 in
    omega (arith, defined_in_range c.self.inside.driven.circuit w.driven_is.circuit.sound (variable c.args.r0) d, w.readers.size)

pub make_room-requires-clause-second : goal.make_room-requires-clause-second
make_room-requires-clause-second g c =
    let w = c.self.invariant.work in
    let d = subst (λ (s : EngineState). IsDefined s.pair.circuit (variable c.args.r1)) (sym c.self.view_is) c.requires.defined.1 in
    omega (arith, defined_in_range c.self.inside.driven.circuit w.driven_is.circuit.sound (variable c.args.r1) d, w.readers.size)

pub invariant_of-self : goal.invariant_of-self
invariant_of-self g c =
    let s = c.self.inside in
    let k = held c.self.invariant c.self.view_is c.requires.settled in
    let w = k.working.work in
    let readers = readers_kept s.driven.circuit _ _ w.readers c.make_room.ensures.kept.lists in
    record {
      work = (work_kept s.driven s.driven s.fanouts _ _ _ _ k.working refl refl w.levels readers refl).work;
      lists = lists_for s.driven s.driven s.fanouts _ s.pending k.lists refl k.lists.readers;
      orders = c.self.invariant.orders;
    }

pub returns-in_err-make_room-clause-memory : goal.returns-in_err-make_room-clause-memory
returns-in_err-make_room-clause-memory g c =
    let raw = c.self.inside.driven.circuit in
    let w = c.self.invariant.work in
    let d0 = subst (λ (s : EngineState). IsDefined s.pair.circuit (variable c.args.r0)) (sym c.self.view_is) c.requires.defined.0 in
    let d1 = subst (λ (s : EngineState). IsDefined s.pair.circuit (variable c.args.r1)) (sym c.self.view_is) c.requires.defined.1 in
    let four = either_four raw c.self.inside.fanouts.readers (variable c.args.r0) (variable c.args.r1) w.readers
    (defined_in_range raw w.driven_is.circuit.sound (variable c.args.r0) d0)
    (defined_in_range raw w.driven_is.circuit.sound (variable c.args.r1) d1) c.in_err-make_room.ensures.refused in
    any_fault _ c.from_residual.result
    (λ f e. subst (λ (s : EngineState). HasFourReaders s.pair.circuit (variable c.args.r0)
    ⊎ HasFourReaders s.pair.circuit (variable c.args.r1)) c.self.view_is four)

pub rewire_with-requires-clause-copy : goal.rewire_with-requires-clause-copy
rewire_with-requires-clause-copy g c =
    let w = c.self.invariant.work in (w.buckets.levels_are, w.buckets.chained.next_size)

pub set_sides-requires : goal.set_sides-requires
set_sides-requires g c =
    let w = c.self.invariant.work in
    let raw = c.self.inside.driven.circuit in
    let is_gate = left_side_gate raw c.args.lhs (rw (← c.self.view_is) at c.requires.gate) in
    let le = gate_in_range raw w.driven_is.circuit.sound (variable c.args.lhs) is_gate in
    omega (arith, c.in-Ok.ensures.copy.1, c.in-Ok.ensures.levels.size, c.var.ensures, le)

pub rewire_with-requires-clause-readers : goal.rewire_with-requires-clause-readers
rewire_with-requires-clause-readers g c =
    readers_kept c.self.inside.driven.circuit _ _ c.self.invariant.work.readers c.make_room.ensures.kept.lists

pub replace-requires-clause-readers : goal.replace-requires-clause-readers
replace-requires-clause-readers g c =
    readers_kept c.self.inside.driven.circuit _ _ c.self.invariant.work.readers c.make_room.ensures.kept.lists

pub invariant_of-self-in-Err : goal.invariant_of-self-in-Err
invariant_of-self-in-Err g c =
    let s = c.self.inside in
    let k = held c.self.invariant c.self.view_is c.requires.settled in
    let w = k.working.work in
    let readers = readers_kept s.driven.circuit _ _ w.readers c.make_room.ensures.kept.lists in
    let fanouts : Fanouts = record {
      levels = c.rewire_with.new.self;
      readers = c.make_room.new.self;
      latches = s.fanouts.latches;
    } in
    let kept = work_kept s.driven s.driven s.fanouts fanouts s.pending.buckets _ _ k.working refl refl
    (rw c.in-Err.ensures.unchanged w.levels) readers c.in-Err.ensures.unchanged in
    let lists = lists_for s.driven s.driven s.fanouts fanouts s.pending k.lists refl k.lists.readers in
    record {
      work = subst (IsWork s.driven fanouts (g.G.Grid.gate_flags s.grid) (g.G.Grid.cells s.grid))
          (sym c.in-Err.ensures.copy_unchanged) kept.work;
      lists = record { readers = lists.readers; here = lists.here; ahead = lists.ahead };
      orders = c.self.invariant.orders;
    }

pub returns-in-Err-clause-cycle : goal.returns-in-Err-clause-cycle
returns-in-Err-clause-cycle g c e =
    subst (λ (s : EngineState). IsAcyclic (with_gate s.pair.circuit c.args.lhs c.args.r0 c.args.r1) → ⊥) c.self.view_is
    c.in-Err.ensures.cycle

pub invariant_of-self-2 : goal.invariant_of-self-2
invariant_of-self-2 g c =
    let s = c.self.inside in
    let k = held c.self.invariant c.self.view_is c.requires.settled in
    let w = k.working.work in
    let raw = s.driven.circuit in
    let new : DrivenCircuit = record s.driven { circuit = c.replace_gate.new.self } in
    let e = c.replace_gate.ensures in
    let d = rw (← c.self.view_is) at c.requires.defined in
    let fanouts : Fanouts = record {
      levels = c.rewire_with.new.self;
      readers = c.replace.new.self;
      latches = s.fanouts.latches;
    } in
    let lists = lists_for s.driven new s.fanouts fanouts s.pending k.lists (ap (λ (x : Raw). length x.latches) e)
    (readers_rewired raw _ c.args.lhs c.args.r0 c.args.r1 s.fanouts.latches k.lists.readers e) in
    record {
      work = work_rewired s.driven new s.fanouts _ _ _ _ _ s.pending.buckets c.set_sides.new.self c.args.lhs c.args.r0 c.args.r1
          w k.working.empty (rw (← c.self.view_is) at c.requires.gate) e
          (driven_rewired s.driven new c.args.lhs c.args.r0 c.args.r1 w.driven_is e refl d.0 d.1 c.in-Ok.ensures.acyclic)
          (laid_out_rewired s.driven new c.args.lhs c.args.r0 c.args.r1 _ _ w.laid_out
          (pair_rewired s.driven new (with_gate raw c.args.lhs c.args.r0 c.args.r1) e refl))
          (rw e c.in-Ok.ensures.levels) (rw e c.replace.ensures)
          (buckets_renewed s.pending.buckets c.rewire_with.new.copy c.set_sides.new.self _ _ (variable c.args.lhs) c.args.r0 c.args.r1
          c.in-Ok.ensures.copy.0 c.in-Ok.ensures.rest c.set_sides.ensures c.var.ensures);
      lists = record { readers = lists.readers; here = lists.here; ahead = lists.ahead };
      orders = c.forget.ensures c.replace_gate.new.self;
    }

use Rattle.std.proofs.Common.{◌*◌, ◌∙◌, All, List, sym, refl, subst, arith}
use Rattle.aig_parts.specs.declared.gate.Gate.{Gate}
use Rattle.aig_unroll.specs.state.FrameTable.{IsGateNumbered}
use Rattle.aig_unroll.proofs.EmptyFrames.{no_sections}
use Rattle.aig_unroll.proofs.Frames.{listed, ordered_numbered, first_frame, within, one_more}
use Rattle.aig_unroll.proofs.unrolling.sections.unrolled_sections.Goals as goal

pub returns-then-adds_nothing : goal.returns-then-adds_nothing
returns-then-adds_nothing c =
    no_sections c.args.circuit.now c.args.order.now c.args.frames (c.if-adds_nothing.ensures refl)
    _ c.new.ensures c.new-2.ensures c.new-3.ensures c.new-4.ensures c.args.frames

pub loop-frame-init : goal.loop-frame-init
loop-frame-init c =
    let is = rw c.latches.ensures at c.in_ok-first_latches.ensures in
    record {
      number = omega arith;
      frame = first_frame c.args.circuit.now c.facts.ensures c.args.order.now c.requires.order
          c.args.frames c.args.plan.now c.requires.plan (c.args.frames * c.args.plan.now.inputs)
          c.in_ok-first_latches.field-0 refl is;
      sections = record {
        outputs = c.new.ensures;
        bad = c.new-2.ensures;
        constraints = c.new-3.ensures;
        gates = c.new-4.ensures;
      };
    }

pub push_frame-requires-clause-within : goal.push_frame-requires-clause-within
push_frame-requires-clause-within c =
    within c.args.circuit.now c.facts.ensures c.args.order.now c.requires.order c.args.frames
    c.args.plan.now c.requires.plan c.loop-frame.frame.number c.loop-frame.frame c.loop-frame.invariant.frame
    c.requires.fits c.loop-frame-test.true

pub push_frame-requires-clause-listed : goal.push_frame-requires-clause-listed
push_frame-requires-clause-listed c =
    listed c.args.circuit.now c.facts.ensures c.args.order.now c.requires.order c.args.frames
    c.args.plan.now c.requires.plan

pub push_frame-requires-clause-numbered : goal.push_frame-requires-clause-numbered
push_frame-requires-clause-numbered c =
    let P : List Gate → Type 0 = All (IsGateNumbered c.args.plan.now) in
    subst P (sym (c.as_slice.ensures ∙ c.in_ok-numbered.ensures))
    (ordered_numbered c.args.circuit.now c.facts.ensures c.args.order.now c.requires.order c.args.frames
    c.args.plan.now c.requires.plan)

pub numbered_gates-requires : goal.numbered_gates-requires
numbered_gates-requires c = record {
  listed = listed c.args.circuit.now c.facts.ensures c.args.order.now c.requires.order c.args.frames
      c.args.plan.now c.requires.plan;
}

pub next_frame-requires-clause-within : goal.next_frame-requires-clause-within
next_frame-requires-clause-within c =
    within c.args.circuit.now c.facts.ensures c.args.order.now c.requires.order c.args.frames
    c.args.plan.now c.requires.plan c.loop-frame.frame.number c.loop-frame.frame c.loop-frame.invariant.frame
    c.requires.fits c.loop-frame-test.true

pub next_frame-requires-clause-listed : goal.next_frame-requires-clause-listed
next_frame-requires-clause-listed c =
    listed c.args.circuit.now c.facts.ensures c.args.order.now c.requires.order c.args.frames
    c.args.plan.now c.requires.plan

pub loop-frame-preserved : goal.loop-frame-preserved
loop-frame-preserved c =
    let (number, frame, sections) = one_more c.args.circuit.now c.facts.ensures c.args.order.now
    c.requires.order c.args.frames c.args.plan.now c.requires.plan c.loop-frame.frame.number c.loop-frame.frame
    c.loop-frame.invariant.frame c.as_slice.result.now c.loop-frame.sections c.push_frame.new.sections
    c.in_ok-frame.frame (c.as_slice.ensures ∙ c.in_ok-numbered.ensures) c.loop-frame.invariant.sections
    c.in_ok-push_frame.ensures c.in_ok-frame.ensures in
    record { number = omega (arith, number, c.loop-frame-test.true); frame = frame; sections = sections }

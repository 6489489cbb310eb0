use Rattle.std.proofs.Common.{◌<◌, All, length, arith, refl, sym, subst, ◌∙◌}
use Rattle.aig_parts.specs.declared.raw.Raw.{Raw}
use Rattle.aig_shell.specs.State.{row_edits}
use Rattle.aig_shell.proofs.editing.Leading.{leads_some, leads_none, frames_next, frames_end}
use Rattle.aig_shell.proofs.session.edits.set_one_by_one.Goals as goal

pub loop-frame-init : goal.loop-frame-init
loop-frame-init c = record { leads = λ q h. h; frames = refl; circuit = refl }

pub set_inputs-requires-clause-frame : goal.set_inputs-requires-clause-frame
set_inputs-requires-clause-frame c =
    omega (arith, c.loop-frame.invariant.frames, c.loop-frame-test.true, c.requires.within)

pub set_inputs-requires-clause-positions : goal.set_inputs-requires-clause-positions
set_inputs-requires-clause-positions c =
    subst (λ (raw : Raw). All (λ p. p < length raw.inputs) c.args.positions.now) (sym c.loop-frame.invariant.circuit) c.requires.are_inputs

pub loop-frame-preserved : goal.loop-frame-preserved
loop-frame-preserved c =
    let inv = c.loop-frame.invariant in
    let t = c.loop-frame.frame in
    record {
      leads = λ q h. inv.leads q
          (leads_some _ _ q _ _ _
          (frames_next (λ u. row_edits u c.args.positions.now c.args.values.now) t c.args.end c.loop-frame-test.true)
          c.set_inputs.ensures.leads h);
      frames = c.set_inputs.ensures.frames ∙ inv.frames;
      circuit = c.set_inputs.ensures.circuit ∙ inv.circuit;
    }

pub returns : goal.returns
returns c =
    c.loop-frame.invariant.leads c.loop-frame.bench.pair
    (leads_none _ _ (frames_end (λ u. row_edits u c.args.positions.now c.args.values.now) c.loop-frame.frame c.args.end
    (omega (arith, c.loop-frame-test.false))))

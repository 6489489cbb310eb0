use Rattle.std.proofs.Common.{◌<◌, ℕ, All, arith, refl, sym, subst, ◌∙◌}
use Rattle.aig_shell.specs.State.{row_edits}
use Rattle.aig_shell.proofs.editing.Leading.{leads_some, leads_none, frames_next, frames_end}
use Rattle.aig_shell.proofs.session.at_once.write_rows.Goals as goal

pub loop-frame-init : goal.loop-frame-init
loop-frame-init c = record { leads = λ new h. h; frames = refl; width = refl }

pub write_row-requires-clause-frame : goal.write_row-requires-clause-frame
write_row-requires-clause-frame c =
    omega (arith, c.loop-frame.invariant.frames, c.loop-frame-test.true, c.requires.within)

pub write_row-requires-clause-positions : goal.write_row-requires-clause-positions
write_row-requires-clause-positions c =
    subst (λ (n : ℕ). All (λ p. p < n) c.args.positions.now) (sym c.loop-frame.invariant.width) c.requires.positions

pub loop-frame-preserved : goal.loop-frame-preserved
loop-frame-preserved c =
    let inv = c.loop-frame.invariant in
    let t = c.loop-frame.frame in
    record {
      leads = λ new h. inv.leads new (λ raw size.
          leads_some _ _ _ _ _ _
          (frames_next (λ u. row_edits u c.args.positions.now c.args.values.now) t c.args.end c.loop-frame-test.true)
          (c.write_row.ensures.leads raw size) (h raw (size ∙ sym c.write_row.ensures.width)));
      frames = c.write_row.ensures.frames ∙ inv.frames;
      width = c.write_row.ensures.width ∙ inv.width;
    }

pub returns : goal.returns
returns c = record {
  leads =
      c.loop-frame.invariant.leads c.loop-frame.stimulus.rows (λ raw size.
      leads_none _ _ (frames_end (λ u. row_edits u c.args.positions.now c.args.values.now) c.loop-frame.frame c.args.end
      (omega (arith, c.loop-frame-test.false))));
  frames = c.loop-frame.invariant.frames;
  width = c.loop-frame.invariant.width;
}

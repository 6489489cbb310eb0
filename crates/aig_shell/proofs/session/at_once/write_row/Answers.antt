use Rattle.std.proofs.Common.{get_or, arith, sym, ◌∙◌}
use Rattle.aig_parts.specs.declared.ternary.Tern.TheVariants.{Zero}
use Rattle.aig_bench.specs.Edit.{set_bit}
use Rattle.aig_shell.proofs.editing.Leading.{leads_step, leads_none, paired_next, paired_end}
use Rattle.aig_shell.proofs.session.at_once.write_row.Goals as goal

pub loop-place-preserved : goal.loop-place-preserved
loop-place-preserved c =
    let inv = c.loop-place.invariant in
    let positions = c.args.positions.now in
    let values = c.args.values.now in
    let n = c.loop-place.place in
    record {
      leads = λ new h. inv.leads new (λ raw size.
          leads_step _ _ _ (set_bit c.args.frame (get_or positions n 0) (get_or values n Zero)) _ _
          (paired_next (set_bit c.args.frame) n 0 positions values c.loop-place-test.true c.requires.size)
          (c.write_value.ensures.leads raw size) (h raw (size ∙ sym c.write_value.ensures.width)));
      frames = c.write_value.ensures.frames ∙ inv.frames;
      width = c.write_value.ensures.width ∙ inv.width;
    }

pub returns : goal.returns
returns c = record {
  leads =
      c.loop-place.invariant.leads c.loop-place.stimulus.rows (λ raw size.
      leads_none _ _ (paired_end (set_bit c.args.frame) c.loop-place.place c.args.positions.now c.args.values.now
      (omega (arith, c.loop-place-test.false))));
  frames = c.loop-place.invariant.frames;
  width = c.loop-place.invariant.width;
}

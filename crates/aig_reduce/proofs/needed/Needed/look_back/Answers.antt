use Rattle.std.proofs.Common.{◌≡◌, ℕ, suc, ◌-◌, Global, Vec, refl, sym, ◌∙◌, subst, arith}
use Rattle.aig_parts.specs.declared.ternary.Tern.{Tern}
use Rattle.aig_reduce.specs.state.Needed.{AreNeeded, AreNeededStarts}
use Rattle.aig_reduce.proofs.needed.Needed.look_back.Goals as goal

pub frames-init : goal.frames-init
frames-init g c = record {
  frame = omega (arith, c.frames-frame.ensures);
  marked = λ v m. absurd (c.requires.none v m);
  start = refl;
  width = refl;
  rows = refl;
  inputs = λ h. h;
  cell_rows = refl;
  cells = λ h. h;
}

pub frames-preserved : goal.frames-preserved
frames-preserved g c =
    let p = c.args.bench.now.pair in
    let property = c.args.property in
    let t = c.frames.frame - 1 in
    let inv = c.frames.invariant in
    let next : c.frames.frame ≡ suc t = omega (arith, c.frames-test.true) in
    let here : AreNeeded p property t c.look_at.new.self.here.items =
    c.look_at.ensures (subst (λ (n : ℕ). AreNeeded p property n c.frames.marks.here.items) next inv.marked) in
    record {
      frame = omega (arith, inv.frame);
      marked = here;
      start = inv.start;
      width = c.keep_inputs.ensures.width ∙ inv.width;
      rows = c.keep_inputs.ensures.rows ∙ inv.rows;
      inputs = λ all.
          c.keep_inputs.ensures.needed property (subst (AreNeeded p property t) (sym c.deref.ensures.value) here) (inv.inputs all);
      cell_rows = c.keep_cells.ensures.rows ∙ inv.cell_rows;
      cells = λ all.
          c.keep_cells.ensures.needed property (subst (AreNeeded p property t) (sym c.deref-in-frames.ensures.value) here) (inv.cells all);
    }

pub returns-clause-starts : goal.returns-clause-starts
returns-clause-starts g c = λ all.
    let p = c.args.bench.now.pair in
    let property = c.args.property in
    let none : c.frames.frame ≡ 0 = omega (arith, c.frames-test.false) in
    let first : AreNeeded p property 0 c.deref-2.result.now =
    subst (AreNeeded p property 0) (sym c.deref-2.ensures.value)
    (subst (λ (n : ℕ). AreNeeded p property n c.frames.marks.here.items) none c.frames.invariant.marked) in
    c.keep_starts.ensures property first
    (subst (λ (s : Vec Tern Global). AreNeededStarts p property s.items) (sym c.frames.invariant.start) all)

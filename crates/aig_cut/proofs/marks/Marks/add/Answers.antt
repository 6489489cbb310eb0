use Rattle.std.proofs.Common.{[], ◌∷◌, ◌++◌, true, refl, arith, sym, subst}
use Rattle.std.specs.Vec.{with_item}
use Rattle.aig_cut.specs.declared.line.Cut.{Cut}
use Rattle.aig_cut.specs.declared.marks.Marks.{Marks}
use Rattle.aig_cut.specs.state.Marks.{AreMarks}
use Rattle.aig_cut.proofs.Marking.{constraint_more, free_more, of_either, of_latch, start_more}
use Rattle.aig_cut.proofs.marks.Marks.add.Goals as goal

pub index_mut-requires : goal.index_mut-requires
index_mut-requires c =
    let known = of_either c.args.circuit.now c.facts.ensures.sound c.in-Free.literal (rw c.in-Free.is at c.requires.there) in
    omega (arith, known.range, c.requires.fit.free, c.var.ensures)

pub index_mut-requires-in-Start : goal.index_mut-requires-in-Start
index_mut-requires-in-Start c =
    let known = of_latch c.args.circuit.now c.facts.ensures.sound c.in-Start.literal (rw c.in-Start.is at c.requires.there) in
    omega (arith, known.range, c.requires.fit.starts, c.var-in-Start.ensures)

pub index_mut-requires-in-Constraint : goal.index_mut-requires-in-Constraint
index_mut-requires-in-Constraint c =
    let there = rw c.in-Constraint.is at c.requires.there in omega (arith, there, c.requires.fit.constraints)

pub returns-in-Free : goal.returns-in-Free
returns-in-Free c = λ cuts h.
    let raw = c.args.circuit.now in
    let old = c.args.self.now in
    let new : Marks = record {
      free = with_item old.free c.var.result true;
      starts = old.starts;
      constraints = old.constraints;
    } in
    subst (λ (k : Cut). AreMarks raw (cuts ++ k ∷ []) new) (sym c.in-Free.is)
    (free_more raw c.facts.ensures.sound cuts old new h c.in-Free.literal c.var.result (rw c.in-Free.is at c.requires.there)
    c.var.ensures refl refl refl)

pub returns-in-Start : goal.returns-in-Start
returns-in-Start c = λ cuts h.
    let raw = c.args.circuit.now in
    let old = c.args.self.now in
    let new : Marks = record {
      free = old.free;
      starts = with_item old.starts c.var-in-Start.result true;
      constraints = old.constraints;
    } in
    subst (λ (k : Cut). AreMarks raw (cuts ++ k ∷ []) new) (sym c.in-Start.is)
    (start_more raw c.facts.ensures.sound cuts old new h c.in-Start.literal c.var-in-Start.result
    (rw c.in-Start.is at c.requires.there) c.var-in-Start.ensures refl refl refl)

pub returns-in-Constraint : goal.returns-in-Constraint
returns-in-Constraint c = λ cuts h.
    let raw = c.args.circuit.now in
    let old = c.args.self.now in
    let new : Marks = record {
      free = old.free;
      starts = old.starts;
      constraints = with_item old.constraints c.in-Constraint.position true;
    } in
    subst (λ (k : Cut). AreMarks raw (cuts ++ k ∷ []) new) (sym c.in-Constraint.is)
    (constraint_more raw c.facts.ensures.sound cuts old new h c.in-Constraint.position (rw c.in-Constraint.is at c.requires.there)
    refl refl refl)

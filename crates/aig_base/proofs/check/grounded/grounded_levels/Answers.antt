use Rattle.std.proofs.Common.{◌≡◌, ℕ, List, ◌∷◌, ◌++◌, map, refl, sym, subst, ◌∙◌, arith}
use Rattle.std.proofs.lemmas.List.{take_at}
use Rattle.aig_parts.specs.Literal.{variable}
use Rattle.aig_base.specs.state.LeastFaulty.{latch_variable}
use Rattle.aig_base.specs.state.Marks.{IsMarking}
use Rattle.aig_base.proofs.checks.Marking.{source_variables, started_same, marking_ends}
use Rattle.aig_base.proofs.check.grounded.grounded_levels.Goals as goal

pub returns-clause-marks : goal.returns-clause-marks
returns-clause-marks c =
    let raw = c.args.raw.now in
    let marks = c.in_ok-marking.marking.walk.met.items in
    let new = c.close.new.self.walk in
    let next = c.in_ok-readers.readers.next.items in
    let same : 0 ∷ map variable c.as_slice.result.now ++ map latch_variable c.as_slice-2.result.now
    ≡ source_variables raw = rw (c.as_slice.ensures, c.as_slice-2.ensures) refl in
    (marking_ends raw c.requires.sound next marks c.in_ok-marking.marking.walk.pending.items
    (started_same _ (source_variables raw) _ _ same c.in_ok-marking.ensures.started)
    c.deref_mut.result.now new.met.items c.close.new.levels c.requires.parts.counts.max_var
    (c.deref_mut.ensures.value ∙ c.in_ok-levels.ensures.items_if_clones_equal (λ y e. e))
    c.in_ok-marking.ensures.size c.in_ok-close.ensures.size
    (λ i. subst (λ (us : List ℕ). IsMarking raw next 0 new.met.items us c.close.new.levels) c.in_ok-close.ensures.done
    (c.in_ok-close.ensures.marking raw (sym c.as_slice-gates.ensures) i)) c.in_ok-close.ensures.kept).0

pub returns-clause-levels : goal.returns-clause-levels
returns-clause-levels c =
    let raw = c.args.raw.now in
    let marks = c.in_ok-marking.marking.walk.met.items in
    let new = c.close.new.self.walk in
    let next = c.in_ok-readers.readers.next.items in
    let same : 0 ∷ map variable c.as_slice.result.now ++ map latch_variable c.as_slice-2.result.now
    ≡ source_variables raw = rw (c.as_slice.ensures, c.as_slice-2.ensures) refl in
    rw (take_at c.close.new.levels _ c.in_ok-levels.levels.len (omega (arith, c.in_ok-levels.levels.ok)))
    (marking_ends raw c.requires.sound next marks c.in_ok-marking.marking.walk.pending.items
    (started_same _ (source_variables raw) _ _ same c.in_ok-marking.ensures.started)
    c.deref_mut.result.now new.met.items c.close.new.levels c.requires.parts.counts.max_var
    (c.deref_mut.ensures.value ∙ c.in_ok-levels.ensures.items_if_clones_equal (λ y e. e))
    c.in_ok-marking.ensures.size c.in_ok-close.ensures.size
    (λ i. subst (λ (us : List ℕ). IsMarking raw next 0 new.met.items us c.close.new.levels) c.in_ok-close.ensures.done
    (c.in_ok-close.ensures.marking raw (sym c.as_slice-gates.ensures) i)) c.in_ok-close.ensures.kept).1

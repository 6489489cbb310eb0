use Rattle.std.proofs.Common.{List, ◌∷◌, drop, ◌+◌, sym, ap, ◌∙◌, get_or}
use Rattle.std.proofs.lemmas.List.{drop_all, drop_more}
use Rattle.aig_parts.specs.declared.latch.Latch.{Latch}
use Rattle.aig_cut.specs.CutOf.{cut_latch, cut_latches, latch_inputs}
use Rattle.aig_cut.specs.state.Marks.{marked}
use Rattle.aig_cut.proofs.Walks.{AreCutEntries, cut_all, cut_more, cut_start, latches_walk}
use Rattle.aig_cut.proofs.parts.cut_latches.Goals as goal

pub loop-latch-init : goal.loop-latch-init
loop-latch-init c =
    let cuts = marked c.args.marks.now in
    cut_start (cut_latches cuts) (latch_inputs cuts) c.args.inputs.now.next c.args.inputs.now.literals c.args.latches.now c.in_ok-cut.cut
    c.in_ok-cut.ensures

pub loop-latch-preserved : goal.loop-latch-preserved
loop-latch-preserved c =
    let cuts = marked c.args.marks.now in
    let xs : List Latch = c.args.latches.now in
    let k = c.loop-latch.latch-index in
    let x : Latch = c.latch-item.result in
    cut_more (λ (y : Latch). cuts.free y.lit) (cut_latch cuts) (cut_latches cuts) (latch_inputs cuts) (latches_walk cuts) c.args.inputs.now.next
    c.args.inputs.now.literals xs k c.loop-latch.inputs.next c.cut_latch.new.inputs.next c.loop-latch.cut c.push.new.self
    c.loop-latch.inputs.literals c.cut_latch.new.inputs.literals x c.in_ok-new.new
    (drop_more xs k x c.loop-latch-test.true ∙ ap (λ (y : Latch). y ∷ drop (k + 1) xs) (sym c.latch-item.is))
    c.in_ok-new.ensures.latch c.in_ok-push.ensures.ok c.in_ok-new.ensures.added c.in_ok-new.ensures.next c.loop-latch.invariant

pub returns-clause-latches : goal.returns-clause-latches
returns-clause-latches c =
    let cuts = marked c.args.marks.now in
    let xs : List Latch = c.args.latches.now in
    let all = cut_all (λ (y : Latch). cuts.free y.lit) (cut_latch cuts) (cut_latches cuts) (latch_inputs cuts) (latches_walk cuts)
    c.args.inputs.now.next c.args.inputs.now.literals xs c.loop-latch.latch-index c.loop-latch.inputs.next c.loop-latch.cut
    c.loop-latch.inputs.literals (drop_all c.loop-latch.latch-index xs c.loop-latch-test.false) c.loop-latch.invariant in
    all.entries

pub returns-clause-added : goal.returns-clause-added
returns-clause-added c =
    let cuts = marked c.args.marks.now in
    let xs : List Latch = c.args.latches.now in
    let all = cut_all (λ (y : Latch). cuts.free y.lit) (cut_latch cuts) (cut_latches cuts) (latch_inputs cuts) (latches_walk cuts)
    c.args.inputs.now.next c.args.inputs.now.literals xs c.loop-latch.latch-index c.loop-latch.inputs.next c.loop-latch.cut
    c.loop-latch.inputs.literals (drop_all c.loop-latch.latch-index xs c.loop-latch-test.false) c.loop-latch.invariant in
    all.inputs_are

pub returns-clause-next : goal.returns-clause-next
returns-clause-next c =
    let cuts = marked c.args.marks.now in
    let xs : List Latch = c.args.latches.now in
    let all = cut_all (λ (y : Latch). cuts.free y.lit) (cut_latch cuts) (cut_latches cuts) (latch_inputs cuts) (latches_walk cuts)
    c.args.inputs.now.next c.args.inputs.now.literals xs c.loop-latch.latch-index c.loop-latch.inputs.next c.loop-latch.cut
    c.loop-latch.inputs.literals (drop_all c.loop-latch.latch-index xs c.loop-latch-test.false) c.loop-latch.invariant in
    all.next

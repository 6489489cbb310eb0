use Rattle.std.proofs.Common.{List, ◌∷◌, drop, ◌+◌, sym, ap, ◌∙◌, get_or}
use Rattle.std.proofs.lemmas.List.{drop_all, drop_more}
use Rattle.aig_parts.specs.declared.gate.Gate.{Gate}
use Rattle.aig_cut.specs.CutOf.{cut_gate, cut_gates, gate_inputs}
use Rattle.aig_cut.specs.state.Marks.{marked}
use Rattle.aig_cut.proofs.Walks.{AreCutEntries, cut_all, cut_more, cut_start, gates_walk}
use Rattle.aig_cut.proofs.parts.cut_gates.Goals as goal

pub loop-gate-init : goal.loop-gate-init
loop-gate-init c =
    let cuts = marked c.args.marks.now in
    cut_start (cut_gates cuts) (gate_inputs cuts) c.args.inputs.now.next c.args.inputs.now.literals c.args.gates.now c.in_ok-cut.cut
    c.in_ok-cut.ensures

pub loop-gate-preserved : goal.loop-gate-preserved
loop-gate-preserved c =
    let cuts = marked c.args.marks.now in
    let xs : List Gate = c.args.gates.now in
    let k = c.loop-gate.gate-index in
    let x : Gate = c.gate-item.result in
    cut_more (λ (y : Gate). cuts.free y.lhs) (λ v g. cut_gate (cuts.free g.lhs) v g) (cut_gates cuts) (gate_inputs cuts) (gates_walk cuts) c.args.inputs.now.next
    c.args.inputs.now.literals xs k c.loop-gate.inputs.next c.cut_gate.new.inputs.next c.loop-gate.cut c.push.new.self
    c.loop-gate.inputs.literals c.cut_gate.new.inputs.literals x c.in_ok-new.new
    (drop_more xs k x c.loop-gate-test.true ∙ ap (λ (y : Gate). y ∷ drop (k + 1) xs) (sym c.gate-item.is))
    c.in_ok-new.ensures.gate c.in_ok-push.ensures.ok c.in_ok-new.ensures.added c.in_ok-new.ensures.next c.loop-gate.invariant

pub returns : goal.returns
returns c =
    let cuts = marked c.args.marks.now in
    let xs : List Gate = c.args.gates.now in
    let all = cut_all (λ (y : Gate). cuts.free y.lhs) (λ v g. cut_gate (cuts.free g.lhs) v g) (cut_gates cuts) (gate_inputs cuts) (gates_walk cuts)
    c.args.inputs.now.next c.args.inputs.now.literals xs c.loop-gate.gate-index c.loop-gate.inputs.next c.loop-gate.cut
    c.loop-gate.inputs.literals (drop_all c.loop-gate.gate-index xs c.loop-gate-test.false) c.loop-gate.invariant in
    record { gates = all.entries; added = all.inputs_are; next = all.next }

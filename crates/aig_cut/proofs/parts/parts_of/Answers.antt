use Rattle.std.proofs.Common.{subst, sym, All, List}
use Rattle.aig_parts.specs.declared.gate.Gate.{Gate}
use Rattle.aig_parts.specs.declared.latch.Latch.{Latch}
use Rattle.aig_cut.specs.state.Marks.{HasMarks}
use Rattle.aig_cut.proofs.SameCuts.{gates_marked, latches_marked}
use Rattle.aig_cut.proofs.parts.parts_of.Goals as goal

pub cut_latches-requires-clause-marks : goal.cut_latches-requires-clause-marks
cut_latches-requires-clause-marks c =
    subst (λ (xs : List Latch). All (λ (x : Latch). HasMarks c.args.marks.now x.lit) xs) (sym c.latches.ensures)
    (latches_marked c.args.circuit.now c.facts.ensures.sound c.args.marks.now c.requires)

pub cut_gates-requires-clause-marks : goal.cut_gates-requires-clause-marks
cut_gates-requires-clause-marks c =
    subst (λ (gs : List Gate). All (λ (g : Gate). HasMarks c.args.marks.now g.lhs) gs) (sym c.gates.ensures)
    (gates_marked c.args.circuit.now c.facts.ensures.sound c.args.marks.now c.requires)

use Rattle.std.proofs.Common.{◌∙◌, ap, map, set, false}
use Rattle.std.proofs.Math.Seq.{map-set_same}
use Rattle.std.proofs.lemmas.List.{map-set}
use Rattle.aig_bench.specs.state.Waiting.{WaitingVariables, idle, level_of, marks_of, next_of, sides_in}
use Rattle.aig_bench.proofs.queues.WaitingMarks.{marks_left}
use Rattle.aig_bench.proofs.propagate.waiting.Waiting.leave.Goals as goal

pub returns-clause-next : goal.returns-clause-next
returns-clause-next c =
    map-set next_of c.self.inside.slots.items c.args.variable _
    ∙ ap (λ (w : WaitingVariables). set w.next c.args.variable idle) c.self.view_is

pub returns-clause-levels : goal.returns-clause-levels
returns-clause-levels c =
    map-set_same level_of c.self.inside.slots.items c.args.variable _ c.index_mut-slot.result.now
    (ap level_of c.index_mut-slot.ensures.value)
    ∙ ap (λ (w : WaitingVariables). w.levels) c.self.view_is

pub returns-clause-sides : goal.returns-clause-sides
returns-clause-sides c =
    map-set_same sides_in c.self.inside.slots.items c.args.variable _ c.index_mut-slot.result.now
    (ap sides_in c.index_mut-slot.ensures.value)
    ∙ ap (λ (w : WaitingVariables). w.sides) c.self.view_is

pub returns-clause-marks : goal.returns-clause-marks
returns-clause-marks c =
    ap marks_of (map-set next_of c.self.inside.slots.items c.args.variable _)
    ∙ marks_left (map next_of c.self.inside.slots.items) c.args.variable
    ∙ ap (λ (w : WaitingVariables). set w.items c.args.variable false) c.self.view_is

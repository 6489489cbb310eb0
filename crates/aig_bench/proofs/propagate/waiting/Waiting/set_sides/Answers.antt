use Rattle.std.proofs.Common.{◌∙◌, ap, set}
use Rattle.aig_bench.specs.state.Waiting.{WaitingVariables}
use Rattle.aig_bench.proofs.queues.Slots.{sides_written}
use Rattle.aig_bench.proofs.propagate.waiting.Waiting.set_sides.Goals as goal

pub returns : goal.returns
returns c =
    sides_written c.self.inside.slots.items c.args.variable c.index_mut-slot.result.now _ c.index_mut-slot.ensures.value c.args.rhs0
    c.args.rhs1
    ∙ ap (λ (w : WaitingVariables). record w { sides = set w.sides c.args.variable (record { rhs0 = c.args.rhs0; rhs1 = c.args.rhs1 }) })
    c.self.view_is

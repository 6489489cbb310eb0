use Rattle.std.proofs.Common.{◌∙◌, ap, set}
use Rattle.aig_bench.specs.state.Waiting.{WaitingVariables}
use Rattle.aig_bench.proofs.queues.Slots.{level_written}
use Rattle.aig_bench.proofs.propagate.waiting.Waiting.set_level.Goals as goal

pub returns : goal.returns
returns c =
    level_written c.self.inside.slots.items c.args.variable c.index_mut-slot.result.now _ c.index_mut-slot.ensures.value c.args.level
    ∙ ap (λ (w : WaitingVariables). record w { levels = set w.levels c.args.variable c.args.level }) c.self.view_is

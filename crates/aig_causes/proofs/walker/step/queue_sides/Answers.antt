use Rattle.std.proofs.Common.{ℕ, ◌++◌, ap, ◌∙◌}
use Rattle.aig_parts.specs.Literal.{variable}
use Rattle.aig_causes.specs.state.Walk.{queued}
use Rattle.aig_causes.proofs.walker.step.queue_sides.Goals as goal

pub returns : goal.returns
returns c =
    let todo = c.args.todo.now.items in
    let sides = c.args.sides in
    c.in_ok-queue.ensures ∙ ap (λ (n : ℕ). todo ++ queued n c.var-second.result sides) c.var-first.ensures
    ∙ ap (λ (n : ℕ). todo ++ queued (variable c.args.rhs0) n sides) c.var-second.ensures

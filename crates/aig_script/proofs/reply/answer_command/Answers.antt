use Rattle.std.proofs.Common.{inl, inr, refl}
use Rattle.std.specs.Prelude.{codes}
use Rattle.aig_script.specs.state.CommandMeaning.{meaning}
use Rattle.aig_script.proofs.reply.answer_command.Goals as goal

pub returns-in-Some : goal.returns-in-Some
returns-in-Some g c =
    let h = c.obey.ensures in
    let s = c.in-Some.ensures.some in
    (h.0, λ never. inl (meaning c.in-Some.command, s.0, s.1, h.1), h.2)

pub returns-in-None : goal.returns-in-None
returns-in-None g c = (codes "bad\n", λ never. inr (c.in-None.ensures.none never, (refl, refl)), c.write_all.ensures)

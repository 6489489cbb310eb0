use Rattle.std.proofs.Common.{◌++◌, ◌∙◌, ap, length, refl, arith}
use Rattle.aig_commands.specs.Unroll.{short_spelling}
use Rattle.aig_c.proofs.Endings.{reworded}
use Rattle.aig_c.proofs.live.texts.unrolled.Goals as goal

pub returns : goal.returns
returns c =
    let circuit = c.in-Ok.circuit in
    let text = short_spelling c.args.to circuit in
    let wrote = c.write_whole-whole.ensures in
    let empty = c.in-Ok-writer.ensures in
    reworded
    (λ bytes zero_is all. (
      circuit,
      c.in-Ok.ensures.answers,
      all.1 ∙ (c.bytes.ensures ∙ (wrote.whole all.0 ∙ ap (λ before. before ++ text) empty)),
    ))
    (λ no. absurd no)
    (λ longer. (
      text,
      (circuit, c.in-Ok.ensures.answers, refl),
      omega (arith, longer, wrote.part, ap length empty, ap length c.bytes.ensures),
    ))
    c.ended.ensures

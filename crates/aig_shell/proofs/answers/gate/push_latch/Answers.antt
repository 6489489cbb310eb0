use Rattle.std.proofs.Common.{[], ◌∷◌, ap, ◌∙◌}
use Rattle.std.proofs.lemmas.Result.{on_ok_weaker}
use Rattle.aig_parts.specs.declared.ternary.Tern.{Tern}
use Rattle.aig_base.specs.Value.{reset_value}
use Rattle.aig_values.specs.Characters.{character}
use Rattle.aig_shell.proofs.words.Definitions.{latch_said}
use Rattle.aig_shell.proofs.answers.gate.push_latch.Goals as goal

pub returns : goal.returns
returns c =
    on_ok_weaker c.push_pieces.result (λ added.
    latch_said c.args.circuit.now c.args.latch.next (reset_value c.args.latch.reset) c.args.text.now.items
    c.extend_from_slice.new.self.items c.push_side.new.text.items c.push_pieces.new.text.items c.letter.result.now
    c.in_ok-extend_from_slice.ensures.items c.in_ok-push_side.ensures
    (c.letter.ensures ∙ ap (λ (w : Tern). character w ∷ []) c.first_value.ensures) added)
    c.push_pieces.ensures

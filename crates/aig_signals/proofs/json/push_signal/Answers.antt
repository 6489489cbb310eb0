use Rattle.std.proofs.Common.{ℕ, List, [], ◌∷◌, ◌++◌, ap, ◌∙◌}
use Rattle.std.specs.Prelude.{codes, decimal}
use Rattle.aig_parts.specs.Letters.{letter}
use Rattle.aig_signals.specs.Json.{signal_with, string_text}
use Rattle.aig_signals.specs.Value.{binary}
use Rattle.aig_signals.proofs.JsonLemmas.{adds_then}
use Rattle.aig_signals.proofs.json.push_signal.Goals as goal

pub returns : goal.returns
unfolding signal_with
returns c =
    adds_then c.args.text.now.items c.extend_from_slice.new.self.items _ (codes "{\"letter\":\"") _ c.in_ok-extend_from_slice.ensures.items
    (adds_then c.extend_from_slice.new.self.items c.push.new.self.items _ (letter c.args.signal.now.kind ∷ []) _ (c.in_ok-push.ensures.items ∙ ap (λ (l : ℕ). c.extend_from_slice.new.self.items ++ l ∷ []) c.letter.ensures)
    (adds_then c.push.new.self.items c.extend_from_slice-2.new.self.items _ (codes "\",\"position\":") _ c.in_ok-extend_from_slice-2.ensures.items
    (adds_then c.extend_from_slice-2.new.self.items c.push_number.new.text.items _ (decimal c.args.signal.now.first) _ c.in_ok-push_number.ensures
    (adds_then c.push_number.new.text.items c.extend_from_slice-3.new.self.items _ (codes ",\"name\":") _ c.in_ok-extend_from_slice-3.ensures.items
    (adds_then c.extend_from_slice-3.new.self.items c.push_string.new.text.items _ (string_text c.args.signal.now.name) _ (c.in_ok-push_string.ensures ∙ ap (λ (xs : List ℕ). c.extend_from_slice-3.new.self.items ++ string_text xs) c.as_slice.ensures)
    (adds_then c.push_string.new.text.items c.extend_from_slice-4.new.self.items _ (codes ",\"value\":\"") _ c.in_ok-extend_from_slice-4.ensures.items
    (adds_then c.extend_from_slice-4.new.self.items c.push_binary.new.text.items _ (binary c.args.bits.now) _ c.in_ok-push_binary.ensures
    c.in_ok-extend_from_slice-5.ensures.items)))))))

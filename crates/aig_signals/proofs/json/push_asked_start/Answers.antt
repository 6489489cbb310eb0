use Rattle.std.specs.Prelude.{codes, decimal}
use Rattle.aig_signals.specs.Json.{string_text}
use Rattle.aig_signals.specs.Value.{binary}
use Rattle.aig_signals.proofs.JsonLemmas.{adds_then}
use Rattle.aig_signals.proofs.json.push_asked_start.Goals as goal

pub returns : goal.returns
returns c =
    adds_then c.args.text.now.items c.extend_from_slice.new.self.items _ (codes "{\"line\":\"asked\",\"frame\":") _ c.in_ok-extend_from_slice.ensures.items
    (adds_then c.extend_from_slice.new.self.items c.push_number.new.text.items _ (decimal c.args.frame) _ c.in_ok-push_number.ensures
    (adds_then c.push_number.new.text.items c.extend_from_slice-2.new.self.items _ (codes ",\"name\":") _ c.in_ok-extend_from_slice-2.ensures.items
    (adds_then c.extend_from_slice-2.new.self.items c.push_string.new.text.items _ (string_text c.args.name.now) _ c.in_ok-push_string.ensures
    (adds_then c.push_string.new.text.items c.extend_from_slice-3.new.self.items _ (codes ",\"value\":\"") _ c.in_ok-extend_from_slice-3.ensures.items
    (adds_then c.extend_from_slice-3.new.self.items c.push_binary.new.text.items _ (binary c.args.bits.now) _ c.in_ok-push_binary.ensures
    (adds_then c.push_binary.new.text.items c.extend_from_slice-4.new.self.items _ (codes "\",\"by\":") _ c.in_ok-extend_from_slice-4.ensures.items
    (adds_then c.extend_from_slice-4.new.self.items c.push_number-2.new.text.items _ (decimal c.args.frame) _ c.in_ok-push_number-2.ensures
    c.in_ok-extend_from_slice-5.ensures.items)))))))

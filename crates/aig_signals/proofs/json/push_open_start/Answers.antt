use Rattle.std.specs.Prelude.{codes, decimal}
use Rattle.aig_signals.proofs.JsonLemmas.{adds_then}
use Rattle.aig_signals.proofs.json.push_open_start.Goals as goal

pub returns : goal.returns
returns c =
    adds_then c.args.text.now.items c.extend_from_slice.new.self.items _ (codes "{\"line\":\"not explained\",\"frame\":") _ c.in_ok-extend_from_slice.ensures.items
    (adds_then c.extend_from_slice.new.self.items c.push_number.new.text.items _ (decimal c.args.frame) _ c.in_ok-push_number.ensures
    c.in_ok-extend_from_slice-2.ensures.items)

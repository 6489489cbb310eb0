use Rattle.std.proofs.Common.{◌-◌}
use Rattle.std.specs.Prelude.{codes, decimal}
use Rattle.std.proofs.lemmas.Result.{IfOk-from_err}
use Rattle.aig_signals.specs.Json.{signal_object}
use Rattle.aig_signals.proofs.JsonLemmas.{adds_then, there_at}
use Rattle.aig_signals.proofs.json.push_latches_start.Goals as goal

pub returns-in_err-extend_from_slice : goal.returns-in_err-extend_from_slice
returns-in_err-extend_from_slice c =
    let there = there_at c.args.latches.now.signals c.args.number c.requires.number in
    (there.0, there.1, IfOk-from_err _ _ c.from_residual.ensures.0)

pub returns-in_err-push_number : goal.returns-in_err-push_number
returns-in_err-push_number c =
    let there = there_at c.args.latches.now.signals c.args.number c.requires.number in
    (there.0, there.1, IfOk-from_err _ _ c.from_residual-in_err-push_number.ensures.0)

pub returns-in_err-extend_from_slice-2 : goal.returns-in_err-extend_from_slice-2
returns-in_err-extend_from_slice-2 c =
    let there = there_at c.args.latches.now.signals c.args.number c.requires.number in
    (there.0, there.1, IfOk-from_err _ _ c.from_residual-in_err-extend_from_slice-2.ensures.0)

pub returns : goal.returns
returns c =
    let there = c.in_ok-push_object.ensures in
    let object = signal_object c.args.latches.now.values there.0 in (
      there.0,
      there.1,
      adds_then c.args.text.now.items c.extend_from_slice.new.self.items _ (codes "{\"line\":\"latches\",\"frame\":") _ c.in_ok-extend_from_slice.ensures.items
          (adds_then c.extend_from_slice.new.self.items c.push_number.new.text.items _ (decimal c.args.frame) _ c.in_ok-push_number.ensures
          (adds_then c.push_number.new.text.items c.extend_from_slice-2.new.self.items _ (codes ",\"signal\":") _ c.in_ok-extend_from_slice-2.ensures.items
          (adds_then c.extend_from_slice-2.new.self.items c.push_object.new.text.items _ object _ there.2
          (adds_then c.push_object.new.text.items c.extend_from_slice-3.new.self.items _ (codes ",\"by\":") _ c.in_ok-extend_from_slice-3.ensures.items
          (adds_then c.extend_from_slice-3.new.self.items c.push_number-2.new.text.items _ (decimal (c.args.frame - 1)) _ c.in_ok-push_number-2.ensures
          c.in_ok-extend_from_slice-4.ensures.items))))),
    )

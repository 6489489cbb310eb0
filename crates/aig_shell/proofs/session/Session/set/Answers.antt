use Rattle.std.proofs.Common.{◌≡◌, ◌<◌, ℕ, List, All, length, arith, refl, sym, ap, subst}
use Rattle.aig_parts.specs.declared.ternary.Tern.{Tern}
use Rattle.aig_base.specs.Circuit.{IsCircuit}
use Rattle.aig_shell.specs.Edits.{IsValue}
use Rattle.aig_shell.specs.Request.{set}
use Rattle.aig_shell.proofs.editing.Impossible.{small_variables}
use Rattle.aig_shell.proofs.editing.Results.{ends_err}
use Rattle.aig_shell.proofs.editing.Sessions.{still_fits, positions_within, no_frames, no_inputs, no_bits}
use Rattle.aig_shell.proofs.session.Session.set.Goals as goal

pub returns-in_err-frames-clause-edits : goal.returns-in_err-frames-clause-edits
returns-in_err-frames-clause-edits c =
    ends_err c.args.self.now.run.bench.pair c.args.self.now.run.bench.pair (set c.args.frames.now c.args.name.now c.args.value.now) c.from_residual.result c.in_err-frames.field-0.0
    c.from_residual.ensures.1 (λ other. no_frames c.args.self.now.run.bench.pair c.args.frames.now c.args.name.now c.args.value.now c.in_err-frames.ensures.err) refl

pub returns-in_err-positions-clause-edits : goal.returns-in_err-positions-clause-edits
returns-in_err-positions-clause-edits c =
    ends_err c.args.self.now.run.bench.pair c.args.self.now.run.bench.pair (set c.args.frames.now c.args.name.now c.args.value.now) c.from_residual-in_err-positions.result
    c.in_err-positions.field-0.0 c.from_residual-in_err-positions.ensures.1
    (λ other. no_inputs c.args.self.now.run.bench.pair c.args.frames.now c.args.name.now c.args.value.now (c.in_err-positions.ensures.err other)) refl

pub returns-in_err-values-clause-edits : goal.returns-in_err-values-clause-edits
returns-in_err-values-clause-edits c =
    let same : length c.in_ok-positions.positions.items ≡ c.len.result = omega (arith, c.in_ok-positions.positions.ok, c.len.ensures) in
    ends_err c.args.self.now.run.bench.pair c.args.self.now.run.bench.pair (set c.args.frames.now c.args.name.now c.args.value.now) c.from_residual-in_err-values.result
    c.in_err-values.field-0.0 c.from_residual-in_err-values.ensures.1
    (λ other. no_bits c.args.self.now.run.bench.pair c.args.frames.now c.args.name.now c.args.value.now c.in_ok-positions.positions.items
    (small_variables c.args.self.now.run.bench.pair.circuit (subst IsCircuit c.circuit.ensures c.facts.ensures)) c.in_ok-positions.ensures.ok
    (λ bits h. c.in_err-values.ensures.err other bits (subst (λ m. IsValue c.args.value.now m bits) same h))) refl

pub set_frames-requires : goal.set_frames-requires
set_frames-requires c =
    let (literals, means, are) = c.in_ok-positions.ensures.ok in
    let frames = c.in_ok-frames.ensures.ok in
    record {
      order = omega (arith, frames.1);
      within = omega (arith, frames.2);
      are_inputs = subst (All (λ p. p < length c.args.self.now.run.bench.pair.circuit.inputs)) (sym c.as_slice.ensures.value)
          (positions_within c.args.self.now.run.bench.pair.circuit literals c.in_ok-positions.positions.items are);
      size = omega (
        arith,
        ap length c.as_slice-2.ensures.value,
        c.in_ok-values.ensures.ok.0,
        c.in_ok-positions.positions.ok,
        c.len.ensures,
        ap length c.as_slice.ensures.value,
      );
    }

pub invariant_of-self : goal.invariant_of-self
invariant_of-self c =
    let fits = still_fits c.args.self.now _ _ c.set_frames.ensures in
    record { has_signals = fits.signals; has_latches = fits.latches; has_property = fits.property }

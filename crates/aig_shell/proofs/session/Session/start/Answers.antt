use Rattle.std.proofs.Common.{All, refl, sym, subst}
use Rattle.aig_base.specs.Circuit.{IsCircuit}
use Rattle.aig_base.specs.Sections.{IsLatchLiteral}
use Rattle.aig_shell.specs.Edits.{IsValue}
use Rattle.aig_shell.proofs.editing.Impossible.{small_variables}
use Rattle.aig_shell.specs.Request.{start}
use Rattle.aig_shell.proofs.editing.Results.{ends_err}
use Rattle.aig_shell.proofs.editing.Sessions.{still_fits, no_latches, no_start}
use Rattle.aig_shell.proofs.session.Session.start.Goals as goal

pub returns-in_err-latches-clause-edits : goal.returns-in_err-latches-clause-edits
returns-in_err-latches-clause-edits c =
    ends_err c.args.self.now.run.bench.pair c.args.self.now.run.bench.pair (start c.args.name.now c.args.value.now) c.from_residual.result c.in_err-latches.field-0.0
    c.from_residual.ensures.1 (λ other. no_latches c.args.self.now.run.bench.pair c.args.name.now c.args.value.now (c.in_err-latches.ensures.err other)) refl

pub returns-in_err-values-clause-edits : goal.returns-in_err-values-clause-edits
returns-in_err-values-clause-edits c =
    ends_err c.args.self.now.run.bench.pair c.args.self.now.run.bench.pair (start c.args.name.now c.args.value.now) c.from_residual-in_err-values.result
    c.in_err-values.field-0.0 c.from_residual-in_err-values.ensures.1
    (λ other. no_start c.args.self.now.run.bench.pair c.args.name.now c.args.value.now c.in_ok-latches.latches
    (small_variables c.args.self.now.run.bench.pair.circuit (subst IsCircuit c.circuit.ensures c.facts.ensures)) c.in_ok-latches.ensures.ok
    (λ bits h. c.in_err-values.ensures.err other bits (subst (λ m. IsValue c.args.value.now m bits) (sym c.len.ensures) h))) refl

pub start_latches-requires-clause-latches : goal.start_latches-requires-clause-latches
start_latches-requires-clause-latches c =
    subst (All (IsLatchLiteral c.args.self.now.run.bench.pair.circuit)) (sym c.as_slice.ensures) c.in_ok-latches.ensures.ok.1

pub invariant_of-self : goal.invariant_of-self
invariant_of-self c =
    let fits = still_fits c.args.self.now _ _ c.start_latches.ensures in
    record { has_signals = fits.signals; has_latches = fits.latches; has_property = fits.property }

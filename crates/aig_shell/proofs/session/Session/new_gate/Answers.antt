use Rattle.std.proofs.Common.{refl, rules, subst}
use Rattle.aig_base.specs.Circuit.{IsCircuit}
use Rattle.aig_bench.specs.Edit.{append_gate}
use Rattle.aig_shell.specs.Request.{append}
use Rattle.aig_shell.proofs.editing.Impossible.{no_side0, no_side1, no_append, append_done}
use Rattle.aig_shell.proofs.editing.Leading.{leads_one}
use Rattle.aig_shell.proofs.editing.Results.{ends_err, ends_fault}
use Rattle.aig_shell.proofs.editing.Sessions.{fits_same, still_fits}
use Rattle.aig_shell.proofs.session.Session.new_gate.Goals as goal

pub returns-in_err-side0-clause-edits : goal.returns-in_err-side0-clause-edits
returns-in_err-side0-clause-edits c =
    ends_err c.args.self.now.run.bench.pair c.args.self.now.run.bench.pair (append c.args.side0.now c.args.side1.now) c.from_residual.result c.in_err-side0.field-0.0 c.from_residual.ensures.1
    (λ other. no_side0 c.args.self.now.run.bench.pair c.args.side0.now c.args.side1.now (c.in_err-side0.ensures.err other)) refl

pub returns-in_err-side1-clause-edits : goal.returns-in_err-side1-clause-edits
returns-in_err-side1-clause-edits c =
    ends_err c.args.self.now.run.bench.pair c.args.self.now.run.bench.pair (append c.args.side0.now c.args.side1.now) c.from_residual-in_err-side1.result c.in_err-side1.field-0.0 c.from_residual-in_err-side1.ensures.1
    (λ other. no_side1 c.args.self.now.run.bench.pair c.args.side0.now c.args.side1.now (c.in_err-side1.ensures.err other)) refl

pub returns-in_err-append_gate-clause-edits : goal.returns-in_err-append_gate-clause-edits
returns-in_err-append_gate-clause-edits c =
    ends_fault c.args.self.now.run.bench.pair c.append_gate.new.self.pair (append c.args.side0.now c.args.side1.now) c.from_residual-in_err-append_gate.result
    c.in_err-append_gate.field-0.0 c.from_residual-in_err-append_gate.ensures.1
    (no_append c.args.self.now.run.bench.pair (subst IsCircuit c.circuit.ensures c.facts.ensures) c.append_gate.new.self.pair
    c.args.side0.now c.args.side1.now c.in_ok-side0.side0 c.in_ok-side1.side1 c.in_err-append_gate.field-0.0
    c.in_ok-side0.ensures.ok c.in_ok-side1.ensures.ok c.in_err-append_gate.ensures.edits) c.in_err-append_gate.ensures.edits.1

pub invariant_of-self : goal.invariant_of-self
invariant_of-self c =
    let fits = fits_same c.args.self.now _ c.in_err-append_gate.ensures.edits.1 in
    record { has_signals = fits.signals; has_latches = fits.latches; has_property = fits.property }

pub invariant_of-self-2 : goal.invariant_of-self-2
invariant_of-self-2 c =
    let fits = still_fits c.args.self.now _ _ (leads_one _ _ (append_gate c.in_ok-side0.side0 c.in_ok-side1.side1) c.in_ok-append_gate.ensures.edits.0 c.in_ok-append_gate.ensures.edits.1) in
    record { has_signals = fits.signals; has_latches = fits.latches; has_property = fits.property }

pub returns-clause-edits : goal.returns-clause-edits
returns-clause-edits c =
    append_done c.args.self.now.run.bench.pair _ c.args.side0.now c.args.side1.now c.in_ok-side0.side0 c.in_ok-side1.side1
    c.in_ok-side0.ensures.ok c.in_ok-side1.ensures.ok c.in_ok-append_gate.ensures.edits

pub returns-clause-text : goal.returns-clause-text
returns-clause-text c = search rules

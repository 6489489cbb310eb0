use Rattle.std.proofs.Common.{refl, subst}
use Rattle.aig_base.specs.Circuit.{IsCircuit}
use Rattle.aig_bench.specs.Edit as edit
use Rattle.aig_shell.specs.Request.{rewire}
use Rattle.aig_shell.proofs.editing.Impossible.{no_gate, no_gate0, no_gate1, no_rewire, rewire_done}
use Rattle.aig_shell.proofs.editing.Leading.{leads_one}
use Rattle.aig_shell.proofs.editing.Results.{ends_err, ends_fault}
use Rattle.aig_shell.proofs.editing.Sessions.{fits_same, still_fits}
use Rattle.aig_shell.proofs.words.Definitions.{rewired_text}
use Rattle.aig_shell.proofs.session.Session.rewire.Goals as goal

pub returns-in_err-literal-clause-edits : goal.returns-in_err-literal-clause-edits
returns-in_err-literal-clause-edits c =
    ends_err c.args.self.now.run.bench.pair c.args.self.now.run.bench.pair (rewire c.args.name.now c.args.side0.now c.args.side1.now) c.from_residual.result c.in_err-literal.field-0.0 c.from_residual.ensures.1
    (λ other. no_gate c.args.self.now.run.bench.pair c.args.name.now c.args.side0.now c.args.side1.now (c.in_err-literal.ensures.err other)) refl

pub returns-in_err-side0-clause-edits : goal.returns-in_err-side0-clause-edits
returns-in_err-side0-clause-edits c =
    ends_err c.args.self.now.run.bench.pair c.args.self.now.run.bench.pair (rewire c.args.name.now c.args.side0.now c.args.side1.now) c.from_residual-in_err-side0.result c.in_err-side0.field-0.0 c.from_residual-in_err-side0.ensures.1
    (λ other. no_gate0 c.args.self.now.run.bench.pair c.args.name.now c.args.side0.now c.args.side1.now (c.in_err-side0.ensures.err other)) refl

pub returns-in_err-side1-clause-edits : goal.returns-in_err-side1-clause-edits
returns-in_err-side1-clause-edits c =
    ends_err c.args.self.now.run.bench.pair c.args.self.now.run.bench.pair (rewire c.args.name.now c.args.side0.now c.args.side1.now) c.from_residual-in_err-side1.result c.in_err-side1.field-0.0 c.from_residual-in_err-side1.ensures.1
    (λ other. no_gate1 c.args.self.now.run.bench.pair c.args.name.now c.args.side0.now c.args.side1.now (c.in_err-side1.ensures.err other)) refl

pub returns-in_err-rewire-clause-edits : goal.returns-in_err-rewire-clause-edits
returns-in_err-rewire-clause-edits c =
    ends_fault c.args.self.now.run.bench.pair c.rewire.new.self.pair (rewire c.args.name.now c.args.side0.now c.args.side1.now) c.from_residual-in_err-rewire.result
    c.in_err-rewire.field-0.0 c.from_residual-in_err-rewire.ensures.1
    (no_rewire c.args.self.now.run.bench.pair (subst IsCircuit c.circuit.ensures c.facts.ensures) c.rewire.new.self.pair
    c.args.name.now c.args.side0.now c.args.side1.now c.in_ok-literal.literal c.in_ok-side0.side0 c.in_ok-side1.side1
    c.in_err-rewire.field-0.0 c.in_ok-literal.ensures.ok c.in_ok-side0.ensures.ok c.in_ok-side1.ensures.ok
    c.in_err-rewire.ensures.edits) c.in_err-rewire.ensures.edits.1

pub invariant_of-self : goal.invariant_of-self
invariant_of-self c =
    let fits = fits_same c.args.self.now _ c.in_err-rewire.ensures.edits.1 in
    record { has_signals = fits.signals; has_latches = fits.latches; has_property = fits.property }

pub invariant_of-self-2 : goal.invariant_of-self-2
invariant_of-self-2 c =
    let fits = still_fits c.args.self.now _ _ (leads_one _ _ (edit.rewire c.in_ok-literal.literal c.in_ok-side0.side0 c.in_ok-side1.side1) c.in_ok-rewire.ensures.edits.0 c.in_ok-rewire.ensures.edits.1) in
    record { has_signals = fits.signals; has_latches = fits.latches; has_property = fits.property }

pub returns-clause-edits : goal.returns-clause-edits
returns-clause-edits c =
    rewire_done c.args.self.now.run.bench.pair _ c.args.name.now c.args.side0.now c.args.side1.now c.in_ok-literal.literal c.in_ok-side0.side0
    c.in_ok-side1.side1 c.in_ok-literal.ensures.ok c.in_ok-side0.ensures.ok c.in_ok-side1.ensures.ok
    c.in_ok-rewire.ensures.edits

pub returns-clause-text : goal.returns-clause-text
returns-clause-text c =
    let (said, is, added) = c.in_ok-push_gate.ensures in
    rewired_text c.args.self.now.run.bench.pair.circuit c.circuit-2.result.now c.args.name.now c.args.side0.now
    c.args.side1.now c.in_ok-literal.literal c.in_ok-side0.side0 c.in_ok-side1.side1 c.args.text.now.items
    c.push_gate.new.text.items said c.circuit-2.ensures c.requires.empty added c.in_ok-literal.ensures.ok
    c.in_ok-side0.ensures.ok c.in_ok-side1.ensures.ok is

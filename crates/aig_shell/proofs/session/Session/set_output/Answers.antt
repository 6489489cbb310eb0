use Rattle.std.proofs.Common.{refl, subst}
use Rattle.aig_base.specs.Circuit.{IsCircuit}
use Rattle.aig_bench.specs.Edit as edit
use Rattle.aig_shell.specs.Request.{out}
use Rattle.aig_shell.proofs.editing.Impossible.{no_literal, no_out, out_done}
use Rattle.aig_shell.proofs.editing.Leading.{leads_one}
use Rattle.aig_shell.proofs.editing.Results.{ends_err, ends_fault}
use Rattle.aig_shell.proofs.editing.Sessions.{still_fits}
use Rattle.aig_shell.proofs.session.Session.set_output.Goals as goal

pub returns-in_err-literal-clause-edits : goal.returns-in_err-literal-clause-edits
returns-in_err-literal-clause-edits c =
    ends_err c.args.self.now.run.bench.pair c.args.self.now.run.bench.pair (out c.args.name.now c.args.literal.now)
    c.from_residual-in_err-literal.result c.in_err-literal.field-0.0 c.from_residual-in_err-literal.ensures.1
    (λ other. no_literal c.args.self.now.run.bench.pair c.args.name.now c.args.literal.now (c.in_err-literal.ensures.err other)) refl

pub returns-in_err-set_output-clause-edits : goal.returns-in_err-set_output-clause-edits
returns-in_err-set_output-clause-edits c =
    ends_fault c.args.self.now.run.bench.pair c.set_output.new.self.pair (out c.args.name.now c.args.literal.now)
    c.from_residual-in_err-set_output.result c.in_err-set_output.field-0.0 c.from_residual-in_err-set_output.ensures.1
    (no_out c.args.self.now.run.bench.pair (subst IsCircuit c.circuit.ensures c.facts.ensures) c.set_output.new.self.pair
    c.args.name.now c.args.literal.now c.in_ok-position.position c.in_ok-literal.literal c.in_err-set_output.field-0.0
    c.in_ok-position.ensures.ok c.in_ok-literal.ensures.ok c.in_err-set_output.ensures.edits) c.in_err-set_output.ensures.edits.1

pub invariant_of-self-2 : goal.invariant_of-self-2
invariant_of-self-2 c =
    let fits = still_fits c.args.self.now _ _ (leads_one _ _ (edit.set_output c.in_ok-position.position c.in_ok-literal.literal) c.in_ok-set_output.ensures.edits.0 c.in_ok-set_output.ensures.edits.1) in
    record { has_signals = fits.signals; has_latches = fits.latches; has_property = fits.property }

pub returns-clause-edits : goal.returns-clause-edits
returns-clause-edits c =
    out_done c.args.self.now.run.bench.pair _ c.args.name.now c.args.literal.now c.in_ok-position.position c.in_ok-literal.literal
    c.in_ok-position.ensures.ok c.in_ok-literal.ensures.ok c.in_ok-set_output.ensures.edits

use Rattle.std.proofs.Common.{ℕ, List, subst, ◌∙◌}
use Rattle.std.specs.Prelude.{option_map}
use Rattle.aig_base.specs.Circuit.{IsCircuit}
use Rattle.aig_base.proofs.circuits.Gates.{defined_in_range}
use Rattle.aig_signals.proofs.Defined.{meant_known}
use Rattle.aig_why.specs.Why.{run_of}
use Rattle.aig_shell.specs.Explained.{Explains}
use Rattle.aig_shell.specs.Request.{why}
use Rattle.aig_shell.specs.Session.{own_circuit}
use Rattle.aig_shell.proofs.explained.Asking.{name_answered, no_frame, no_name, query_err, query_memory}
use Rattle.aig_shell.proofs.session.Session.explain_name.Goals as goal

pub returns-in_err-literals : goal.returns-in_err-literals
returns-in_err-literals c =
    query_err c.args.self.now (why c.args.name.now (option_map (λ w. w.now) c.args.frame)) _ _ c.in_err-literals.field-0.0
    c.from_residual.ensures.1
    (λ other s h. no_name c.args.self.now s h c.args.name.now (option_map (λ w. w.now) c.args.frame)
    (subst IsCircuit c.circuit.ensures c.facts.ensures) (c.in_err-literals.ensures.err other))

pub returns-in_err-frame : goal.returns-in_err-frame
returns-in_err-frame c =
    query_err c.args.self.now (why c.args.name.now (option_map (λ w. w.now) c.args.frame)) _ _ c.in_err-frame.field-0.0
    c.from_residual-in_err-frame.ensures.1
    (λ other s h. no_frame c.args.self.now s h c.args.name.now (option_map (λ w. w.now) c.args.frame) c.in_err-frame.ensures.err)

pub returns-in_err-from_slice : goal.returns-in_err-from_slice
returns-in_err-from_slice c =
    query_memory c.args.self.now (why c.args.name.now (option_map (λ w. w.now) c.args.frame)) _ _ c.from_residual-in_err-from_slice.ensures.1

pub returns-in_err-push_explanation : goal.returns-in_err-push_explanation
returns-in_err-push_explanation c =
    query_memory c.args.self.now (why c.args.name.now (option_map (λ w. w.now) c.args.frame)) _ _ c.from_residual-in_err-push_explanation.ensures.1

pub returns : goal.returns
returns c = λ s h.
    name_answered c.args.self.now s h c.args.name.now c.in_ok-literals.literals (option_map (λ w. w.now) c.args.frame) c.in_ok-frame.frame
    c.push_explanation.new.text.items c.in_ok-frame.ensures.ok c.in_ok-literals.ensures.ok
    (subst (λ (name : List ℕ). Explains (own_circuit c.args.self.now) (run_of c.args.self.now.run.bench.pair) name
    c.in_ok-literals.literals c.in_ok-frame.frame c.push_explanation.new.text.items) (c.from_vec.ensures ∙ c.in_ok-from_slice.ensures.items)
    c.in_ok-push_explanation.ensures)

pub push_explanation-requires-clause-defined : goal.push_explanation-requires-clause-defined
push_explanation-requires-clause-defined c =
    meant_known c.args.self.now.run.bench.pair.circuit (subst IsCircuit c.circuit.ensures c.facts.ensures) c.args.name.now
    c.in_ok-literals.literals c.in_ok-literals.ensures.ok

pub push_explanation-requires-clause-range : goal.push_explanation-requires-clause-range
push_explanation-requires-clause-range c =
    let circuit : IsCircuit c.args.self.now.run.bench.pair.circuit = subst IsCircuit c.circuit.ensures c.facts.ensures in
    let defined = meant_known c.args.self.now.run.bench.pair.circuit circuit c.args.name.now c.in_ok-literals.literals c.in_ok-literals.ensures.ok in
    λ k d lt. defined_in_range c.args.self.now.run.bench.pair.circuit circuit.sound _ (defined k d lt)

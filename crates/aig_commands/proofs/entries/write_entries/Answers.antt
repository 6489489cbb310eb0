use Rattle.std.proofs.Common.{ℕ, List, ap}
use Rattle.std.specs.Fmt.{decimal}
use Rattle.aig_bytes.proofs.WriteLemmas.{writes_then, writes_stop, writes_same}
use Rattle.aig_parts.specs.declared.latch.Latch.{Latch}
use Rattle.aig_parts.specs.declared.symbols.Kind.TheVariants as kinds
use Rattle.aig_commands.specs.Names.{entry_lines, entries_text, no_literal}
use Rattle.aig_commands.proofs.entries.write_entries.Goals as goal

pub returns-in_err-write_literals : goal.returns-in_err-write_literals
unfolding entries_text
returns-in_err-write_literals g c =
    writes_stop _ (writes_same c.in_err-write_literals.ensures (ap (entry_lines c.args.form decimal c.args.circuit.now.symbols kinds.Input 0) c.inputs.ensures)) c.from_residual.ensures.0

pub returns-in_err-write_latches : goal.returns-in_err-write_latches
unfolding entries_text
returns-in_err-write_latches g c =
    writes_then (writes_same c.in_ok-write_literals.ensures (ap (entry_lines c.args.form decimal c.args.circuit.now.symbols kinds.Input 0) c.inputs.ensures))
    (writes_stop _ (writes_same c.in_err-write_latches.ensures (ap (entry_lines c.args.form (λ (x : Latch). decimal x.lit) c.args.circuit.now.symbols kinds.Latch 0) c.latches.ensures)) c.from_residual-in_err-write_latches.ensures.0)

pub returns-in_err-write_literals-2 : goal.returns-in_err-write_literals-2
unfolding entries_text
returns-in_err-write_literals-2 g c =
    writes_then (writes_same c.in_ok-write_literals.ensures (ap (entry_lines c.args.form decimal c.args.circuit.now.symbols kinds.Input 0) c.inputs.ensures))
    (writes_then (writes_same c.in_ok-write_latches.ensures (ap (entry_lines c.args.form (λ (x : Latch). decimal x.lit) c.args.circuit.now.symbols kinds.Latch 0) c.latches.ensures))
    (writes_stop _ (writes_same c.in_err-write_literals-2.ensures (ap (entry_lines c.args.form decimal c.args.circuit.now.symbols kinds.Output 0) c.outputs.ensures)) c.from_residual-in_err-write_literals-2.ensures.0))

pub returns-in_err-write_literals-3 : goal.returns-in_err-write_literals-3
unfolding entries_text
returns-in_err-write_literals-3 g c =
    writes_then (writes_same c.in_ok-write_literals.ensures (ap (entry_lines c.args.form decimal c.args.circuit.now.symbols kinds.Input 0) c.inputs.ensures))
    (writes_then (writes_same c.in_ok-write_latches.ensures (ap (entry_lines c.args.form (λ (x : Latch). decimal x.lit) c.args.circuit.now.symbols kinds.Latch 0) c.latches.ensures))
    (writes_then (writes_same c.in_ok-write_literals-2.ensures (ap (entry_lines c.args.form decimal c.args.circuit.now.symbols kinds.Output 0) c.outputs.ensures))
    (writes_stop _ (writes_same c.in_err-write_literals-3.ensures (ap (entry_lines c.args.form decimal c.args.circuit.now.symbols kinds.Bad 0) c.bad.ensures)) c.from_residual-in_err-write_literals-3.ensures.0)))

pub returns-in_err-write_literals-4 : goal.returns-in_err-write_literals-4
unfolding entries_text
returns-in_err-write_literals-4 g c =
    writes_then (writes_same c.in_ok-write_literals.ensures (ap (entry_lines c.args.form decimal c.args.circuit.now.symbols kinds.Input 0) c.inputs.ensures))
    (writes_then (writes_same c.in_ok-write_latches.ensures (ap (entry_lines c.args.form (λ (x : Latch). decimal x.lit) c.args.circuit.now.symbols kinds.Latch 0) c.latches.ensures))
    (writes_then (writes_same c.in_ok-write_literals-2.ensures (ap (entry_lines c.args.form decimal c.args.circuit.now.symbols kinds.Output 0) c.outputs.ensures))
    (writes_then (writes_same c.in_ok-write_literals-3.ensures (ap (entry_lines c.args.form decimal c.args.circuit.now.symbols kinds.Bad 0) c.bad.ensures))
    (writes_stop _ (writes_same c.in_err-write_literals-4.ensures (ap (entry_lines c.args.form decimal c.args.circuit.now.symbols kinds.Constraint 0) c.constraints.ensures)) c.from_residual-in_err-write_literals-4.ensures.0))))

pub returns-in_err-write_justice : goal.returns-in_err-write_justice
unfolding entries_text
returns-in_err-write_justice g c =
    writes_then (writes_same c.in_ok-write_literals.ensures (ap (entry_lines c.args.form decimal c.args.circuit.now.symbols kinds.Input 0) c.inputs.ensures))
    (writes_then (writes_same c.in_ok-write_latches.ensures (ap (entry_lines c.args.form (λ (x : Latch). decimal x.lit) c.args.circuit.now.symbols kinds.Latch 0) c.latches.ensures))
    (writes_then (writes_same c.in_ok-write_literals-2.ensures (ap (entry_lines c.args.form decimal c.args.circuit.now.symbols kinds.Output 0) c.outputs.ensures))
    (writes_then (writes_same c.in_ok-write_literals-3.ensures (ap (entry_lines c.args.form decimal c.args.circuit.now.symbols kinds.Bad 0) c.bad.ensures))
    (writes_then (writes_same c.in_ok-write_literals-4.ensures (ap (entry_lines c.args.form decimal c.args.circuit.now.symbols kinds.Constraint 0) c.constraints.ensures))
    (writes_stop _ (writes_same c.in_err-write_justice.ensures (ap (entry_lines c.args.form (λ (ls : List ℕ). no_literal c.args.form) c.args.circuit.now.symbols kinds.Justice 0) c.justice.ensures)) c.from_residual-in_err-write_justice.ensures.0)))))

pub returns : goal.returns
unfolding entries_text
returns g c =
    writes_then (writes_same c.in_ok-write_literals.ensures (ap (entry_lines c.args.form decimal c.args.circuit.now.symbols kinds.Input 0) c.inputs.ensures))
    (writes_then (writes_same c.in_ok-write_latches.ensures (ap (entry_lines c.args.form (λ (x : Latch). decimal x.lit) c.args.circuit.now.symbols kinds.Latch 0) c.latches.ensures))
    (writes_then (writes_same c.in_ok-write_literals-2.ensures (ap (entry_lines c.args.form decimal c.args.circuit.now.symbols kinds.Output 0) c.outputs.ensures))
    (writes_then (writes_same c.in_ok-write_literals-3.ensures (ap (entry_lines c.args.form decimal c.args.circuit.now.symbols kinds.Bad 0) c.bad.ensures))
    (writes_then (writes_same c.in_ok-write_literals-4.ensures (ap (entry_lines c.args.form decimal c.args.circuit.now.symbols kinds.Constraint 0) c.constraints.ensures))
    (writes_then (writes_same c.in_ok-write_justice.ensures (ap (entry_lines c.args.form (λ (ls : List ℕ). no_literal c.args.form) c.args.circuit.now.symbols kinds.Justice 0) c.justice.ensures))
    (writes_same c.write_literals-5.ensures (ap (entry_lines c.args.form decimal c.args.circuit.now.symbols kinds.Fairness 0) c.fairness.ensures)))))))

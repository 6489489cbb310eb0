use Rattle.std.proofs.Common.{ℕ, ◌<◌, Err, List, IfSome, length, refl, sym, subst, ◌∙◌}
use Rattle.aig_bytes.proofs.Results.{known_err}
use Rattle.aig_parts.specs.declared.latch.Latch.{Latch}
use Rattle.aig_shell.specs.Latches.{AreAlike}
use Rattle.aig_shell.proofs.editing.Kept.{alike_signals}
use Rattle.aig_command.specs.declared.run_fault.RunFault.TheVariants as run_faults
use Rattle.aig_shell.specs.Conversation.{RefusesRows}
use Rattle.aig_shell.proofs.lines.Shells.{rows_refused}
use Rattle.aig_shell.proofs.session.Session.new.Goals as goal

pub invariant_of-result : goal.invariant_of-result
invariant_of-result c =
    let circuit = c.in_ok-run.run'.bench.pair.circuit in
    record {
      has_signals = c.in_ok-signals.ensures ∙ sym (alike_signals c.args.circuit circuit c.in_ok-run.ensures.resets);
      has_latches = subst (λ (own : List Latch). AreAlike own circuit.latches) (sym c.in_ok-run.ensures.latches)
          c.in_ok-run.ensures.resets.latches;
      has_property = subst (λ (ls : List ℕ). IfSome c.args.given.property (λ k. k < length ls)) (sym c.in_ok-run.ensures.resets.bad)
          c.requires.property;
    }

pub returns-in_err-signals-clause-refused : goal.returns-in_err-signals-clause-refused
returns-in_err-signals-clause-refused c =
    known_err c.from_residual.result run_faults.Memory (RefusesRows c.args.circuit c.args.given.rows.rows) c.from_residual.ensures.1 tt

pub returns-in_err-run-clause-refused : goal.returns-in_err-run-clause-refused
returns-in_err-run-clause-refused c =
    let fault = c.in_err-run.field-0.0 in
    known_err c.from_residual-in_err-run.result (run_faults.Bench fault) (RefusesRows c.args.circuit c.args.given.rows.rows)
    c.from_residual-in_err-run.ensures.1
    (rows_refused (Err fault) c.args.circuit c.args.given.rows.rows fault refl c.in_err-run.ensures.width c.in_err-run.ensures.limit)

pub returns-in_err-first-clause-refused : goal.returns-in_err-first-clause-refused
returns-in_err-first-clause-refused c =
    known_err c.from_residual-in_err-first.result run_faults.Memory (RefusesRows c.args.circuit c.args.given.rows.rows)
    c.from_residual-in_err-first.ensures.1 tt

pub returns-in_err-kept-clause-refused : goal.returns-in_err-kept-clause-refused
returns-in_err-kept-clause-refused c =
    known_err c.from_residual-in_err-kept.result run_faults.Memory (RefusesRows c.args.circuit c.args.given.rows.rows)
    c.from_residual-in_err-kept.ensures.1 tt

use Rattle.std.proofs.Common.{All, sym, subst}
use Rattle.aig_parts.specs.Literal.{variable}
use Rattle.aig_base.specs.Circuit.{IsCircuit}
use Rattle.aig_base.specs.Sections.{IsDefined}
use Rattle.aig_signals.proofs.Defined.{meant_known}
use Rattle.aig_shell.proofs.tables.Shown.{handed_on, no_row}
use Rattle.aig_shell.proofs.session.Session.named_row.Goals as goal

pub row-requires-clause-defined : goal.row-requires-clause-defined
row-requires-clause-defined c =
    subst (All (λ l. IsDefined c.args.self.now.run.bench.pair.circuit (variable l))) (sym c.as_slice.ensures)
    (meant_known c.args.self.now.run.bench.pair.circuit (subst IsCircuit c.circuit.ensures c.facts.ensures) c.args.name.now
    c.in_ok-literals.literals c.in_ok-literals.ensures.ok)

pub returns-in_err-literals-clause-err : goal.returns-in_err-literals-clause-err
returns-in_err-literals-clause-err c =
    handed_on c.from_residual.result c.in_err-literals.field-0.0 c.from_residual.ensures.1
    (λ other t n. no_row c.args.self.now.run.bench.pair t n c.args.name.now
    (subst IsCircuit c.circuit.ensures c.facts.ensures) (c.in_err-literals.ensures.err other))

use Rattle.std.proofs.Common.{◌∙◌, Err, sym, ap, subst}
use Rattle.std.specs.Prelude.{option_copied}
use Rattle.std.proofs.lemmas.Result.{IfErr-weaker, IfOk-weaker}
use Rattle.aig_bytes.proofs.Results.{known_err}
use Rattle.aig_command.specs.declared.run_fault.RunFault.{RunFault}
use Rattle.aig_command.specs.declared.run_fault.RunFault.TheVariants as run_faults
use Rattle.aig_why.specs.Why.{ExplainsRun, RefusesRun, Run}
use Rattle.aig_why.specs.Named.{IsNamingOf}
use Rattle.aig_why.proofs.RunLemmas.{asked_with, bench_refused, run_is}
use Rattle.aig_why.proofs.command.explain.Goals as goal

pub explain_run-requires-clause-defined : goal.explain_run-requires-clause-defined
explain_run-requires-clause-defined c =
    asked_with c.args.circuit c.in_ok-run.run'.bench.pair.circuit c.in_ok-run.ensures.resets (option_copied c.args.question) c.requires.defined

pub returns-clause-text : goal.returns-clause-text
returns-clause-text c = λ property name asked.
    let raw = c.args.circuit in
    let of : IsNamingOf raw c.in_ok-run.run'.bench.pair c.in_ok-naming.naming = record { resets = c.in_ok-run.ensures.resets; inputs = c.in_ok-naming.ensures.inputs; latches = c.in_ok-naming.ensures.latches } in
    IfOk-weaker c.explain_run.result _ _
    (λ text h. subst (λ (run : Run). ExplainsRun c.args.form raw run property name c.args.span text.items)
    (run_is c.in_ok-run.run'.bench.pair c.args.given.start.items c.args.given.rows.rows (c.in_ok-run.ensures.start ∙ c.deref.ensures.value) c.in_ok-run.ensures.rows) h)
    (c.explain_run.ensures.text raw of (sym c.in_ok-run.ensures.latches) property name asked)

pub returns-clause-fault : goal.returns-clause-fault
returns-clause-fault c = λ property name asked.
    let raw = c.args.circuit in
    let of : IsNamingOf raw c.in_ok-run.run'.bench.pair c.in_ok-naming.naming = record { resets = c.in_ok-run.ensures.resets; inputs = c.in_ok-naming.ensures.inputs; latches = c.in_ok-naming.ensures.latches } in
    IfErr-weaker c.explain_run.result _ _
    (λ fault h. subst (λ (run : Run). RefusesRun raw run property name c.args.span fault)
    (run_is c.in_ok-run.run'.bench.pair c.args.given.start.items c.args.given.rows.rows (c.in_ok-run.ensures.start ∙ c.deref.ensures.value) c.in_ok-run.ensures.rows) h)
    (c.explain_run.ensures.fault raw of property name asked)

pub returns-in_err-naming-clause-fault : goal.returns-in_err-naming-clause-fault
returns-in_err-naming-clause-fault c = λ property name asked.
    known_err c.from_residual.result run_faults.Memory
    (λ (f : RunFault). RefusesRun c.args.circuit (record { start = c.args.given.start.items; rows = c.args.given.rows.rows }) property name c.args.span f)
    c.from_residual.ensures.1 tt

pub returns-in_err-run-clause-fault : goal.returns-in_err-run-clause-fault
returns-in_err-run-clause-fault c = λ property name asked.
    known_err c.from_residual-in_err-run.result (run_faults.Bench c.in_err-run.field-0.0)
    (λ (f : RunFault). RefusesRun c.args.circuit (record { start = c.args.given.start.items; rows = c.args.given.rows.rows }) property name c.args.span f)
    c.from_residual-in_err-run.ensures.1
    (bench_refused c.args.circuit (record { start = c.args.given.start.items; rows = c.args.given.rows.rows }) property name c.args.span
    c.in_err-run.field-0.0 (λ is. c.in_err-run.ensures.width (ap Err is)) (λ is. c.in_err-run.ensures.limit (ap Err is)))

use Rattle.std.proofs.Common.{ap, Err}
use Rattle.aig_bytes.proofs.Results.{known_err}
use Rattle.aig_bench.specs.BenchState.{CircuitAndRows}
use Rattle.aig_command.specs.declared.run_fault.RunFault.TheVariants as run_faults
use Rattle.aig_script.specs.BenchFiles.{RefusesFiles}
use Rattle.aig_script.proofs.Benches.{made_of_files, ok_is_no_error, refuses_bench}
use Rattle.aig_script.proofs.bench.open_bench.Goals as goal

pub returns-clause-bench : goal.returns-clause-bench
returns-clause-bench g c =
    let e = c.in_ok-new.ensures in
    let pair : CircuitAndRows = record { circuit = c.in_ok-circuit.circuit; rows = c.in_ok-stimulus.stimulus.rows } in
    made_of_files c.args.circuit.now c.args.stimulus.now pair c.in_ok-new.field-0.pair
    (record {
      circuit_is = c.in_ok-circuit.ensures.circuit;
      rows_are = c.in_ok-stimulus.ensures.rows;
      frames = c.in_ok-stimulus.ensures.limit;
    })
    e.made (λ many. ok_is_no_error _ _ (e.limit.1 (c.in_ok-stimulus.ensures.width, many)))

pub returns-in_err-new-clause-fault : goal.returns-in_err-new-clause-fault
returns-in_err-new-clause-fault g c =
    let e = c.in_err-new.ensures in
    let fault = c.in_err-new.field-0.0 in
    let rows = c.in_ok-stimulus.stimulus.rows in
    let pair : CircuitAndRows = record { circuit = c.in_ok-circuit.circuit; rows = rows } in
    known_err c.from_residual-in_err-new.result (run_faults.Bench fault) (RefusesFiles c.args.circuit.now c.args.stimulus.now)
    c.from_residual-in_err-new.ensures.1 (
      pair,
      record {
        circuit_is = c.in_ok-circuit.ensures.circuit;
        rows_are = c.in_ok-stimulus.ensures.rows;
        frames = c.in_ok-stimulus.ensures.limit;
      },
      refuses_bench pair fault (λ is. e.width.0 (ap Err is) c.in_ok-stimulus.ensures.width) (λ is. (e.limit.0 (ap Err is)).1),
    )

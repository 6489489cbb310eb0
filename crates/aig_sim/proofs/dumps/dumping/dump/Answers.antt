use Rattle.std.proofs.Common.{subst, ◌∙◌}
use Rattle.std.specs.Prelude.{Ok, Err}
use Rattle.aig_parts.specs.declared.raw.Raw.{Raw}
use Rattle.aig_sim.specs.declared.stimulus.fault.StimFault.TheVariants.{Io, Memory}
use Rattle.aig_bytes.proofs.WriteLemmas.{writes_same}
use Rattle.aig_sim.specs.Dumped.{Dumps}
use Rattle.aig_sim.specs.state.Dumping.{AreDumped}
use Rattle.aig_sim.specs.state.Running.{Streamed}
use Rattle.aig_sim.proofs.LineLemmas.{forwarded}
use Rattle.aig_sim.proofs.DumpedLemmas.{dumps_nothing, dumps_no_header, dumps_stopped, dumps_all, dumps_no_end}
use Rattle.aig_sim.proofs.dumps.dumping.dump.Goals as goal

pub returns-in_err-header-clause-dumped : goal.returns-in_err-header-clause-dumped
returns-in_err-header-clause-dumped g c =
    let left = g.R.Read.left c.args.reader.now in
    let reads = g.R.Read.failures c.args.reader.now in
    let written = g.W.Write.written c.args.out.now in
    let writes = g.W.Write.failures c.args.out.now in
    forwarded (λ r. Dumps c.args.circuit.now (record { left = left; reads = reads; writes = writes })
    (record { left = left; reads = reads; writes = writes }) written written r)
    c.from_residual.result Memory c.from_residual.ensures.1
    (dumps_nothing c.args.circuit.now left reads written writes)

pub returns-in_err-recorder-clause-dumped : goal.returns-in_err-recorder-clause-dumped
returns-in_err-recorder-clause-dumped g c =
    let left = g.R.Read.left c.args.reader.now in
    let reads = g.R.Read.failures c.args.reader.now in
    let written = g.W.Write.written c.args.out.now in
    let writes = g.W.Write.failures c.args.out.now in
    forwarded (λ r. Dumps c.args.circuit.now (record { left = left; reads = reads; writes = writes })
    (record { left = left; reads = reads; writes = writes }) written written r)
    c.from_residual-in_err-recorder.result Memory c.from_residual-in_err-recorder.ensures.1
    (dumps_nothing c.args.circuit.now left reads written writes)

pub returns-in_err-simulation-clause-dumped : goal.returns-in_err-simulation-clause-dumped
returns-in_err-simulation-clause-dumped g c =
    let left = g.R.Read.left c.args.reader.now in
    let reads = g.R.Read.failures c.args.reader.now in
    let written = g.W.Write.written c.args.out.now in
    let writes = g.W.Write.failures c.args.out.now in
    forwarded (λ r. Dumps c.args.circuit.now (record { left = left; reads = reads; writes = writes })
    (record { left = left; reads = reads; writes = writes }) written written r)
    c.from_residual-in_err-simulation.result Memory c.from_residual-in_err-simulation.ensures.1
    (dumps_nothing c.args.circuit.now left reads written writes)

pub returns-in_err-write_all-clause-dumped : goal.returns-in_err-write_all-clause-dumped
returns-in_err-write_all-clause-dumped g c =
    let left = g.R.Read.left c.args.reader.now in
    let reads = g.R.Read.failures c.args.reader.now in
    let written = g.W.Write.written c.args.out.now in
    let writes = g.W.Write.failures c.args.out.now in
    let written' = g.W.Write.written c.write_all.new.out in
    let writes' = g.W.Write.failures c.write_all.new.out in
    let e = writes_same c.in_err-write_all.ensures (c.as_slice.ensures.value ∙ c.in_ok-header.ensures) in
    forwarded (λ r. Dumps c.args.circuit.now (record { left = left; reads = reads; writes = writes })
    (record { left = left; reads = reads; writes = writes' }) written written' r)
    c.from_residual-in_err-write_all.result Io c.from_residual-in_err-write_all.ensures.1
    (dumps_no_header c.args.circuit.now left reads writes writes' written written' e.err e.count)

pub returns-in_err-frames-clause-dumped : goal.returns-in_err-frames-clause-dumped
returns-in_err-frames-clause-dumped g c =
    let head = writes_same c.in_ok-write_all.ensures (c.as_slice.ensures.value ∙ c.in_ok-header.ensures) in
    let raw = c.args.circuit.now in
    let left = g.R.Read.left c.args.reader.now in
    let reads = g.R.Read.failures c.args.reader.now in
    let written = g.W.Write.written c.args.out.now in
    let first = g.W.Write.failures c.args.out.now in
    let reported = g.W.Write.written c.write_all.new.out in
    let second = g.W.Write.failures c.write_all.new.out in
    let left' = g.R.Read.left c.run.new.reader in
    let reads' = g.R.Read.failures c.run.new.reader in
    let at_end = g.W.Write.written c.run.new.out in
    let third = g.W.Write.failures c.run.new.out in
    let f = c.in_err-frames.field-0.0 in
    let e = c.in_err-frames.ensures in
    let streams = subst (λ (circuit : Raw). Streamed (λ raw start rows text. AreDumped raw start rows text) circuit
    (record { left = left; reads = reads; writes = second }) (record { left = left'; reads = reads'; writes = third })
    reported at_end (Err f)) c.in_ok-simulation.ensures.circuit e.streams in
    forwarded (λ r. Dumps raw (record { left = left; reads = reads; writes = first })
    (record { left = left'; reads = reads'; writes = third }) written at_end r)
    c.from_residual-in_err-frames.result f c.from_residual-in_err-frames.ensures.1
    (dumps_stopped raw left left' reads reads' first second third written reported at_end head.ok
    head.count f e.memory streams)

pub returns-in_err-write_end-clause-dumped : goal.returns-in_err-write_end-clause-dumped
returns-in_err-write_end-clause-dumped g c =
    let head = writes_same c.in_ok-write_all.ensures (c.as_slice.ensures.value ∙ c.in_ok-header.ensures) in
    let raw = c.args.circuit.now in
    let left = g.R.Read.left c.args.reader.now in
    let reads = g.R.Read.failures c.args.reader.now in
    let written = g.W.Write.written c.args.out.now in
    let first = g.W.Write.failures c.args.out.now in
    let reported = g.W.Write.written c.write_all.new.out in
    let second = g.W.Write.failures c.write_all.new.out in
    let left' = g.R.Read.left c.run.new.reader in
    let reads' = g.R.Read.failures c.run.new.reader in
    let at_end = g.W.Write.written c.run.new.out in
    let third = g.W.Write.failures c.run.new.out in
    let last = g.W.Write.written c.write_end.new.out in
    let fourth = g.W.Write.failures c.write_end.new.out in
    let n = c.in_ok-frames.frames in
    let streams = subst (λ (circuit : Raw). Streamed (λ raw start rows text. AreDumped raw start rows text) circuit
    (record { left = left; reads = reads; writes = second }) (record { left = left'; reads = reads'; writes = third })
    reported at_end (Ok n)) c.in_ok-simulation.ensures.circuit c.in_ok-frames.ensures.streams in
    forwarded (λ r. Dumps raw (record { left = left; reads = reads; writes = first })
    (record { left = left'; reads = reads'; writes = fourth }) written last r)
    c.from_residual-in_err-write_end.result Io c.from_residual-in_err-write_end.ensures.1
    (dumps_no_end raw left left' reads reads' first second third written reported at_end head.ok
    head.count n streams fourth last c.in_err-write_end.ensures.err c.in_err-write_end.ensures.count)

pub returns-clause-dumped : goal.returns-clause-dumped
returns-clause-dumped g c =
    let head = writes_same c.in_ok-write_all.ensures (c.as_slice.ensures.value ∙ c.in_ok-header.ensures) in
    let raw = c.args.circuit.now in
    let left = g.R.Read.left c.args.reader.now in
    let reads = g.R.Read.failures c.args.reader.now in
    let written = g.W.Write.written c.args.out.now in
    let first = g.W.Write.failures c.args.out.now in
    let reported = g.W.Write.written c.write_all.new.out in
    let second = g.W.Write.failures c.write_all.new.out in
    let left' = g.R.Read.left c.run.new.reader in
    let reads' = g.R.Read.failures c.run.new.reader in
    let at_end = g.W.Write.written c.run.new.out in
    let third = g.W.Write.failures c.run.new.out in
    let last = g.W.Write.written c.write_end.new.out in
    let fourth = g.W.Write.failures c.write_end.new.out in
    let n = c.in_ok-frames.frames in
    let streams = subst (λ (circuit : Raw). Streamed (λ raw start rows text. AreDumped raw start rows text) circuit
    (record { left = left; reads = reads; writes = second }) (record { left = left'; reads = reads'; writes = third })
    reported at_end (Ok n)) c.in_ok-simulation.ensures.circuit c.in_ok-frames.ensures.streams in
    dumps_all raw left left' reads reads' first second third written reported at_end head.ok
    head.count n streams fourth last c.in_ok-write_end.ensures.ok c.in_ok-write_end.ensures.count

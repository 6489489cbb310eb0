use Rattle.std.proofs.Common.{◌≡◌, length, ◌∙◌}
use Rattle.std.proofs.lemmas.Result.{IfOk-weaker}
use Rattle.aig_names.specs.declared.header.SignalCounts.{SignalCounts}
use Rattle.aig_names.specs.Header as dump
use Rattle.aig_sim.specs.DumpHeader.{signal_counts, header}
use Rattle.aig_sim.proofs.dumps.header.circuit_header.Goals as goal

pub returns : goal.returns
unfolding header
returns c =
    let raw = c.args.circuit.now in
    let counts : SignalCounts = record {
      inputs = length c.inputs.result.now;
      latches = length c.latches.result.now;
      outputs = length c.outputs.result.now;
      bad = length c.bad.result.now;
      constraints = length c.constraints.result.now;
    } in
    let same : counts ≡ signal_counts raw = λ i. record {
      inputs = length (c.inputs.ensures i);
      latches = length (c.latches.ensures i);
      outputs = length (c.outputs.ensures i);
      bad = length (c.bad.ensures i);
      constraints = length (c.constraints.ensures i);
    } in
    IfOk-weaker c.dump_header.result (λ text. text.items ≡ dump.header c.symbols.result.now counts) (λ text. text.items ≡ header raw)
    (λ text h. h ∙ (λ i. dump.header (c.symbols.ensures i) (same i))) c.dump_header.ensures

use Rattle.std.proofs.Common.{ap}
use Rattle.aig_bytes.proofs.WriteLemmas.{writes_same, writes_stop_at}
use Rattle.aig_commands.specs.Info.{fact_line, fact_number_line}
use Rattle.aig_commands.proofs.info.write_numbers.Goals as goal

pub returns-in_err-write_fact : goal.returns-in_err-write_fact
returns-in_err-write_fact g c =
    writes_stop_at (λ n. fact_number_line n.0.now n.1) c.args.numbers.now c.loop-name.name-index _ c.loop-name.invariant
    c.loop-name-test.true (writes_same c.in_err-write_fact.ensures (ap (fact_line _) c.format.ensures.text))
    c.from_residual.ensures.0

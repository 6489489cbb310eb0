use Rattle.std.proofs.Common.{ap, ◌++◌}
use Rattle.std.specs.Prelude.{codes}
use Rattle.aig_bytes.proofs.WriteLemmas.{writes_then, writes_stop, writes_same}
use Rattle.aig_commands.specs.Info.{fact_line, number_lines, yes_or_no}
use Rattle.aig_commands.proofs.info.write_info.Goals as goal

pub returns-in_err-write_fact : goal.returns-in_err-write_fact
returns-in_err-write_fact g c =
    let facts = c.args.facts.now in
    writes_stop (number_lines c.args.circuit.now facts ++ fact_line (codes "ready") (yes_or_no facts.is_ready))
    (writes_same c.in_err-write_fact.ensures (ap (fact_line (codes "format")) c.format_name.ensures))
    c.from_residual.ensures.0

pub returns-in_err-write_counts : goal.returns-in_err-write_counts
returns-in_err-write_counts g c =
    writes_then
    (writes_same c.in_ok-write_fact.ensures (ap (fact_line (codes "format")) c.format_name.ensures))
    (writes_stop (fact_line (codes "ready") (yes_or_no c.args.facts.now.is_ready)) c.in_err-write_counts.ensures
    c.from_residual-in_err-write_counts.ensures.0)

pub returns : goal.returns
returns g c =
    writes_then
    (writes_same c.in_ok-write_fact.ensures (ap (fact_line (codes "format")) c.format_name.ensures))
    (writes_then c.in_ok-write_counts.ensures
    (writes_same c.write_fact-2.ensures (ap (fact_line (codes "ready")) c.yes_or_no.ensures)))

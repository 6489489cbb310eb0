use Rattle.std.proofs.Common.{ap, ◌++◌}
use Rattle.std.specs.Prelude.{codes}
use Rattle.aig_bytes.proofs.WriteLemmas.{writes_then, writes_stop, writes_same}
use Rattle.aig_commands.proofs.info.write_fact.Goals as goal

pub returns-in_err-write_all : goal.returns-in_err-write_all
returns-in_err-write_all g c =
    writes_stop (codes " " ++ (c.args.value.now ++ codes "\n"))
    (writes_same c.in_err-write_all.ensures c.as_bytes.ensures.value) c.from_residual.ensures.0

pub returns-in_err-write_all-2 : goal.returns-in_err-write_all-2
returns-in_err-write_all-2 g c =
    writes_then (writes_same c.in_ok-write_all.ensures c.as_bytes.ensures.value)
    (writes_stop (c.args.value.now ++ codes "\n") c.in_err-write_all-2.ensures
    c.from_residual-in_err-write_all-2.ensures.0)

pub returns-in_err-write_all-3 : goal.returns-in_err-write_all-3
returns-in_err-write_all-3 g c =
    writes_then (writes_same c.in_ok-write_all.ensures c.as_bytes.ensures.value)
    (writes_then c.in_ok-write_all-2.ensures
    (writes_stop (codes "\n") (writes_same c.in_err-write_all-3.ensures c.as_bytes-2.ensures.value)
    c.from_residual-in_err-write_all-3.ensures.0))

pub returns : goal.returns
returns g c =
    writes_then (writes_same c.in_ok-write_all.ensures c.as_bytes.ensures.value)
    (writes_then c.in_ok-write_all-2.ensures
    (writes_then (writes_same c.in_ok-write_all-3.ensures c.as_bytes-2.ensures.value) c.write_all-4.ensures))

use Rattle.std.proofs.Common.{◌∙◌}
use Rattle.aig_bytes.proofs.WriteLemmas.{writes_then, writes_stop, writes_same}
use Rattle.aig_cnf.proofs.heading.write_query.Goals as goal

pub returns-in_err-write_all : goal.returns-in_err-write_all
returns-in_err-write_all g c =
    writes_stop _ (writes_same c.in_err-write_all.ensures (c.as_bytes.ensures.value ∙ c.goal_option.ensures)) c.from_residual.ensures.0

pub returns-in_err-write_option : goal.returns-in_err-write_option
returns-in_err-write_option g c =
    writes_then (writes_same c.in_ok-write_all.ensures (c.as_bytes.ensures.value ∙ c.goal_option.ensures))
    (writes_stop _ c.in_err-write_option.ensures c.from_residual-in_err-write_option.ensures.0)

pub returns-in_err-write_option-2 : goal.returns-in_err-write_option-2
returns-in_err-write_option-2 g c =
    writes_then (writes_same c.in_ok-write_all.ensures (c.as_bytes.ensures.value ∙ c.goal_option.ensures))
    (writes_then c.in_ok-write_option.ensures
    (writes_stop _ c.in_err-write_option-2.ensures c.from_residual-in_err-write_option-2.ensures.0))

pub returns : goal.returns
returns g c =
    writes_then (writes_same c.in_ok-write_all.ensures (c.as_bytes.ensures.value ∙ c.goal_option.ensures))
    (writes_then c.in_ok-write_option.ensures
    (writes_then c.in_ok-write_option-2.ensures c.write_symbol.ensures.written))

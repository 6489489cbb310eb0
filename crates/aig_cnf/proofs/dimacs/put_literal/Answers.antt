use Rattle.std.proofs.Common.{◌+◌, ◌∷◌, ◌++◌, [], ap, decimal}
use Rattle.aig_cnf.specs.Dimacs.{literal_text}
use Rattle.aig_bytes.proofs.GatherLemmas.{gathers_then, gathers_stop, gathers_failed, gathers_same}
use Rattle.aig_cnf.proofs.dimacs.put_literal.Goals as goal

pub returns-in_err-put_sign : goal.returns-in_err-put_sign
unfolding literal_text
returns-in_err-put_sign g c =
    let h = c.from_residual.ensures.0 in gathers_stop _ h (gathers_failed c.in_err-put_sign.ensures h)

pub returns : goal.returns
unfolding literal_text
returns g c = gathers_then c.in_ok-put_sign.ensures
    (gathers_same c.put_field.ensures (ap (λ n. decimal (n + 1) ++ 32 ∷ []) c.var.ensures))

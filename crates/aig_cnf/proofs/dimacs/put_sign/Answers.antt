use Rattle.std.proofs.Common.{refl, sym}
use Rattle.aig_bytes.proofs.GatherLemmas.{gathers_none, gathers_same}
use Rattle.aig_cnf.proofs.SignLemmas.{sign_odd, sign_even}
use Rattle.aig_cnf.proofs.dimacs.put_sign.Goals as goal

pub returns-then-is_neg : goal.returns-then-is_neg
returns-then-is_neg g c = gathers_same c.put.ensures (sym (sign_odd c.args.literal (c.if-is_neg.ensures.0 refl)))

pub returns : goal.returns
returns g c = gathers_same gathers_none (sym (sign_even c.args.literal (λ odd.
    let t = c.if-is_neg.ensures.1 odd in let f = c.if-is_neg.false in cc)))

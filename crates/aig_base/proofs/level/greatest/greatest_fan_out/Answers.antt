use Rattle.std.proofs.Common.{subst, Contains, All, ◌≤◌}
use Rattle.aig_base.proofs.levels.GreatestLemmas.{fan_out_so}
use Rattle.aig_base.proofs.level.greatest.greatest_fan_out.Goals as goal

pub returns : goal.returns
returns c =
    let n = c.greatest_of.result in
    let is = c.deref.ensures.value in
    fan_out_so c.args.circuit.now c.in_ok-counts.counts.items n c.in_ok-counts.ensures.each
    (subst (λ xs. Contains xs n) is c.greatest_of.ensures.reached)
    (subst (λ xs. All (λ k. k ≤ n) xs) is c.greatest_of.ensures.bound)

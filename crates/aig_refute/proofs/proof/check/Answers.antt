use Rattle.std.proofs.Common.{ap}
use Rattle.aig_sat.specs.proof.Steps.{StepReader}
use Rattle.aig_refute.proofs.WholeProofs.{begins_all}
use Rattle.aig_refute.proofs.proof.check.Goals as goal

pub returns-clause-whole : goal.returns-clause-whole
returns-clause-whole g c =
    c.check_steps.ensures.whole (g.R.Read.left c.args.proof.now)
    (begins_all c.new-steps.result.block c.is_hinted.new.self.block _ _ (ap (λ (s : StepReader). s.block) c.new-steps.ensures)
    c.is_hinted.ensures.text c.is_hinted.ensures.bytes)

pub returns-clause-step : goal.returns-clause-step
returns-clause-step g c =
    c.check_steps.ensures.step (g.R.Read.left c.args.proof.now)
    (begins_all c.new-steps.result.block c.is_hinted.new.self.block _ _ (ap (λ (s : StepReader). s.block) c.new-steps.ensures)
    c.is_hinted.ensures.text c.is_hinted.ensures.bytes)

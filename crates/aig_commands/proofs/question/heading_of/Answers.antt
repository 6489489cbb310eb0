use Rattle.std.proofs.Common.{refl}
use Rattle.aig_commands.proofs.question.heading_of.Goals as goal

pub returns-in-Within : goal.returns-in-Within
returns-in-Within c = rw c.in-Within.is refl

pub returns-in-Step : goal.returns-in-Step
returns-in-Step c = rw c.in-Step.is refl

pub returns-in-Alive : goal.returns-in-Alive
returns-in-Alive c = rw c.in-Alive.is refl

pub returns-in-Certified : goal.returns-in-Certified
returns-in-Certified c = rw c.in-Certified.is refl

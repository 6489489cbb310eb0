use Rattle.std.proofs.Common.{ap, sym, ◌∙◌}
use Rattle.aig_commands.specs.Questions.{query_under}
use Rattle.aig_commands.proofs.question.query_of.Goals as goal

pub returns-in-Runs : goal.returns-in-Runs
returns-in-Runs c = ap query_under (sym c.in-Runs.is ∙ c.heading_of.ensures)

pub returns-in-Alive : goal.returns-in-Alive
returns-in-Alive c = ap query_under (sym c.in-Alive.is ∙ c.heading_of.ensures)

pub returns-in-Certified : goal.returns-in-Certified
returns-in-Certified c = ap query_under (sym c.in-Certified.is ∙ c.heading_of.ensures)

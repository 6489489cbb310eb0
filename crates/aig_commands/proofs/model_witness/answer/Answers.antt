use Rattle.std.proofs.Common.{subst, sym, ◌∙◌}
use Rattle.aig_bytes.specs.Flow.{flow}
use Rattle.aig_cnf.specs.declared.heading.Heading.{Heading}
use Rattle.aig_command.specs.Command.{CommandEnds}
use Rattle.aig_command.specs.declared.run_fault.RunFault.TheVariants as run_faults
use Rattle.aig_commands.specs.Questions.{NamesFor}
use Rattle.aig_commands.proofs.model_witness.answer.Goals as goal

pub returns-in-Runs : goal.returns-in-Runs
returns-in-Runs g c =
    subst (λ (h : Heading). CommandEnds (flow g.W.Write.written g.W.Write.failures c.args.out.now c.read_model_and_write.new.out)
    run_faults.Output (NamesFor h c.args.model.now c.args.circuit.now) c.read_model_and_write.result)
    (sym c.in-Runs.is ∙ c.heading_of.ensures) c.read_model_and_write.ensures

pub returns-in-Certified : goal.returns-in-Certified
returns-in-Certified g c =
    subst (λ (h : Heading). CommandEnds (flow g.W.Write.written g.W.Write.failures c.args.out.now c.read_model_and_write-in-Certified.new.out)
    run_faults.Output (NamesFor h c.args.model.now c.args.circuit.now) c.read_model_and_write-in-Certified.result)
    (sym c.in-Certified.is ∙ c.heading_of.ensures) c.read_model_and_write-in-Certified.ensures

pub returns-in-Alive : goal.returns-in-Alive
returns-in-Alive g c =
    subst (λ (h : Heading). CommandEnds
    (flow g.W.Write.written g.W.Write.failures c.args.out.now c.read_model_and_write-in-Alive.new.out) run_faults.Output
    (NamesFor h c.args.model.now c.args.circuit.now) c.read_model_and_write-in-Alive.result)
    (sym c.in-Alive.is ∙ c.heading_of.ensures) c.read_model_and_write-in-Alive.ensures

use Rattle.std.proofs.Common.{sym, subst}
use Rattle.std.specs.Prelude.{OnOk}
use Rattle.aig_program.specs.Commands.{EndsAsMeant, MeansGood}
use Rattle.aig_program.specs.Ends.{seen}
use Rattle.aig_program.proofs.commands.Command.run.Goals as goal

pub returns-in-Toaig-clause-ends : goal.returns-in-Toaig-clause-ends
returns-in-Toaig-clause-ends g c =
    subst (λ x. EndsAsMeant (seen g.W.Write.written g.W.Write.failures c.args.out.now c.run.new.out) g.F.Read.remaining x c.run.result) (sym c.in-Toaig.is) c.run.ensures.ends

pub returns-in-InfoNames-clause-ends : goal.returns-in-InfoNames-clause-ends
returns-in-InfoNames-clause-ends g c =
    subst (λ x. EndsAsMeant (seen g.W.Write.written g.W.Write.failures c.args.out.now c.run_names.new.out) g.F.Read.remaining x c.run_names.result) (sym c.in-InfoNames.is) c.run_names.ensures.ends

pub returns-in-Select-clause-ends : goal.returns-in-Select-clause-ends
returns-in-Select-clause-ends g c =
    subst (λ x. EndsAsMeant (seen g.W.Write.written g.W.Write.failures c.args.out.now c.run-in-Select.new.out) g.F.Read.remaining x c.run-in-Select.result) (sym c.in-Select.is) c.run-in-Select.ensures.ends

pub returns-in-Sim-clause-ends : goal.returns-in-Sim-clause-ends
returns-in-Sim-clause-ends g c =
    subst (λ x. EndsAsMeant (seen g.W.Write.written g.W.Write.failures c.args.out.now c.run-in-Sim.new.out) g.F.Read.remaining x c.run-in-Sim.result) (sym c.in-Sim.is) c.run-in-Sim.ensures.ends

pub returns-in-Wave-clause-ends : goal.returns-in-Wave-clause-ends
returns-in-Wave-clause-ends g c =
    subst (λ x. EndsAsMeant (seen g.W.Write.written g.W.Write.failures c.args.out.now c.run-in-Wave.new.out) g.F.Read.remaining x c.run-in-Wave.result) (sym c.in-Wave.is) c.run-in-Wave.ensures.ends

pub returns-in-Check-clause-good : goal.returns-in-Check-clause-good
returns-in-Check-clause-good g c =
    subst (λ x. OnOk c.run-in-Check.result (MeansGood g.F.Read.remaining x)) (sym c.in-Check.is) c.run-in-Check.ensures.confirmed

pub returns-in-CheckAlive-clause-good : goal.returns-in-CheckAlive-clause-good
returns-in-CheckAlive-clause-good g c =
    subst (λ x. OnOk c.run_alive.result (MeansGood g.F.Read.remaining x)) (sym c.in-CheckAlive.is) c.run_alive.ensures.alive

pub returns-in-Refute-clause-good : goal.returns-in-Refute-clause-good
returns-in-Refute-clause-good g c =
    subst (λ x. OnOk c.run-in-Refute.result (MeansGood g.F.Read.remaining x)) (sym c.in-Refute.is) c.run-in-Refute.ensures.says

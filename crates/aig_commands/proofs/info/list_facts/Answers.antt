use Rattle.std.proofs.Common.{[], Ok, refl}
use Rattle.aig_command.specs.declared.run_fault.RunFault.TheVariants as run_faults
use Rattle.aig_command.proofs.Files.{answered}
use Rattle.aig_bytes.specs.Flow.{flow}
use Rattle.aig_commands.specs.Info.{ListsFacts, info_text}
use Rattle.aig_commands.proofs.info.list_facts.Goals as goal
use Rattle.aig_command.proofs.Written.{got_all, got_none, got_part}
use Rattle.aig_command.specs.Command.{CommandEnds}

pub returns-in-Ok : goal.returns-in-Ok
returns-in-Ok g c = λ file format.
    let facts = c.in_ok-facts.facts in
    CommandEnds.writes_all (info_text c.args.circuit.now facts) (facts, c.in_ok-facts.ensures file format, refl)
    (got_all g.W.Write.written g.W.Write.failures c.args.out.now c.write_info.new.out (info_text c.args.circuit.now facts) tt c.in-Ok.ensures)

pub returns-in-Err : goal.returns-in-Err
returns-in-Err g c = λ file format.
    let facts = c.in_ok-facts.facts in
    CommandEnds.breaks_off (Ok tt) (info_text c.args.circuit.now facts) (facts, c.in_ok-facts.ensures file format, refl)
    (got_part g.W.Write.written g.W.Write.failures c.args.out.now c.write_info.new.out (info_text c.args.circuit.now facts) _ c.in-Err.ensures)

pub returns-in_err-facts : goal.returns-in_err-facts
returns-in_err-facts g c = λ file format.
    answered c.from_residual.result run_faults.Memory
    (CommandEnds (flow g.W.Write.written g.W.Write.failures c.args.out.now c.args.out.now) run_faults.Output (ListsFacts file c.args.circuit.now))
    c.from_residual.ensures.1 (CommandEnds.writes_all [] refl (got_none g.W.Write.written g.W.Write.failures c.args.out.now))

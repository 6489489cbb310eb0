use Rattle.std.proofs.Common.{Ok, refl}
use Rattle.aig_commands.specs.Names.{entries_text}
use Rattle.aig_commands.proofs.info.list_names.Goals as goal
use Rattle.aig_command.proofs.Written.{got_all, got_part}
use Rattle.aig_command.specs.Command.{CommandEnds}

pub returns-in-Ok : goal.returns-in-Ok
returns-in-Ok g c =
    CommandEnds.writes_all (entries_text c.args.form c.args.circuit.now) refl
    (got_all g.W.Write.written g.W.Write.failures c.args.out.now c.write_entries.new.out (entries_text c.args.form c.args.circuit.now) tt c.in-Ok.ensures)

pub returns-in-Err : goal.returns-in-Err
returns-in-Err g c =
    CommandEnds.breaks_off (Ok tt) (entries_text c.args.form c.args.circuit.now) refl
    (got_part g.W.Write.written g.W.Write.failures c.args.out.now c.write_entries.new.out (entries_text c.args.form c.args.circuit.now) _ c.in-Err.ensures)

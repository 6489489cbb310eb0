use Rattle.std.proofs.Common.{Ok, refl}
use Rattle.aig_unroll.specs.InputMap.{map_text}
use Rattle.aig_commands.proofs.unroll.unroll_map.Goals as goal
use Rattle.aig_command.proofs.Written.{got_all, got_part}
use Rattle.aig_command.specs.Command.{CommandEnds}

pub returns-in-Ok : goal.returns-in-Ok
returns-in-Ok g c =
    record {
      ends =
          CommandEnds.writes_all (map_text c.args.circuit.now c.args.frames) refl
          (got_all g.W.Write.written g.W.Write.failures c.args.out.now c.write_input_map.new.out (map_text c.args.circuit.now c.args.frames) tt c.in-Ok.ensures);
    }

pub returns-in-Err : goal.returns-in-Err
returns-in-Err g c =
    record {
      ends =
          CommandEnds.breaks_off (Ok tt) (map_text c.args.circuit.now c.args.frames) refl
          (got_part g.W.Write.written g.W.Write.failures c.args.out.now c.write_input_map.new.out (map_text c.args.circuit.now c.args.frames) _ c.in-Err.ensures);
    }

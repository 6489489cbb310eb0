use Rattle.std.proofs.Common.{◌≡◌, List, length, map, take}
use Rattle.aig_base.specs.Part.{spread}
use Rattle.aig_parts.specs.declared.ternary.Tern.{Tern}
use Rattle.aig_commands.proofs.spread.spread_all.Given as goal

abbrev pub invariant-loop-frame : goal.invariant-loop-frame
invariant-loop-frame l = record {
  width : l.all.width ≡ length l.unread;
  rows : l.all.rows ≡ map (λ (row : List Tern). spread l.reads l.unread row) (take l.frame l.rows.rows);
}

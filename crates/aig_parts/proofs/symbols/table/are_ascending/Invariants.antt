use Rattle.std.proofs.Common.{◌≡◌, ◌<◌, ◌-◌, get_or, take}
use Rattle.aig_parts.specs.state.SymbolTable.{key_number, Ascend}
use Rattle.aig_parts.proofs.TableLemmas.{nowhere}
use Rattle.aig_parts.proofs.symbols.table.are_ascending.Given as goal

abbrev pub invariant-loop-place : goal.invariant-loop-place
invariant-loop-place l = record {
  some : 0 < l.place;
  ascend : Ascend (take l.place l.entries);
  last : l.before ≡ key_number (get_or l.entries (l.place - 1) nowhere).0;
}

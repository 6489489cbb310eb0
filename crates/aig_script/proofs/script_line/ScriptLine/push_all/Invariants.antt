use Rattle.std.proofs.Common.{◌≡◌, ℕ, List, ◌++◌, take}
use Rattle.aig_script.specs.ScriptLine.{KeepsScriptLine}
use Rattle.aig_script.proofs.script_line.ScriptLine.push_all.Given as goal

abbrev pub invariant-loop-byte : goal.invariant-loop-byte
invariant-loop-byte l = record {
  width : l.self.row.width ≡ l.initial.self.row.width;
  keeps : (line : List ℕ) → KeepsScriptLine line l.initial.self → KeepsScriptLine (line ++ take l.byte-index l.bytes) l.self;
}

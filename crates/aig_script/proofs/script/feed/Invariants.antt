use Rattle.std.proofs.Common.{◌≡◌, ◌-◌, ◌≤◌, ℕ, List, length, map, take}
use Rattle.aig_script.specs.Lines.{whole, lines_from, rest_from}
use Rattle.aig_bytes.specs.Flow.{flow}
use Rattle.aig_script.specs.Ran.{Answered}
use Rattle.aig_script.specs.ScriptLine.{KeepsScriptLine}
use Rattle.aig_script.proofs.script.feed.Given as goal

abbrev pub invariant-loop-at : goal.invariant-loop-at
invariant-loop-at g l = record {
  inside : l.at ≤ length l.chunk;
  width : l.line.row.width ≡ length l.bench.pair.circuit.inputs;
  rest : (text : List ℕ) → KeepsScriptLine text l.initial.line → KeepsScriptLine (rest_from text (take l.at l.chunk)) l.line;
  answered : (text : List ℕ) → KeepsScriptLine text l.initial.line
      → Answered (flow g.W.Write.written g.W.Write.failures l.initial.out l.out) (map whole (lines_from text (take l.at l.chunk)))
      l.initial.bench.pair l.bench.pair;
}

abbrev pub decreases-loop-at : goal.decreases-loop-at
decreases-loop-at g l = length l.chunk - l.at

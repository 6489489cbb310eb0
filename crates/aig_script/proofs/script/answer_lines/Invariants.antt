use Rattle.std.proofs.Common.{◌≡◌, length}
use Rattle.aig_bytes.specs.Flow.{flow}
use Rattle.aig_script.specs.Ran.{Reading}
use Rattle.aig_script.proofs.script.answer_lines.Given as goal

abbrev pub invariant-loop-reader : goal.invariant-loop-reader
invariant-loop-reader g l = record {
  room : length l.buffer ≡ 4096;
  width : l.line.row.width ≡ length l.bench.pair.circuit.inputs;
  reading : Reading (flow g.R.Read.left g.R.Read.failures l.initial.reader l.reader)
      (flow g.W.Write.written g.W.Write.failures l.initial.out l.out) l.line l.initial.bench.pair l.bench.pair;
}

abbrev pub decreases-loop-reader : goal.decreases-loop-reader
decreases-loop-reader g l = g.R.Read.reads_left l.reader

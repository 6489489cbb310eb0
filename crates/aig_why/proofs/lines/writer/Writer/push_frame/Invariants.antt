use Rattle.std.proofs.Common.{◌≡◌, ℕ, ◌-◌, List, [], length, drop}
use Rattle.aig_parts.specs.declared.raw.Raw.{Raw}
use Rattle.aig_causes.specs.Causes.{moment}
use Rattle.aig_causes.specs.Explanation.{HasCome, IsOf, LineState}
use Rattle.aig_signals.specs.state.Naming.{AreNeighbours}
use Rattle.aig_why.specs.Lines.{AreLineTexts}
use Rattle.aig_why.specs.Named.{IsNamingOf, NamesNothing}
use Rattle.aig_why.specs.state.Naming.{Adds, HasSameSignals}
use Rattle.aig_why.proofs.lines.writer.Writer.push_frame.Given as goal

abbrev pub invariant-loop-number : goal.invariant-loop-number
invariant-loop-number g l = record {
  bench : IsOf l.bench.pair l.explanation;
  frame : l.explanation.frame ≡ l.initial.explanation.frame;
  asked : l.explanation.asked ≡ l.initial.explanation.asked;
  none : NamesNothing l.bench.pair.circuit l.self.naming;
  same : HasSameSignals l.initial.self.naming l.self.naming;
  rest : AreNeighbours l.explanation.end (drop l.number l.self.naming.latches.signals) (length l.bench.pair.circuit.latches);
  come : (raw : Raw) → IsNamingOf raw l.bench.pair l.initial.self.naming → (literals : List ℕ) (frames : List (List LineState))
      → HasCome l.bench.pair literals l.initial.explanation frames []
      → (lines : List LineState) × HasCome l.bench.pair literals l.explanation frames lines
      × Adds (AreLineTexts l.form raw (moment l.bench.pair (l.initial.explanation.frame - 1)) lines) l.initial.self.text.items
      l.self.text.items;
}

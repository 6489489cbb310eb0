use Rattle.std.proofs.Common.{◌≡◌, ◌+◌, ◌≤◌, ℕ, List, [], length}
use Rattle.aig_parts.specs.declared.raw.Raw.{Raw}
use Rattle.aig_causes.specs.Causes.{moment}
use Rattle.aig_causes.specs.Explanation.{HasCome, IsOf, LineState}
use Rattle.aig_why.specs.Lines.{AreFrameTexts}
use Rattle.aig_why.specs.Named.{IsNamingOf, NamesNothing}
use Rattle.aig_why.specs.state.Naming.{Adds, HasSameSignals}
use Rattle.aig_why.proofs.lines.writer.Writer.push_frames.Given as goal

abbrev pub invariant-loop-form : goal.invariant-loop-form
invariant-loop-form g l = record {
  bench : IsOf l.bench.pair l.explanation;
  end : l.explanation.end ≡ 0;
  last : l.last ≤ l.explanation.frame;
  asked : l.explanation.asked ≡ l.initial.explanation.asked;
  none : NamesNothing l.bench.pair.circuit l.self.naming;
  same : HasSameSignals l.initial.self.naming l.self.naming;
  come : (raw : Raw) → IsNamingOf raw l.bench.pair l.initial.self.naming → (literals : List ℕ)
      → HasCome l.bench.pair literals l.initial.explanation [] []
      → (frames : List (List LineState)) × HasCome l.bench.pair literals l.explanation frames []
      × (l.explanation.frame + length frames ≡ l.initial.explanation.frame)
      × Adds (AreFrameTexts l.form raw (moment l.bench.pair l.explanation.frame) frames) l.initial.self.text.items l.self.text.items;
}

abbrev pub decreases-loop-form : goal.decreases-loop-form
decreases-loop-form g l = l.explanation.frame

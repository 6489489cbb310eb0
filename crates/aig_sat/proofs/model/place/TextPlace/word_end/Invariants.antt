use Rattle.std.proofs.Common.{◌-◌, ◌≤◌, length, take, drop, All}
use Rattle.aig_sat.specs.model.ModelText.{IsSpace}
use Rattle.aig_sat.proofs.model.place.TextPlace.word_end.Given as goal

abbrev pub invariant-loop-end : goal.invariant-loop-end
invariant-loop-end l = record {
  after : l.self.at ≤ l.end;
  bound : l.end ≤ length l.self.text.now;
  no_space : All (λ b. IsSpace b → ⊥) (take (l.end - l.self.at) (drop l.self.at l.self.text.now));
}

abbrev pub decreases-loop-end : goal.decreases-loop-end
decreases-loop-end l = length l.self.text.now - l.end

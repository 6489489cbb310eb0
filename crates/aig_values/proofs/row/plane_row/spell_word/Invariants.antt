use Rattle.std.proofs.Common.{◌≡◌, ℕ, ◌+◌, ◌-◌, ◌/◌, ◌^◌, ◌<◌, ◌≤◌, get_or}
use Rattle.aig_values.specs.Characters.{character}
use Rattle.aig_values.specs.state.Words.{value_in}
use Rattle.aig_values.proofs.row.plane_row.spell_word.Given as goal

abbrev pub invariant-loop-at : goal.invariant-loop-at
invariant-loop-at l = record {
  range : l.from ≤ l.at;
  inside : l.at ≤ l.end;
  rest : l.rest ≡ l.bits / 2 ^ (l.at - l.from);
  there : (k : ℕ) → k < l.at - l.from → get_or l.text (l.from + k) 0 ≡ character (value_in l.bits k);
  before : (k : ℕ) → k < l.from → get_or l.text k 0 ≡ get_or l.fn.text k 0;
}

abbrev pub decreases-loop-at : goal.decreases-loop-at
decreases-loop-at l = l.end - l.at

abbrev pub invariant-loop-at-2 : goal.invariant-loop-at-2
invariant-loop-at-2 l = record {
  range : l.from ≤ l.at;
  inside : l.at ≤ l.end;
  rest : l.rest ≡ l.bits / 2 ^ (l.at - l.from);
  there : (k : ℕ) → k < l.at - l.from → get_or l.text (l.from + k) 0 ≡ character (value_in l.bits k);
  before : (k : ℕ) → k < l.from → get_or l.text k 0 ≡ get_or l.fn.text k 0;
}

abbrev pub decreases-loop-at-2 : goal.decreases-loop-at-2
decreases-loop-at-2 l = l.end - l.at

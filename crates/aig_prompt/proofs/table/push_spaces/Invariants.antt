use Rattle.std.proofs.Common.{◌≡◌, ◌++◌}
use Rattle.aig_prompt.specs.Table.{spaces}
use Rattle.aig_prompt.proofs.table.push_spaces.Given as goal

abbrev pub invariant-loop-space : goal.invariant-loop-space
invariant-loop-space l = l.text.items ≡ l.fn.text.items ++ spaces l._space

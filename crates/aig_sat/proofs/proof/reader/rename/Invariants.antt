use Rattle.std.proofs.Common.{◌≡◌, ◌+◌, ◌≤◌, take}
use Rattle.aig_sat.specs.proof.Steps.{AreLiterals, AreRenamed}
use Rattle.aig_sat.proofs.proof.reader.rename.Given as goal

abbrev pub invariant-loop-literal : goal.invariant-loop-literal
invariant-loop-literal l = record {
  formula : l.names.formula ≡ l.initial.names.formula;
  never_fewer : l.initial.names.own ≤ l.names.own;
  literals : AreLiterals (l.names.formula + l.names.own) l.clause.items;
  renamed : AreRenamed l.initial.names.formula (take l.literal-index l.spelled) l.clause.items;
}

use Rattle.std.specs.Prelude.{◌≤◌}
use Rattle.aig_sat.specs.checker.Holding.{AddsVariables}
use Rattle.aig_sat.specs.checker.Numbers.{variables}
use Rattle.aig_sat.proofs.checker.checker.Checker.add_variables.Given as goal

abbrev pub invariant-loop : goal.invariant-loop
invariant-loop l = record {
  adds : AddsVariables l.initial.self l.self;
  count : l.counter ≤ variables l.self.propagator;
}

use Rattle.std.proofs.Common.{◌≡◌, List, fold, take}
use Rattle.aig_parts.specs.declared.ternary.Tern.{Tern}
use Rattle.aig_values.specs.Cells.{with_gate_value}
use Rattle.aig_values.specs.state.LiteralCodes.{by_literal}
use Rattle.aig_values.proofs.row.literal_codes.sweep_codes.Given as goal

abbrev pub invariant-loop-gate : goal.invariant-loop-gate
invariant-loop-gate l = (row : List Tern) → l.fn.codes ≡ by_literal row
    → l.codes ≡ by_literal (fold with_gate_value row (take l.gate-index l.gates))

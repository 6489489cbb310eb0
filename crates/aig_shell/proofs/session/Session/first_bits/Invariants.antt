use Rattle.std.proofs.Common.{◌<◌, All, length, take}
use Rattle.aig_parts.specs.Literal.{variable}
use Rattle.aig_base.specs.Sections.{IsDefined}
use Rattle.aig_bench.specs.BenchState.{CircuitAndRows}
use Rattle.aig_shell.specs.Session.{IsFirst}
use Rattle.aig_shell.specs.Tables.{AreBits}
use Rattle.aig_shell.proofs.session.Session.first_bits.Given as goal

abbrev pub invariant-loop-literal : goal.invariant-loop-literal
invariant-loop-literal l =
    (p : CircuitAndRows) → IsFirst l.self p → l.frame < length p.rows → All (λ k. IsDefined p.circuit (variable k)) l.literals
    → AreBits p l.frame (take l.literal-index l.literals) l.bits.items

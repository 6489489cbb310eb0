use Rattle.std.proofs.Common.{arith}
use Rattle.aig_parts.specs.Literal.{variable}
use Rattle.aig_base.proofs.circuits.Gates.{defined_in_range}
use Rattle.aig_base.proofs.fan_outs.ReaderLists.{readers_kept}
use Rattle.aig_tests.proofs.calls.rewires.rewire_parts.Goals as goal

pub make_room-requires-clause-first : goal.make_room-requires-clause-first
make_room-requires-clause-first c =
    omega (
      arith,
      defined_in_range c.args.circuit.now c.facts.ensures.sound (variable c.args.gate.rhs0) c.requires.defined0,
      c.requires.readers.size,
    )

pub make_room-requires-clause-second : goal.make_room-requires-clause-second
make_room-requires-clause-second c =
    omega (
      arith,
      defined_in_range c.args.circuit.now c.facts.ensures.sound (variable c.args.gate.rhs1) c.requires.defined1,
      c.requires.readers.size,
    )

pub returns-in_err-make_room-clause-readers : goal.returns-in_err-make_room-clause-readers
returns-in_err-make_room-clause-readers c =
    readers_kept c.args.circuit.now _ _ c.requires.readers c.make_room.ensures.kept.lists

pub rewire-requires-clause-readers : goal.rewire-requires-clause-readers
rewire-requires-clause-readers c = readers_kept c.args.circuit.now _ _ c.requires.readers c.make_room.ensures.kept.lists

pub returns-then-is_err-clause-readers : goal.returns-then-is_err-clause-readers
returns-then-is_err-clause-readers c = readers_kept c.args.circuit.now _ _ c.requires.readers c.make_room.ensures.kept.lists

pub replace-requires-clause-readers : goal.replace-requires-clause-readers
replace-requires-clause-readers c = readers_kept c.args.circuit.now _ _ c.requires.readers c.make_room.ensures.kept.lists

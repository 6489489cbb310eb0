use Rattle.std.proofs.Common.{All, take}
use Rattle.std.specs.Prelude.{◌↔◌, IsTrue}
use Rattle.aig_sim.specs.StimulusText.{IsCharacter}
use Rattle.aig_sim.proofs.stimulus.row_parser.are_characters.Given as goal

abbrev pub invariant-loop-byte : goal.invariant-loop-byte
invariant-loop-byte l = IsTrue l.all ↔ All IsCharacter (take l.byte-index l.bytes)

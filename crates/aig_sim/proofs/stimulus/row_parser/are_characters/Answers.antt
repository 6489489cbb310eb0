use Rattle.std.proofs.Common.{All, take, get_or, sym, subst, arith}
use Rattle.std.specs.Prelude.{◌↔◌, ◌&&◌, IsTrue, List, ℕ}
use Rattle.std.proofs.lemmas.List.{take_more, take_all}
use Rattle.aig_sim.specs.StimulusText.{IsCharacter}
use Rattle.aig_sim.proofs.LineLemmas.{all_more}
use Rattle.aig_sim.proofs.stimulus.row_parser.are_characters.Goals as goal

pub loop-byte-preserved : goal.loop-byte-preserved
loop-byte-preserved c =
    let xs = c.args.bytes.now in
    let i = c.loop-byte.byte-index in
    subst (λ (ys : List ℕ). IsTrue (c.loop-byte.all && c.is_character-all.result) ↔ All IsCharacter ys)
    (sym (take_more xs i 0 c.loop-byte-test.true))
    (all_more IsCharacter (take i xs) (get_or xs i 0) c.loop-byte.all c.is_character-all.result c.loop-byte.invariant
    c.is_character-all.ensures)

pub returns : goal.returns
returns c =
    subst (λ (ys : List ℕ). IsTrue c.loop-byte.all ↔ All IsCharacter ys)
    (take_all c.loop-byte.byte-index c.args.bytes.now (omega (arith, c.loop-byte-test.false))) c.loop-byte.invariant

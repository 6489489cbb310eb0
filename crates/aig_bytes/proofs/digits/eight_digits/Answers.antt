use Rattle.std.proofs.Common.{arith, refl, ◌∙◌}
use Rattle.aig_bytes.proofs.PairLemmas.{tens_of_pairs, eight_word}
use Rattle.aig_bytes.proofs.digits.eight_digits.Goals as goal

pub overflow_sub-digits : goal.overflow_sub-digits
overflow_sub-digits c =
    let tens = tens_of_pairs c.args.number c.pairs-pairs.result c.requires c.pairs-pairs.ensures in
    omega (arith, tens, c.pairs-pairs.ensures)

pub returns : goal.returns
returns c =
    let tens = tens_of_pairs c.args.number c.pairs-pairs.result c.requires c.pairs-pairs.ensures in
    c.to_le_bytes.ensures ∙ eight_word c.args.number c.pairs-pairs.result _ _ c.requires c.pairs-pairs.ensures tens refl

use Rattle.std.proofs.Common.{◌/◌, ◌%◌, bit_xor, sym, ◌∙◌, arith}
use Rattle.std.proofs.lemmas.Nat.Bits.{bit_at_lowest, bit_at_xor}
use Rattle.aig_values.proofs.WordBits.{pair_one, pair_zero, pair_alone}
use Rattle.aig_values.proofs.row.planes.change.Goals as goal

pub returns-clause-one : goal.returns-clause-one
returns-clause-one c =
    let one = bit_xor c.args.for_one c.args.before in
    let nought = bit_xor c.args.for_zero c.args.before in
    pair_one (one % 2) (nought / 4294967296 % 2) (omega arith) (omega arith) ∙ sym (bit_at_lowest one)
    ∙ bit_at_xor c.args.for_one c.args.before 0

pub returns-clause-zero : goal.returns-clause-zero
returns-clause-zero c =
    let one = bit_xor c.args.for_one c.args.before in
    let nought = bit_xor c.args.for_zero c.args.before in
    pair_zero (one % 2) (nought / 4294967296 % 2) (omega arith) (omega arith) ∙ bit_at_xor c.args.for_zero c.args.before 32

pub returns-clause-alone : goal.returns-clause-alone
returns-clause-alone c =
    let one = bit_xor c.args.for_one c.args.before in
    let nought = bit_xor c.args.for_zero c.args.before in
    pair_alone (one % 2) (nought / 4294967296 % 2) (omega arith) (omega arith)

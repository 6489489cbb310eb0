use Rattle.std.proofs.Common.{◌≡◌, ◌+◌, ◌/◌, ◌%◌, get_or, sym, ap, ◌∙◌, arith}
use Rattle.std.specs.Int.{bit_at, rotate_right, w64}
use Rattle.aig_values.proofs.MemoryBits.{bits_there, one_there, zero_there}
use Rattle.aig_values.proofs.row.planes.bits_from.Goals as goal

pub returns-clause-one : goal.returns-clause-one
returns-clause-one c k near =
    let words = c.args.words.now in
    let v = c.args.variable in
    let same : k ≡ 0 + k = omega arith in
    ap (λ n. bit_at n k) c.rotate_right.ensures
    ∙ ap (λ i. bit_at (rotate_right w64 (get_or words (v / 32) 0) (v % 64)) i) same
    ∙ bits_there words v c.requires 0 k (omega arith) near (c.type_inv.words (v / 32)).fits
    ∙ sym (one_there words (v + k) (omega (arith, c.requires, near)))

pub returns-clause-zero : goal.returns-clause-zero
returns-clause-zero c k near =
    let words = c.args.words.now in
    let v = c.args.variable in
    ap (λ n. bit_at n (32 + k)) c.rotate_right.ensures
    ∙ bits_there words v c.requires 32 k (omega arith) near (c.type_inv.words (v / 32)).fits
    ∙ sym (zero_there words (v + k) (omega (arith, c.requires, near)))

use Rattle.std.proofs.Common.{◌≡◌, ◌+◌, ◌*◌, ◌/◌, ◌%◌, ◌<◌, ℕ, length, ap, ◌∙◌, subst, arith}
use Rattle.std.specs.Int.{bit_at}
use Rattle.aig_values.specs.state.Words.{one_bit, zero_bit}
use Rattle.aig_values.proofs.MemoryBits.{literal_one, literal_zero}
use Rattle.aig_values.proofs.row.planes.literal_bits.Goals as goal

pub returns-clause-one : goal.returns-clause-one
returns-clause-one c =
    let words = c.args.words.now in
    let l = c.value-value.result in
    let by : ℕ = (l / 2 + l * 32 % 4294967296) % 4294967296 in
    let lt : l / 2 < 32 * length words = omega (arith, c.requires, c.value-value.ensures) in
    let is : by % 64 ≡ (l / 2 + 32 * (l % 2)) % 64 = omega arith in
    subst (λ m. bit_at c.rotate_right.result 0 ≡ one_bit words m) c.value-value.ensures
    (ap (λ n. bit_at n 0) c.rotate_right.ensures ∙ literal_one words l lt (c.type_inv.words (l / 64)).fits by is)

pub returns-clause-zero : goal.returns-clause-zero
returns-clause-zero c =
    let words = c.args.words.now in
    let l = c.value-value.result in
    let by : ℕ = (l / 2 + l * 32 % 4294967296) % 4294967296 in
    let lt : l / 2 < 32 * length words = omega (arith, c.requires, c.value-value.ensures) in
    let is : by % 64 ≡ (l / 2 + 32 * (l % 2)) % 64 = omega arith in
    subst (λ m. bit_at c.rotate_right.result 32 ≡ zero_bit words m) c.value-value.ensures
    (ap (λ n. bit_at n 32) c.rotate_right.ensures ∙ literal_zero words l lt (c.type_inv.words (l / 64)).fits by is)

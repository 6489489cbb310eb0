use Rattle.std.proofs.Common.{◌≡◌, ◌+◌, ◌*◌, ◌/◌, ◌%◌, ◌<◌, ℕ, get_or, length, sym, ap, ap₂, ◌∙◌, arith}
use Rattle.std.specs.Int.{bit_at, rotate_right, w64}
use Rattle.aig_values.proofs.MemoryBits.{bits_there, one_there, zero_there}
use Rattle.aig_values.proofs.row.planes.word_bits.Goals as goal

pub returns-clause-one : goal.returns-clause-one
returns-clause-one c k near =
    let words = c.args.words.now in
    let v : ℕ = 32 * c.args.index + c.args.place in
    let same : k ≡ 0 + k = omega arith in
    let word : c.args.index ≡ v / 32 = omega (arith, c.requires.place) in
    let by : 32 * (c.args.index % 2) + c.args.place ≡ v % 64 = omega (arith, c.requires.place) in
    let lt : v < 32 * length words = omega (arith, c.requires.index, c.requires.place) in
    ap (λ n. bit_at n k) (c.rotate_right.ensures ∙ ap₂ (λ i b. rotate_right w64 (get_or words i 0) b) word by)
    ∙ ap (λ i. bit_at (rotate_right w64 (get_or words (v / 32) 0) (v % 64)) i) same
    ∙ bits_there words v lt 0 k (omega (arith, near)) (omega (arith, near, c.requires.place)) (c.type_inv.words (v / 32)).fits
    ∙ sym (one_there words (v + k) (omega (arith, c.requires.index, near)))

pub returns-clause-zero : goal.returns-clause-zero
returns-clause-zero c k near =
    let words = c.args.words.now in
    let v : ℕ = 32 * c.args.index + c.args.place in
    let word : c.args.index ≡ v / 32 = omega (arith, c.requires.place) in
    let by : 32 * (c.args.index % 2) + c.args.place ≡ v % 64 = omega (arith, c.requires.place) in
    let lt : v < 32 * length words = omega (arith, c.requires.index, c.requires.place) in
    ap (λ n. bit_at n (32 + k)) (c.rotate_right.ensures ∙ ap₂ (λ i b. rotate_right w64 (get_or words i 0) b) word by)
    ∙ bits_there words v lt 32 k (omega (arith, near)) (omega (arith, near, c.requires.place)) (c.type_inv.words (v / 32)).fits
    ∙ sym (zero_there words (v + k) (omega (arith, c.requires.index, near)))

use Rattle.std.proofs.Common.{◌≡◌, ◌<◌, ◌*◌, ℕ, List, length, vec_len, set, replicate, sym, ap, ◌∙◌, subst, arith}
use Rattle.aig_values.specs.state.Words.{spelled, AreWhole}
use Rattle.aig_values.proofs.WordLemmas.{spelled_fresh, whole_fresh}
use Rattle.aig_values.proofs.WordText.{made_longer}
use Rattle.aig_values.proofs.row.plane_row.fresh.Goals as goal

pub returns : goal.returns
returns c =
    let k : ℕ = c.word_count.result in
    let pos : 0 < k = omega (arith, c.word_count.ensures.least, c.requires.0) in
    let none : vec_len c.clear.new.self ≡ 0 = omega (arith, ap length c.clear.ensures.items) in
    let words : c.resize.new.self.items ≡ replicate k 0 =
    made_longer c.resize.new.self.items c.clear.new.self.items k (vec_len c.clear.new.self) 0 c.clear.ensures.items none
    c.in_ok-resize.ensures.items in (
      32 * k,
      c.word_count.ensures.least,
      ap (λ (words : List ℕ). spelled (set words 0 4294967296)) words ∙ spelled_fresh k pos,
    )

pub invariant_of-result : goal.invariant_of-result
invariant_of-result c =
    let k : ℕ = c.word_count.result in
    let pos : 0 < k = omega (arith, c.word_count.ensures.least, c.requires.0) in
    let none : vec_len c.clear.new.self ≡ 0 = omega (arith, ap length c.clear.ensures.items) in
    let words : c.resize.new.self.items ≡ replicate k 0 =
    made_longer c.resize.new.self.items c.clear.new.self.items k (vec_len c.clear.new.self) 0 c.clear.ensures.items none
    c.in_ok-resize.ensures.items in
    subst (λ (words : List ℕ). AreWhole (set words 0 4294967296)) (sym words) (whole_fresh k pos)

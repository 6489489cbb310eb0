use Rattle.std.proofs.Common.{◌≡◌, ◌<◌, ◌≢◌, length, bit_and, bit_or, set, refl, sym, ap, ◌∙◌, subst, arith}
use Rattle.std.proofs.lemmas.Bool.{false≢true}
use Rattle.std.proofs.lemmas.List.{with_items_is}
use Rattle.aig_parts.specs.Literal.{variable}
use Rattle.aig_values.specs.Cells.{gate_value}
use Rattle.aig_values.specs.state.Words.{ones, zeros, bit_in, spelled, one_bit, zero_bit, AreWhole}
use Rattle.aig_values.proofs.PlaneGates.{changed_row, changed_whole, gate_apart, gate_bits, none_changes, same_cell, same_cells}
use Rattle.aig_values.proofs.WordLemmas.{cell_within, first_one, first_zero}
use Rattle.aig_values.proofs.row.plane_row.PlaneRowCellRow.evaluate.Goals as goal

pub literal_bits-first-requires : goal.literal_bits-first-requires
literal_bits-first-requires c =
    cell_within c.deref.result.now c.args.self.now (ap spelled c.deref.ensures.value ∙ c.self.view_is)
    (variable c.args.gate.rhs0) c.requires.rhs0

pub literal_bits-second-requires : goal.literal_bits-second-requires
literal_bits-second-requires c =
    cell_within c.deref-2.result.now c.args.self.now (ap spelled c.deref-2.ensures.value ∙ c.self.view_is)
    (variable c.args.gate.rhs1) c.requires.rhs1

pub bits_from-requires : goal.bits_from-requires
bits_from-requires c =
    let lt : c.var-variable.result < length c.args.self.now = omega (arith, c.var-variable.ensures, c.requires.lhs) in
    cell_within c.deref-3.result.now c.args.self.now (ap spelled c.deref-3.ensures.value ∙ c.self.view_is) c.var-variable.result lt

pub flip-requires-clause-within : goal.flip-requires-clause-within
flip-requires-clause-within c =
    let lt : c.var-variable.result < length c.args.self.now = omega (arith, c.var-variable.ensures, c.requires.lhs) in
    cell_within c.deref_mut.result.now c.args.self.now (ap spelled c.deref_mut.ensures.value ∙ c.self.view_is)
    c.var-variable.result lt

pub returns-then-changed-eq0-clause-cells : goal.returns-then-changed-eq0-clause-cells
returns-then-changed-eq0-clause-cells c =
    let words = c.self.inside.words.items in
    let g = c.args.gate in
    let v = c.var-variable.result in
    let before = c.bits_from.result in
    let first = c.literal_bits-first.result in
    let second = c.literal_bits-second.result in
    same_cells words c.args.self.now c.self.view_is c.self.invariant g c.requires first second
    (c.literal_bits-first.ensures.one ∙ ap (λ ws. one_bit ws g.rhs0) c.deref.ensures.value)
    (c.literal_bits-first.ensures.zero ∙ ap (λ ws. zero_bit ws g.rhs0) c.deref.ensures.value)
    (c.literal_bits-second.ensures.one ∙ ap (λ ws. one_bit ws g.rhs1) c.deref-2.ensures.value)
    (c.literal_bits-second.ensures.zero ∙ ap (λ ws. zero_bit ws g.rhs1) c.deref-2.ensures.value)
    v before c.change-changed.result c.var-variable.ensures
    (first_one c.deref-3.result.now v before c.bits_from.ensures.one c.bits_from.ensures.zero
    ∙ ap (λ ws. bit_in (ones ws) v) c.deref-3.ensures.value)
    (first_zero c.deref-3.result.now v before c.bits_from.ensures.one c.bits_from.ensures.zero
    ∙ ap (λ ws. bit_in (zeros ws) v) c.deref-3.ensures.value)
    c.change-changed.ensures.one c.change-changed.ensures.zero
    c.if-changed-eq0.true

pub returns-then-changed-eq0-clause-changed : goal.returns-then-changed-eq0-clause-changed
returns-then-changed-eq0-clause-changed c =
    let words = c.self.inside.words.items in
    let g = c.args.gate in
    let v = c.var-variable.result in
    let before = c.bits_from.result in
    let first = c.literal_bits-first.result in
    let second = c.literal_bits-second.result in
    let value = same_cell words c.args.self.now c.self.view_is c.self.invariant g c.requires first second
    (c.literal_bits-first.ensures.one ∙ ap (λ ws. one_bit ws g.rhs0) c.deref.ensures.value)
    (c.literal_bits-first.ensures.zero ∙ ap (λ ws. zero_bit ws g.rhs0) c.deref.ensures.value)
    (c.literal_bits-second.ensures.one ∙ ap (λ ws. one_bit ws g.rhs1) c.deref-2.ensures.value)
    (c.literal_bits-second.ensures.zero ∙ ap (λ ws. zero_bit ws g.rhs1) c.deref-2.ensures.value)
    v before c.change-changed.result c.var-variable.ensures
    (first_one c.deref-3.result.now v before c.bits_from.ensures.one c.bits_from.ensures.zero
    ∙ ap (λ ws. bit_in (ones ws) v) c.deref-3.ensures.value)
    (first_zero c.deref-3.result.now v before c.bits_from.ensures.one c.bits_from.ensures.zero
    ∙ ap (λ ws. bit_in (zeros ws) v) c.deref-3.ensures.value)
    c.change-changed.ensures.one c.change-changed.ensures.zero
    c.if-changed-eq0.true in
    (λ yes. absurd (false≢true yes), λ ne. absurd (ne value))

pub invariant_of-self : goal.invariant_of-self
invariant_of-self c =
    let words = c.self.inside.words.items in
    let g = c.args.gate in
    let v = c.var-variable.result in
    let before = c.bits_from.result in
    let first = c.literal_bits-first.result in
    let second = c.literal_bits-second.result in
    let now = c.deref_mut.result.now in
    let new = c.flip.new.words in
    let same : c.deref-3.result.now ≡ now = c.deref-3.ensures.value ∙ sym c.deref_mut.ensures.value in
    let lt : v < length c.args.self.now = omega (arith, c.var-variable.ensures, c.requires.lhs) in
    let whole : AreWhole now = subst AreWhole (sym c.deref_mut.ensures.value) c.self.invariant in
    subst AreWhole
    (sym (with_items_is c.self.inside.words new (omega (arith, c.flip.auto.words, c.deref_mut.ensures.len))))
    (changed_whole now new c.args.self.now v before (bit_and first second) (bit_or first second) c.change-changed.result
    (ap spelled c.deref_mut.ensures.value ∙ c.self.view_is) lt c.flip.auto.words
    (first_one c.deref-3.result.now v before c.bits_from.ensures.one c.bits_from.ensures.zero
    ∙ ap (λ ws. bit_in (ones ws) v) same)
    (first_zero c.deref-3.result.now v before c.bits_from.ensures.one c.bits_from.ensures.zero
    ∙ ap (λ ws. bit_in (zeros ws) v) same)
    c.change-changed.ensures.one c.change-changed.ensures.zero c.flip.ensures.one c.flip.ensures.zero c.flip.ensures.other_ones
    c.flip.ensures.other_zeros
    whole (gate_apart words c.args.self.now c.self.view_is c.self.invariant g c.requires first second
    (c.literal_bits-first.ensures.one ∙ ap (λ ws. one_bit ws g.rhs0) c.deref.ensures.value)
    (c.literal_bits-first.ensures.zero ∙ ap (λ ws. zero_bit ws g.rhs0) c.deref.ensures.value)
    (c.literal_bits-second.ensures.one ∙ ap (λ ws. one_bit ws g.rhs1) c.deref-2.ensures.value)
    (c.literal_bits-second.ensures.zero ∙ ap (λ ws. zero_bit ws g.rhs1) c.deref-2.ensures.value)))

pub returns-clause-cells : goal.returns-clause-cells
returns-clause-cells c =
    let words = c.self.inside.words.items in
    let g = c.args.gate in
    let v = c.var-variable.result in
    let before = c.bits_from.result in
    let first = c.literal_bits-first.result in
    let second = c.literal_bits-second.result in
    let now = c.deref_mut.result.now in
    let new = c.flip.new.words in
    let same : c.deref-3.result.now ≡ now = c.deref-3.ensures.value ∙ sym c.deref_mut.ensures.value in
    let lt : v < length c.args.self.now = omega (arith, c.var-variable.ensures, c.requires.lhs) in
    ap spelled (with_items_is c.self.inside.words new (omega (arith, c.flip.auto.words, c.deref_mut.ensures.len)))
    ∙ changed_row now new c.args.self.now v before (bit_and first second) (bit_or first second) c.change-changed.result
    (ap spelled c.deref_mut.ensures.value ∙ c.self.view_is) lt c.flip.auto.words
    (first_one c.deref-3.result.now v before c.bits_from.ensures.one c.bits_from.ensures.zero
    ∙ ap (λ ws. bit_in (ones ws) v) same)
    (first_zero c.deref-3.result.now v before c.bits_from.ensures.one c.bits_from.ensures.zero
    ∙ ap (λ ws. bit_in (zeros ws) v) same)
    c.change-changed.ensures.one c.change-changed.ensures.zero c.flip.ensures.one c.flip.ensures.zero c.flip.ensures.other_ones
    c.flip.ensures.other_zeros
    (gate_value c.args.self.now g) (gate_bits words c.args.self.now c.self.view_is c.self.invariant g c.requires first second
    (c.literal_bits-first.ensures.one ∙ ap (λ ws. one_bit ws g.rhs0) c.deref.ensures.value)
    (c.literal_bits-first.ensures.zero ∙ ap (λ ws. zero_bit ws g.rhs0) c.deref.ensures.value)
    (c.literal_bits-second.ensures.one ∙ ap (λ ws. one_bit ws g.rhs1) c.deref-2.ensures.value)
    (c.literal_bits-second.ensures.zero ∙ ap (λ ws. zero_bit ws g.rhs1) c.deref-2.ensures.value))
    ∙ ap (λ i. set c.args.self.now i (gate_value c.args.self.now g)) c.var-variable.ensures

pub returns-clause-changed : goal.returns-clause-changed
returns-clause-changed c =
    let words = c.self.inside.words.items in
    let g = c.args.gate in
    let v = c.var-variable.result in
    let before = c.bits_from.result in
    let first = c.literal_bits-first.result in
    let second = c.literal_bits-second.result in
    let none = none_changes words c.args.self.now c.self.view_is c.self.invariant g c.requires first second
    (c.literal_bits-first.ensures.one ∙ ap (λ ws. one_bit ws g.rhs0) c.deref.ensures.value)
    (c.literal_bits-first.ensures.zero ∙ ap (λ ws. zero_bit ws g.rhs0) c.deref.ensures.value)
    (c.literal_bits-second.ensures.one ∙ ap (λ ws. one_bit ws g.rhs1) c.deref-2.ensures.value)
    (c.literal_bits-second.ensures.zero ∙ ap (λ ws. zero_bit ws g.rhs1) c.deref-2.ensures.value)
    v before c.change-changed.result c.var-variable.ensures
    (first_one c.deref-3.result.now v before c.bits_from.ensures.one c.bits_from.ensures.zero
    ∙ ap (λ ws. bit_in (ones ws) v) c.deref-3.ensures.value)
    (first_zero c.deref-3.result.now v before c.bits_from.ensures.one c.bits_from.ensures.zero
    ∙ ap (λ ws. bit_in (zeros ws) v) c.deref-3.ensures.value)
    c.change-changed.ensures.one c.change-changed.ensures.zero
    c.change-changed.ensures.alone in
    (λ yes e. c.if-changed-eq0.false (none e), λ ne. refl)

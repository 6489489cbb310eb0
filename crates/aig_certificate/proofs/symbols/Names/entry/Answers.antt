use Rattle.std.proofs.Common.{◌≡◌, ℕ, ◌<◌, List, Option, length, refl, sym, ap, ap₂, subst, ◌∙◌, arith}
use Rattle.std.proofs.lemmas.List.FromFn.{length-map-range_with_len}
use Rattle.aig_parts.specs.declared.symbols.Kind.{Kind}
use Rattle.aig_parts.specs.Formed.{section_length}
use Rattle.aig_certificate.specs.Strengthened.{certificate_entry, own_entry, own_position}
use Rattle.aig_certificate.specs.state.Marks.{meanings_of}
use Rattle.aig_certificate.specs.state.Names.{entry_by}
use Rattle.aig_certificate.proofs.Naming.{entry_is}
use Rattle.aig_certificate.proofs.symbols.Names.entry.Goals as goal

pub own_entry-requires : goal.own_entry-requires
own_entry-requires c =
    let names = c.args.self.now in
    omega (
      arith,
      ap length c.deref.ensures.value,
      ap length c.as_slice.ensures,
      ap length c.requires.names.inputs,
      length-map-range_with_len (own_position (length names.model.now.inputs) names.shared.now.inputs) 0 (length names.shared.now.inputs),
    )

pub own_entry-requires-in-Latch : goal.own_entry-requires-in-Latch
own_entry-requires-in-Latch c =
    let names = c.args.self.now in
    omega (
      arith,
      ap length c.deref-in-Latch.ensures.value,
      ap length c.as_slice-in-Latch.ensures,
      ap length c.requires.names.latches,
      length-map-range_with_len (own_position (length names.model.now.latches) names.shared.now.latches) 0
          (length names.shared.now.latches),
    )

pub returns-in-Input : goal.returns-in-Input
returns-in-Input c =
    let names = c.args.self.now in
    let kind = c.args.kind in
    let p = c.args.position in
    let ms = names.shared.now.inputs in
    let n = length names.model.now.inputs in
    let there : p < length names.certificate.now.inputs =
    subst (λ (k : Kind). p < section_length names.certificate.now k) c.in-Input.is c.requires.there in
    c.own_entry.ensures
    ∙ ap₂ (λ (xs : List (Option ℕ)) (ps : List ℕ). entry_by kind xs ps p) c.as_slice.ensures
    (c.deref.ensures.value ∙ c.requires.names.inputs)
    ∙ entry_is kind n ms p (omega (arith, there, c.requires.names.meanings.input_count))
    ∙ subst (λ (k : Kind). own_entry k n ms p
    ≡ certificate_entry names.model.now names.certificate.now (meanings_of names.shared.now) k p) (sym c.in-Input.is) refl

pub returns-in-Latch : goal.returns-in-Latch
returns-in-Latch c =
    let names = c.args.self.now in
    let kind = c.args.kind in
    let p = c.args.position in
    let ms = names.shared.now.latches in
    let n = length names.model.now.latches in
    let there : p < length names.certificate.now.latches =
    subst (λ (k : Kind). p < section_length names.certificate.now k) c.in-Latch.is c.requires.there in
    c.own_entry-in-Latch.ensures
    ∙ ap₂ (λ (xs : List (Option ℕ)) (ps : List ℕ). entry_by kind xs ps p) c.as_slice-in-Latch.ensures
    (c.deref-in-Latch.ensures.value ∙ c.requires.names.latches)
    ∙ entry_is kind n ms p (omega (arith, there, c.requires.names.meanings.latch_count))
    ∙ subst (λ (k : Kind). own_entry k n ms p
    ≡ certificate_entry names.model.now names.certificate.now (meanings_of names.shared.now) k p) (sym c.in-Latch.is) refl

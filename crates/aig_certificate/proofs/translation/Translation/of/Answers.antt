use Rattle.std.proofs.Common.{◌≡◌, ℕ, ◌+◌, List, ◌++◌, Option, None, length, map, get_or, replicate, All, sym, ap, ap₂}
use Rattle.std.proofs.Common.{subst, ◌∙◌, arith}
use Rattle.std.proofs.lemmas.List.{get_or-replicate, length-replicate}
use Rattle.aig_parts.specs.Literal.{variable}
use Rattle.aig_base.specs.RenumberingTable.{IsInTable}
use Rattle.aig_base.specs.Sections.{definitions}
use Rattle.aig_base.specs.Sound.{IsDefinition, StandsTwice}
use Rattle.aig_certificate.specs.state.Marks.{meanings_of}
use Rattle.aig_certificate.specs.state.Table.{AreEntered, all_meanings, values_from}
use Rattle.aig_certificate.proofs.Entered.{has_definitions, is_translation, length-meanings, length-values}
use Rattle.aig_certificate.proofs.translation.Translation.of.Goals as goal
use Rattle.aig_certificate.proofs.translation.Translation.of.Goals.{After-as_slice-2}

module _ (c : After-as_slice-2) where
  lits : c.as_slice.result.now ≡ definitions c.args.certificate.now
  lits = c.as_slice.ensures ∙ c.in_ok-literals.ensures

  vals : c.as_slice-2.result.now
      ≡ values_from (c.args.model.now.max_var + 1) (all_meanings (meanings_of c.args.shared.now) c.args.certificate.now)
  vals =
      c.as_slice-2.ensures ∙ c.in_ok-values.ensures
      ∙ ap₂ (λ (v : ℕ) (ms : List (Option ℕ)). values_from (v + 1) ms) c.max_var.ensures.value
      (c.deref.ensures.value ∙ c.in_ok-meanings.ensures
      ∙ ap (λ (n : ℕ). c.args.shared.now.inputs ++ c.args.shared.now.latches ++ replicate n None) (ap length c.gates.ensures))

  cleared : c.from_vec-table.result ≡ replicate (c.max_var-2.result + 1) c.new.result
  cleared = c.from_vec-table.ensures ∙ c.in_ok-vec.ensures.items_if_clones_equal (λ y e. e)

  size : length c.from_vec-table.result ≡ c.args.certificate.now.max_var + 1
  size =
      ap length cleared ∙ length-replicate (c.max_var-2.result + 1) c.new.result
      ∙ ap (λ (n : ℕ). n + 1) c.max_var-2.ensures.value

pub enter-requires : goal.enter-requires
enter-requires c =
    let table = c.from_vec-table.result in
    let certificate = c.args.certificate.now in
    let shared = meanings_of c.args.shared.now in
    let sound = c.facts-2.ensures.sound in
    let P : List ℕ → Type 0 = All IsDefinition in
    let Q : List ℕ → Type 0 = All (IsInTable table) in
    record {
      definitions = subst P (sym (lits c)) sound.definitions;
      once = subst (λ (ls : List ℕ). (v : ℕ) → StandsTwice (map variable ls) v → ⊥) (sym (lits c)) sound.once;
      listed = subst Q (sym (lits c)) (has_definitions certificate sound table (size c));
      values = ap length (vals c) ∙ length-values (c.args.model.now.max_var + 1) (all_meanings shared certificate)
          ∙ length-meanings c.args.model.now certificate shared c.requires ∙ sym (ap length (lits c));
    }

pub returns : goal.returns
returns c =
    let model = c.args.model.now in
    let certificate = c.args.certificate.now in
    let shared = meanings_of c.args.shared.now in
    let table = c.enter.new.table in
    let lits : c.as_slice.result.now ≡ definitions certificate = c.as_slice.ensures ∙ c.in_ok-literals.ensures in
    let vals : c.as_slice-2.result.now ≡ values_from (model.max_var + 1) (all_meanings shared certificate) =
    c.as_slice-2.ensures ∙ c.in_ok-values.ensures
    ∙ ap₂ (λ (v : ℕ) (ms : List (Option ℕ)). values_from (v + 1) ms) c.max_var.ensures.value
    (c.deref.ensures.value ∙ c.in_ok-meanings.ensures
    ∙ ap (λ (n : ℕ). c.args.shared.now.inputs ++ c.args.shared.now.latches ++ replicate n None) (ap length c.gates.ensures)) in
    let cleared : c.from_vec-table.result ≡ replicate (c.max_var-2.result + 1) c.new.result =
    c.from_vec-table.ensures ∙ c.in_ok-vec.ensures.items_if_clones_equal (λ y e. e) in
    let size : length c.from_vec-table.result ≡ certificate.max_var + 1 =
    ap length cleared ∙ length-replicate (c.max_var-2.result + 1) c.new.result
    ∙ ap (λ (n : ℕ). n + 1) c.max_var-2.ensures.value in
    let first : get_or c.from_vec-table.result 0 0 ≡ 0 =
    ap (λ (t : List ℕ). get_or t 0 0) cleared
    ∙ get_or-replicate (c.max_var-2.result + 1) 0 c.new.result 0 (omega arith) ∙ c.new.ensures in
    let entered : AreEntered table (definitions certificate) (values_from (model.max_var + 1) (all_meanings shared certificate)) =
    subst (λ (ls : List ℕ). AreEntered table ls (values_from (model.max_var + 1) (all_meanings shared certificate))) lits
    (subst (λ (vs : List ℕ). AreEntered table c.as_slice.result.now vs) vals c.enter.ensures.entered) in
    record {
      is = is_translation model certificate shared table c.facts-2.ensures.sound c.requires entered (c.enter.ensures.constant ∙ first);
      size = c.enter.ensures.size ∙ size;
    }

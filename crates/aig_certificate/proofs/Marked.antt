-- What the symbols of a certificate say.
use Rattle.std.proofs.Common.{◌≡◌, ◌≢◌, inl, inr, ℕ, ◌+◌, ◌<◌, List, [], ◌∷◌, ◌++◌, length, decimal, codes, Option}
use Rattle.std.proofs.Common.{Some, None, slice_get, option_map, Contains, AllPairs}
use Rattle.std.proofs.Common.{refl, sym, ap, subst, ◌∙◌, arith}
use Rattle.std.specs.Map.{keys_of}
use Rattle.std.proofs.lemmas.Bool.{cases_lt}
use Rattle.std.proofs.lemmas.List.{append_cancel_left}
use Rattle.std.proofs.lemmas.List.Elements.{All-contains}
use Rattle.std.proofs.lemmas.Option.{slice_get-map, slice_get_within, get_or_from_slice_get}
use Rattle.aig_parts.specs.declared.raw.Raw.{Raw}
use Rattle.aig_parts.specs.declared.symbols.Kind.{Kind}
use Rattle.aig_parts.specs.declared.symbols.Kind.TheVariants.{Input, Latch as Latches}
use Rattle.aig_parts.specs.Formed.{IsFormed, IsSymbolOf, section_length}
use Rattle.aig_parts.specs.Literal.{variable}
use Rattle.aig_parts.specs.SymbolPlaces.{Key}
use Rattle.aig_base.specs.Sections.{IsDefined}
use Rattle.aig_base.proofs.lists.Gets.{get_from_Contains, same_element, slice_get_push}
use Rattle.aig_certificate.specs.declared.fault.StrengthenFault.{StrengthenFault}
use Rattle.aig_certificate.specs.declared.fault.StrengthenFault.TheVariants as faults
use Rattle.aig_certificate.specs.Shared as spec
use Rattle.aig_certificate.specs.Shared.{IsBefore, IsMarked, IsMeaning, IsWrong, IsWrongMapping, Sharing}
use Rattle.aig_certificate.specs.state.Marks.{AreMeaningsOf, AreRight, IsFirstWrong, IsNamedLiteral, RefusesReading}
use Rattle.aig_certificate.specs.state.Said.{RefusesSharing}

-- an entry has one name
pub same_name : (symbols : List (Key × List ℕ)) → AllPairs (λ x y. x ≢ y) (keys_of symbols) → (k : Key) (a b : List ℕ)
    → Contains symbols (k, a) → Contains symbols (k, b) → a ≡ b
same_name symbols once k a b ha hb =
    let (i, at) = get_from_Contains symbols (k, a) ha in
    let (j, bt) = get_from_Contains symbols (k, b) hb in
    let ki = key_at i a at in
    let kj = key_at j b bt in
    elim (cases_lt i j) [
      | inl lt ↦ absurd (apart i j lt ki kj)
      | inr le ↦ elim (cases_lt j i) [
        | inl lt ↦ absurd (apart j i lt kj ki)
        | inr ge ↦
            (let same : i ≡ j = omega arith in
            ap (λ (s : Key × List ℕ). s.1) (same_element symbols i (k, a) (k, b) at (ap (slice_get symbols) same ∙ bt)))
      ]
    ]
  where
    key_at : (i : ℕ) (a : List ℕ) → slice_get symbols i ≡ Some (k, a) → slice_get (keys_of symbols) i ≡ Some k
    key_at i a at = slice_get-map (λ (s : Key × List ℕ). s.0) symbols i ∙ ap (option_map (λ (s : Key × List ℕ). s.0)) at

    apart : (i j : ℕ) → i < j → slice_get (keys_of symbols) i ≡ Some k → slice_get (keys_of symbols) j ≡ Some k → ⊥
    apart i j lt hi hj =
        once i j k lt (slice_get_within (keys_of symbols) j k hj)
        (get_or_from_slice_get (keys_of symbols) i k k hi ∙ sym (get_or_from_slice_get (keys_of symbols) j k k hj))

-- the symbol of an entry that has this name
pub marked_name : (raw : Raw) → IsFormed raw → (key : Key) (name word : List ℕ) → Contains raw.symbols (key, name)
    → IsMarked raw key word → name ≡ codes "= " ++ word
marked_name raw formed key name word here marked =
    same_name raw.symbols formed.names key name (codes "= " ++ word) here marked.1

-- a symbol that names a literal is not wrong
pub right_literal : (model raw : Raw) → IsFormed raw → (key : Key) (name word : List ℕ) (l : ℕ)
    → Contains raw.symbols (key, name) → name ≡ codes "= " ++ word → word ≡ decimal l → IsDefined model (variable l)
    → IsWrong model raw key → ⊥
right_literal model raw formed key name word l here is spelled defined (other, marked, never) =
    let same : word ≡ other =
    append_cancel_left (codes "= ") word other (sym is ∙ marked_name raw formed key name other here marked) in
    never l defined (sym same ∙ spelled)

module _ (model certificate : Raw) where
  -- by symbols
  pub named_meaning : (key : Key) (m : Option ℕ) → IsNamedLiteral certificate key m
      → IsMeaning model certificate spec.symbols key m
  named_meaning key (Some l) marked = marked
  named_meaning key None never = λ l h. never (decimal l) h

  -- one more entry of a section
  pub meanings_more : (sharing : Sharing) (kind : Kind) (old new : List (Option ℕ)) (n : ℕ) (m : Option ℕ) → length old ≡ n → new ≡ old ++ m ∷ []
      → IsMeaning model certificate sharing (kind, n) m → AreMeaningsOf model certificate sharing kind old
      → AreMeaningsOf model certificate sharing kind new
  meanings_more sharing kind old new n m size is here h p x at =
      elim (slice_get_push old m x p (ap (λ (ms : List (Option ℕ)). slice_get ms p) (sym is) ∙ at)) [
        | inl before ↦ h p x before
        | inr (last, same) ↦
            subst (λ y. IsMeaning model certificate sharing (kind, p) y) same
            (subst (λ q. IsMeaning model certificate sharing (kind, q) m) (sym (last ∙ size)) here)
      ]

  pub right_more : (kind : Kind) (n : ℕ) → (IsWrong model certificate (kind, n) → ⊥) → AreRight model certificate kind n
      → AreRight model certificate kind (n + 1)
  right_more kind n here h p lt = elim (cases_lt p n) [
    | inl before ↦ h p before
    | inr le ↦
        (let same : n ≡ p = omega arith in subst (λ q. IsWrong model certificate (kind, q) → ⊥) same here)
  ]

  pub first_wrong : (kind : Kind) (n : ℕ) (fault : StrengthenFault) → fault ≡ faults.Symbol kind n
      → IsWrong model certificate (kind, n) → AreRight model certificate kind n → IsFirstWrong model certificate kind fault
  first_wrong kind n fault is wrong right =
      subst (λ f. IsFirstWrong model certificate kind f) (sym is) (refl, wrong, right)

  -- no input and no latch is wrong
  pub none_wrong : IsFormed certificate → AreRight model certificate Input (length certificate.inputs)
      → AreRight model certificate Latches (length certificate.latches) → (key : Key) → IsWrong model certificate key → ⊥
  none_wrong formed inputs latches key wrong =
      let there : key.1 < section_length certificate key.0 =
      (All-contains (IsSymbolOf certificate) certificate.symbols (key, codes "= " ++ wrong.0) formed.symbols wrong.1.1).0 in
      elim wrong.1.0 [
        | inl e ↦
            inputs key.1 (subst (λ k. key.1 < section_length certificate k) e there)
            (subst (λ (k : Kind). IsWrong model certificate (k, key.1)) e wrong)
        | inr e ↦
            latches key.1 (subst (λ k. key.1 < section_length certificate k) e there)
            (subst (λ (k : Kind). IsWrong model certificate (k, key.1)) e wrong)
      ]

  -- none before an input is wrong, where none of the inputs before it is
  pub before_input : (n : ℕ) → AreRight model certificate Input n → (key : Key) → IsBefore key (Input, n)
      → IsWrong model certificate key → ⊥
  before_input n inputs key (inl (a, b)) wrong = no b
    where
      no : Input ≡ Latches → ⊥
      no e = cc
  before_input n inputs key (inr (same, lt)) wrong =
      inputs key.1 lt (subst (λ (k : Kind). IsWrong model certificate (k, key.1)) same wrong)

  -- none before a latch is wrong, where no input is, and none of the latches before it
  pub before_latch : (n : ℕ) → IsFormed certificate → AreRight model certificate Input (length certificate.inputs)
      → AreRight model certificate Latches n → (key : Key) → IsBefore key (Latches, n) → IsWrong model certificate key → ⊥
  before_latch n formed inputs latches key (inl (a, b)) wrong =
      let there : key.1 < section_length certificate key.0 =
      (All-contains (IsSymbolOf certificate) certificate.symbols (key, codes "= " ++ wrong.0) formed.symbols wrong.1.1).0 in
      inputs key.1 (subst (λ k. key.1 < section_length certificate k) a there)
      (subst (λ (k : Kind). IsWrong model certificate (k, key.1)) a wrong)
  before_latch n formed inputs latches key (inr (same, lt)) wrong =
      latches key.1 lt (subst (λ (k : Kind). IsWrong model certificate (k, key.1)) same wrong)

  pub refuses_input : (IsWrongMapping model certificate → ⊥) → (fault : StrengthenFault) → IsFirstWrong model certificate Input fault
      → RefusesReading model certificate fault
  refuses_input none faults.Memory h = tt
  refuses_input none faults.Comment h = absurd h
  refuses_input none (faults.Symbol k p) (same, wrong, right) =
      subst (λ (kind : Kind). RefusesReading model certificate (faults.Symbol kind p)) (sym same)
      (none, wrong, before_input p right)
  refuses_input none faults.Property h = absurd h
  refuses_input none faults.Limit h = absurd h
  refuses_input none (faults.Circuit f) h = absurd h

  pub refuses_latch : (IsWrongMapping model certificate → ⊥) → IsFormed certificate
      → AreRight model certificate Input (length certificate.inputs) → (fault : StrengthenFault)
      → IsFirstWrong model certificate Latches fault → RefusesReading model certificate fault
  refuses_latch none formed inputs faults.Memory h = tt
  refuses_latch none formed inputs faults.Comment h = absurd h
  refuses_latch none formed inputs (faults.Symbol k p) (same, wrong, right) =
      subst (λ (kind : Kind). RefusesReading model certificate (faults.Symbol kind p)) (sym same)
      (none, wrong, before_latch p formed inputs right)
  refuses_latch none formed inputs faults.Property h = absurd h
  refuses_latch none formed inputs faults.Limit h = absurd h
  refuses_latch none formed inputs (faults.Circuit f) h = absurd h

  pub refuses_sharing : (fault : StrengthenFault) → RefusesSharing model certificate fault
      → RefusesReading model certificate fault
  refuses_sharing faults.Memory h = tt
  refuses_sharing faults.Comment h = h
  refuses_sharing (faults.Symbol k p) h = absurd h
  refuses_sharing faults.Property h = absurd h
  refuses_sharing faults.Limit h = absurd h
  refuses_sharing (faults.Circuit f) h = absurd h

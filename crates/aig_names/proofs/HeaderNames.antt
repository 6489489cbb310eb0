-- A reader of a header finds exactly the names of each entry.
use Rattle.std.proofs.Common.{◌≡◌, ◌↔◌, ℕ, ◌+◌, ◌<◌, List, [], ◌∷◌, ◌++◌, Contains, sym, ap, ◌∙◌, subst, arith, inl}
use Rattle.std.proofs.Common.{inr}
use Rattle.std.proofs.lemmas.List.Elements.{Contains-append_left, Contains-append_right, Contains-append_cases}
use Rattle.aig_parts.specs.declared.symbols.Kind.{Kind}
use Rattle.aig_parts.specs.declared.symbols.Kind.TheVariants.{Input, Latch, Output, Bad, Constraint, Justice, Fairness}
use Rattle.aig_parts.specs.SymbolPlaces.{Key}
use Rattle.aig_names.specs.declared.header.SignalCounts.{SignalCounts}
use Rattle.aig_names.specs.Header.{header}
use Rattle.aig_names.specs.HeaderRead.{read_names, shown_entries, first_signal, section_scope_name, NamesSignal}
use Rattle.aig_names.specs.Names.{names_of, identifier_code}
use Rattle.aig_names.specs.Paths.{path_of}
use Rattle.aig_names.specs.Signals.{section_names}
use Rattle.aig_names.proofs.DeclaredNames.{in_map, from_map, named_in_section, named_of_section}
use Rattle.aig_names.proofs.FoundNames.{read_as, section_read, sections_read, names_read}

-- ---- one section
-- the names of the section of a kind
abbrev read_of : List (Key × List ℕ) → SignalCounts → Kind → List (List (List ℕ) × List ℕ)
read_of symbols counts kind =
    section_read symbols kind (section_scope_name kind) (first_signal counts kind) (shown_entries counts kind)

names_signal : (symbols : List (Key × List ℕ)) (counts : SignalCounts) (kind : Kind) (path : List (List ℕ))
    (code : List ℕ)
    → Contains (read_of symbols counts kind) (path, code) → NamesSignal symbols counts path code
names_signal symbols counts kind path code h =
    let n : ℕ = first_signal counts kind in
    let m =
    from_map (read_as (section_scope_name kind ∷ [])) (section_names symbols kind n (shown_entries counts kind))
    (path, code) h in
    let is = named_of_section symbols kind n (shown_entries counts kind) m.0 m.1 in
    let same : read_as (section_scope_name kind ∷ []) (n + is.position, is.name) ≡ (path, code) =
    ap (read_as (section_scope_name kind ∷ [])) is.is ∙ m.2 in
    record {
      kind = kind;
      position = is.position;
      name = is.name;
      here = is.here;
      name_is = is.name_is;
      path_is = ap (λ (x : List (List ℕ) × List ℕ). x.0) (sym same);
      code_is = ap (λ (x : List (List ℕ) × List ℕ). x.1) (sym same);
    }

signal_named : (symbols : List (Key × List ℕ)) (counts : SignalCounts) (kind : Kind) (p : ℕ) (name : List ℕ)
    → p < shown_entries counts kind → Contains (names_of symbols kind p) name
    → Contains (read_of symbols counts kind)
    (section_scope_name kind ∷ path_of name, identifier_code (first_signal counts kind + p))
signal_named symbols counts kind p name lt h =
    let n : ℕ = first_signal counts kind in
    in_map (read_as (section_scope_name kind ∷ [])) (section_names symbols kind n (shown_entries counts kind))
    (n + p, name)
    (named_in_section symbols kind n (shown_entries counts kind) p name lt h)

-- ---- all sections
from_sections : (symbols : List (Key × List ℕ)) (counts : SignalCounts) (path : List (List ℕ)) (code : List ℕ)
    → Contains (sections_read symbols counts) (path, code) → NamesSignal symbols counts path code
from_sections symbols counts path code h =
    let of : Kind → List (List (List ℕ) × List ℕ) = read_of symbols counts in
    let x : List (List ℕ) × List ℕ = (path, code) in
    elim (Contains-append_cases (of Input) (of Latch ++ (of Output ++ (of Bad ++ of Constraint))) x h) [
      | inl l ↦ names_signal symbols counts Input path code l
      | inr r ↦ elim (Contains-append_cases (of Latch) (of Output ++ (of Bad ++ of Constraint)) x r) [
        | inl l ↦ names_signal symbols counts Latch path code l
        | inr r ↦ elim (Contains-append_cases (of Output) (of Bad ++ of Constraint) x r) [
          | inl l ↦ names_signal symbols counts Output path code l
          | inr r ↦ elim (Contains-append_cases (of Bad) (of Constraint) x r) [
            | inl l ↦ names_signal symbols counts Bad path code l
            | inr r ↦ names_signal symbols counts Constraint path code r
          ]
        ]
      ]
    ]

to_sections : (symbols : List (Key × List ℕ)) (counts : SignalCounts) (kind : Kind) (p : ℕ) (x : List (List ℕ) × List ℕ)
    → p < shown_entries counts kind → Contains (read_of symbols counts kind) x
    → Contains (sections_read symbols counts) x
to_sections symbols counts Input p x lt h =
    let of : Kind → List (List (List ℕ) × List ℕ) = read_of symbols counts in
    Contains-append_left (of Input) (of Latch ++ (of Output ++ (of Bad ++ of Constraint))) x h
to_sections symbols counts Latch p x lt h =
    let of : Kind → List (List (List ℕ) × List ℕ) = read_of symbols counts in
    Contains-append_right (of Input) (of Latch ++ (of Output ++ (of Bad ++ of Constraint))) x
    (Contains-append_left (of Latch) (of Output ++ (of Bad ++ of Constraint)) x h)
to_sections symbols counts Output p x lt h =
    let of : Kind → List (List (List ℕ) × List ℕ) = read_of symbols counts in
    Contains-append_right (of Input) (of Latch ++ (of Output ++ (of Bad ++ of Constraint))) x
    (Contains-append_right (of Latch) (of Output ++ (of Bad ++ of Constraint)) x
    (Contains-append_left (of Output) (of Bad ++ of Constraint) x h))
to_sections symbols counts Bad p x lt h =
    let of : Kind → List (List (List ℕ) × List ℕ) = read_of symbols counts in
    Contains-append_right (of Input) (of Latch ++ (of Output ++ (of Bad ++ of Constraint))) x
    (Contains-append_right (of Latch) (of Output ++ (of Bad ++ of Constraint)) x
    (Contains-append_right (of Output) (of Bad ++ of Constraint) x (Contains-append_left (of Bad) (of Constraint) x h)))
to_sections symbols counts Constraint p x lt h =
    let of : Kind → List (List (List ℕ) × List ℕ) = read_of symbols counts in
    Contains-append_right (of Input) (of Latch ++ (of Output ++ (of Bad ++ of Constraint))) x
    (Contains-append_right (of Latch) (of Output ++ (of Bad ++ of Constraint)) x
    (Contains-append_right (of Output) (of Bad ++ of Constraint) x
    (Contains-append_right (of Bad) (of Constraint) x h)))
to_sections symbols counts Justice p x lt h = absurd (omega arith)
to_sections symbols counts Fairness p x lt h = absurd (omega arith)

-- ---- the header
pub header_names : (symbols : List (Key × List ℕ)) (counts : SignalCounts) (path : List (List ℕ)) (code : List ℕ)
    → Contains (read_names (header symbols counts)) (path, code) ↔ NamesSignal symbols counts path code
header_names symbols counts path code =
    let x : List (List ℕ) × List ℕ = (path, code) in (
      λ h. from_sections symbols counts path code (subst (λ xs. Contains xs x) (names_read symbols counts) h),
      λ s.
          let c = signal_named symbols counts s.kind s.position s.name s.here s.name_is in
          let n : ℕ = first_signal counts s.kind + s.position in
          let same : (section_scope_name s.kind ∷ path_of s.name, identifier_code n) ≡ x =
          λ i. (sym s.path_is i, sym s.code_is i) in
          let there : Contains (read_of symbols counts s.kind) x =
          subst (λ y. Contains (read_of symbols counts s.kind) y) same c in
          subst (λ xs. Contains xs x) (sym (names_read symbols counts))
          (to_sections symbols counts s.kind s.position x s.here there),
    )

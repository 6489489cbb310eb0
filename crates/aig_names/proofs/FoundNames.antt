-- What a reader finds in the lines of a header.
use Rattle.std.proofs.Common.{◌≡◌, ℕ, zero, suc, ◌+◌, ◌-◌, ◌≤◌, Bool, true, false, List, [], ◌∷◌, ◌++◌, length, map}
use Rattle.std.proofs.Common.{take, drop, refl, sym, ap, ◌∙◌, arith, append_assoc, append-nil, add-one}
use Rattle.std.specs.Prelude.{if◌then◌else◌, codes, bytes_eq}
use Rattle.std.proofs.lemmas.Slice.Eq.{bytes_eq-Decides}
use Rattle.std.proofs.lemmas.List.{take-append-drop, take-take, take_at, take_all, length-append, length-take}
use Rattle.std.proofs.lemmas.List.{map-append}
use Rattle.std.proofs.Math.Seq.{take-append-add}
use Rattle.aig_parts.specs.declared.symbols.Kind.{Kind}
use Rattle.aig_parts.specs.declared.symbols.Kind.TheVariants.{Input, Latch, Output, Bad, Constraint}
use Rattle.aig_parts.specs.SymbolPlaces.{Key}
use Rattle.aig_names.specs.declared.header.SignalCounts.{SignalCounts}
use Rattle.aig_names.specs.Header.{shared, header}
use Rattle.aig_names.specs.HeaderRead.{found, read_names}
use Rattle.aig_names.specs.Names.{identifier_code}
use Rattle.aig_names.specs.Paths.{path_of, scopes_of, leaf_of}
use Rattle.aig_names.specs.Signals.{section_names}
use Rattle.aig_names.proofs.DeclaredNames.{no_names}
use Rattle.aig_names.proofs.HeaderLines.{whole, scope_words, up_words, signal_words, closing_words, move_words}
use Rattle.aig_names.proofs.HeaderLines.{name_words, section_words, sections_words, version_words}
use Rattle.aig_names.proofs.HeaderLines.{timescale_words, last_words, header_words, header_cut}
use Rattle.aig_names.proofs.NamePieces.{path_parts}

-- ---- shared scopes
shared_first : (a b : List ℕ) (opened scopes : List (List ℕ)) (n : ℕ) (t : Bool) → bytes_eq a b ≡ t
    → take n opened ≡ take n scopes → n ≤ length opened
    → (take (if t then n + 1 else 0) (a ∷ opened) ≡ take (if t then n + 1 else 0) (b ∷ scopes))
    × ((if t then n + 1 else 0) ≤ length (a ∷ opened))
shared_first a b opened scopes n true e h le =
    let same : a ≡ b = (bytes_eq-Decides a b).0 e in
    (rw add-one (λ i. same i ∷ h i), omega arith)
shared_first a b opened scopes n false e h le = (refl, omega arith)

shared_is : (opened scopes : List (List ℕ)) → (take (shared opened scopes) opened ≡ take (shared opened scopes) scopes)
    × (shared opened scopes ≤ length opened)
unfolding shared
shared_is [] scopes = (refl, omega arith)
shared_is (a ∷ opened) [] = (refl, omega arith)
shared_is (a ∷ opened) (b ∷ scopes) =
    let h = shared_is opened scopes in
    shared_first a b opened scopes (shared opened scopes) (bytes_eq a b) refl h.0 h.1

-- ---- lines
-- lines and the words of others after them
abbrev before : List (List (List ℕ)) → List (List (List ℕ)) → List (List (List ℕ))
before wss more = map whole wss ++ more

before_append : (wss vss more : List (List (List ℕ))) → before (wss ++ vss) more ≡ before wss (before vss more)
before_append wss vss more =
    ap (λ (l : List (List (List ℕ))). l ++ more) (map-append whole wss vss)
    ∙ append_assoc (map whole wss) (map whole vss) more

found_scope : (opened : List (List ℕ)) (name : List ℕ) (more : List (List (List ℕ)))
    → found opened (whole (scope_words name) ∷ more) ≡ found (opened ++ name ∷ []) more
unfolding found
found_scope opened name more = refl

found_up : (opened : List (List ℕ)) (more : List (List (List ℕ)))
    → found opened (whole up_words ∷ more) ≡ found (take (length opened - 1) opened) more
unfolding found
found_up opened more = refl

found_signal : (opened : List (List ℕ)) (type : List ℕ) (n : ℕ) (name : List ℕ) (more : List (List (List ℕ)))
    → found opened (whole (signal_words type n name) ∷ more)
    ≡ (opened ++ name ∷ [], identifier_code n) ∷ found opened more
unfolding found
found_signal opened type n name more = refl

found_closings : (opened : List (List ℕ)) (n : ℕ) (more : List (List (List ℕ))) → n ≤ length opened
    → found opened (before (closing_words n) more) ≡ found (take (length opened - n) opened) more
unfolding closing_words
found_closings opened zero more le =
    ap (λ (s : List (List ℕ)). found s more) (sym (take_all (length opened - 0) opened (omega arith)))
found_closings opened (suc n) more le =
    let rest : List (List ℕ) = take (length opened - 1) opened in
    let long : length rest ≡ length opened - 1 = omega (arith, length-take (length opened - 1) opened) in
    let same : length rest - n ≡ length opened - suc n = omega arith in
    found_up opened (before (closing_words n) more)
    ∙ found_closings rest n more (omega arith)
    ∙ ap (λ (k : ℕ). found (take k rest) more) same
    ∙ ap (λ (s : List (List ℕ)). found s more)
    (take-take (length opened - suc n) (length opened - 1) opened (omega arith))

found_scopes : (opened scopes : List (List ℕ)) (more : List (List (List ℕ)))
    → found opened (before (map scope_words scopes) more) ≡ found (opened ++ scopes) more
found_scopes opened [] more = ap (λ (s : List (List ℕ)). found s more) (sym (append-nil opened))
found_scopes opened (name ∷ scopes) more =
    found_scope opened name (before (map scope_words scopes) more)
    ∙ found_scopes (opened ++ name ∷ []) scopes more
    ∙ ap (λ (s : List (List ℕ)). found s more) (append_assoc opened (name ∷ []) scopes)

found_moves : (prefix opened scopes : List (List ℕ)) (more : List (List (List ℕ)))
    → found (prefix ++ opened) (before (move_words opened scopes) more) ≡ found (prefix ++ scopes) more
found_moves prefix opened scopes more =
    let s : ℕ = shared opened scopes in
    let n : ℕ = length opened - s in
    let new : List (List ℕ) = drop s scopes in
    let is = shared_is opened scopes in
    let long = length-append prefix opened in
    let left : length (prefix ++ opened) - n ≡ length prefix + s = omega (arith, is.1) in
    let kept : take (length (prefix ++ opened) - n) (prefix ++ opened) ≡ prefix ++ take s scopes =
    ap (λ (k : ℕ). take k (prefix ++ opened)) left ∙ take-append-add prefix opened s
    ∙ ap (λ (l : List (List ℕ)). prefix ++ l) is.0 in
    let joined : (prefix ++ take s scopes) ++ new ≡ prefix ++ scopes =
    append_assoc prefix (take s scopes) new ∙ ap (λ (l : List (List ℕ)). prefix ++ l) (take-append-drop s scopes) in
    ap (found (prefix ++ opened)) (before_append (closing_words n) (map scope_words new) more)
    ∙ found_closings (prefix ++ opened) n (before (map scope_words new) more) (omega arith)
    ∙ found_scopes (take (length (prefix ++ opened) - n) (prefix ++ opened)) new more
    ∙ ap (λ (l : List (List ℕ)). found (l ++ new) more) kept
    ∙ ap (λ (l : List (List ℕ)). found l more) joined

-- ---- names
-- what a name of a signal is read as, where these scopes are open
abbrev pub read_as : List (List ℕ) → ℕ × List ℕ → List (List ℕ) × List ℕ
read_as prefix x = (prefix ++ path_of x.1, identifier_code x.0)

found_names : (prefix opened : List (List ℕ)) (type : List ℕ) (names : List (ℕ × List ℕ)) (more : List (List (List ℕ)))
    → found (prefix ++ opened) (before (name_words type opened names) more)
    ≡ map (read_as prefix) names ++ found prefix more
unfolding name_words
found_names prefix opened type [] more =
    let long = length-append prefix opened in
    found_closings (prefix ++ opened) (length opened) more (omega arith)
    ∙ ap (λ (l : List (List ℕ)). found l more)
    (take_at prefix opened (length (prefix ++ opened) - length opened) (omega arith))
found_names prefix opened type (x ∷ names) more =
    let scopes : List (List ℕ) = scopes_of x.1 in
    let rest : List (List (List ℕ)) = name_words type scopes names in
    let path : (prefix ++ scopes) ++ leaf_of x.1 ∷ [] ≡ prefix ++ path_of x.1 =
    append_assoc prefix scopes (leaf_of x.1 ∷ []) ∙ ap (λ (l : List (List ℕ)). prefix ++ l) (path_parts x.1) in
    ap (found (prefix ++ opened))
    (before_append (move_words opened scopes) (signal_words type x.0 (leaf_of x.1) ∷ rest) more)
    ∙ found_moves prefix opened scopes (before (signal_words type x.0 (leaf_of x.1) ∷ rest) more)
    ∙ found_signal (prefix ++ scopes) type x.0 (leaf_of x.1) (before rest more)
    ∙ ap (λ (p : List (List ℕ)). (p, identifier_code x.0) ∷ found (prefix ++ scopes) (before rest more)) path
    ∙ ap (λ (l : List (List (List ℕ) × List ℕ)). read_as prefix x ∷ l) (found_names prefix scopes type names more)

-- ---- sections
abbrev pub section_read : List (Key × List ℕ) → Kind → List ℕ → ℕ → ℕ → List (List (List ℕ) × List ℕ)
section_read symbols kind scope n count = map (read_as (scope ∷ [])) (section_names symbols kind n count)

found_section : (symbols : List (Key × List ℕ)) (kind : Kind) (scope type : List ℕ) (n count : ℕ)
    (more : List (List (List ℕ)))
    → found [] (before (section_words symbols kind scope type n count) more)
    ≡ section_read symbols kind scope n count ++ found [] more
unfolding section_words
found_section symbols kind scope type n zero more =
    ap (λ (l : List (ℕ × List ℕ)). map (read_as (scope ∷ [])) l ++ found [] more) (sym (no_names symbols kind n))
found_section symbols kind scope type n (suc p) more =
    let names : List (ℕ × List ℕ) = section_names symbols kind n (suc p) in
    let ws : List (List (List ℕ)) = name_words type [] names in
    found_scope [] scope (before (ws ++ up_words ∷ []) more)
    ∙ ap (found (scope ∷ [])) (before_append ws (up_words ∷ []) more)
    ∙ found_names (scope ∷ []) [] type names (whole up_words ∷ more)
    ∙ ap (λ (l : List (List (List ℕ) × List ℕ)). map (read_as (scope ∷ [])) names ++ l) (found_up (scope ∷ []) more)

abbrev pub sections_read : List (Key × List ℕ) → SignalCounts → List (List (List ℕ) × List ℕ)
sections_read symbols counts =
    let outputs = counts.inputs + counts.latches in
    let bad = outputs + counts.outputs in
    let constraints = bad + counts.bad in
    section_read symbols Input (codes "inputs") 0 counts.inputs
    ++ (section_read symbols Latch (codes "latches") counts.inputs counts.latches
    ++ (section_read symbols Output (codes "outputs") outputs counts.outputs
    ++ (section_read symbols Bad (codes "bad") bad counts.bad
    ++ section_read symbols Constraint (codes "constraints") constraints counts.constraints)))

-- lines whose names are read, before others
record ReadsNames (wss : List (List (List ℕ))) (names : List (List (List ℕ) × List ℕ)) : Type 0 where
  is : (more : List (List (List ℕ))) → found [] (before wss more) ≡ names ++ found [] more

reads_then : (wss vss : List (List (List ℕ))) (ns ms : List (List (List ℕ) × List ℕ)) → ReadsNames wss ns → ReadsNames vss ms
    → ReadsNames (wss ++ vss) (ns ++ ms)
reads_then wss vss ns ms h k = record {
  is = λ more. ap (found []) (before_append wss vss more) ∙ h.is (before vss more)
      ∙ ap (λ (l : List (List (List ℕ) × List ℕ)). ns ++ l) (k.is more) ∙ sym (append_assoc ns ms (found [] more));
}

reads_section : (symbols : List (Key × List ℕ)) (kind : Kind) (scope type : List ℕ) (n count : ℕ)
    → ReadsNames (section_words symbols kind scope type n count) (section_read symbols kind scope n count)
reads_section symbols kind scope type n count = record { is = found_section symbols kind scope type n count }

reads_sections : (symbols : List (Key × List ℕ)) (counts : SignalCounts)
    → ReadsNames (sections_words symbols counts) (sections_read symbols counts)
unfolding sections_words
reads_sections symbols counts =
    reads_then _ _ _ _ (reads_section symbols Input (codes "inputs") (codes "wire") _ _)
    (reads_then _ _ _ _ (reads_section symbols Latch (codes "latches") (codes "reg") _ _)
    (reads_then _ _ _ _ (reads_section symbols Output (codes "outputs") (codes "wire") _ _)
    (reads_then _ _ _ _ (reads_section symbols Bad (codes "bad") (codes "wire") _ _)
    (reads_section symbols Constraint (codes "constraints") (codes "wire") _ _))))

-- ---- the header
found_other : (more : List (List (List ℕ))) → (found [] (whole version_words ∷ more) ≡ found [] more)
    × (found [] (whole timescale_words ∷ more) ≡ found [] more) × (found [] (whole last_words ∷ more) ≡ found [] more)
unfolding found
found_other more = (refl, refl, refl)

found_end : found [] (([] ∷ []) ∷ []) ≡ []
unfolding found
found_end = refl

pub names_read : (symbols : List (Key × List ℕ)) (counts : SignalCounts)
    → read_names (header symbols counts) ≡ sections_read symbols counts
unfolding header_words
names_read symbols counts =
    let end : List (List (List ℕ)) = ([] ∷ []) ∷ [] in
    let ws : List (List (List ℕ)) = sections_words symbols counts in
    let rest : List (List (List ℕ)) = before (ws ++ last_words ∷ []) end in
    ap (found []) (header_cut symbols counts)
    ∙ (found_other (whole timescale_words ∷ rest)).0
    ∙ (found_other rest).1
    ∙ ap (found []) (before_append ws (last_words ∷ []) end)
    ∙ (reads_sections symbols counts).is (whole last_words ∷ end)
    ∙ ap (λ (l : List (List (List ℕ) × List ℕ)). sections_read symbols counts ++ l) ((found_other end).2 ∙ found_end)
    ∙ append-nil (sections_read symbols counts)

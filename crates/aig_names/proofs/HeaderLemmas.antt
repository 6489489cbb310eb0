-- Sections and their names.
use Rattle.std.proofs.Common.{◌≡◌, ℕ, zero, suc, ◌+◌, ◌<◌, ◌≤◌, List, [], ◌∷◌, ◌++◌, length, map, drop, get_or, refl}
use Rattle.std.proofs.Common.{sym, ap, ◌∙◌, arith, append_assoc, add-one}
use Rattle.std.proofs.lemmas.List.{drop_more, drop_all, map-append}
use Rattle.aig_parts.specs.declared.symbols.Kind.{Kind}
use Rattle.aig_parts.specs.SymbolPlaces.{Key}
use Rattle.aig_names.specs.declared.signals.Entry.{Entry}
use Rattle.aig_names.specs.declared.signals.NamedSignal.{NamedSignal}
use Rattle.aig_names.specs.Header.{name_lines, signal_line, moves, scope_line, closings, section_scope}
use Rattle.aig_names.specs.Names.{names_of}
use Rattle.aig_names.specs.Paths.{path_of, scopes_of, leaf_of}
use Rattle.aig_names.specs.Signals.{entries, section_names}
use Rattle.aig_names.specs.state.Naming.{named, name_text, entry_names}

-- ---- entries
pub no_entries : (symbols : List (Key × List ℕ)) (kind : Kind) (n : ℕ) → [] ≡ entries symbols kind n 0
unfolding entries
no_entries symbols kind n = refl

pub entries_more : (symbols : List (Key × List ℕ)) (kind : Kind) (n p : ℕ) (old new : List Entry) (entry : Entry)
    → new ≡ old ++ entry ∷ [] → entry_names entry ≡ (n + p, names_of symbols kind p)
    → map entry_names old ≡ entries symbols kind n p → map entry_names new ≡ entries symbols kind n (p + 1)
unfolding entries
entries_more symbols kind n p old new entry is names h =
    ap (map entry_names) is ∙ map-append entry_names old (entry ∷ [])
    ∙ ap (λ (x : ℕ × List (List ℕ)). map entry_names old ++ x ∷ []) names
    ∙ ap (λ (xs : List (ℕ × List (List ℕ))). xs ++ (n + p, names_of symbols kind p) ∷ []) h
    ∙ ap (entries symbols kind n) (sym (add-one p))

-- ---- columns
-- ---- lines
pub no_scopes_at_first : scopes_of [] ≡ []
unfolding path_of
no_scopes_at_first = refl

-- the line of one name more, after those that lead to its scopes
pub lines_more : (shape before name leaf : List ℕ) (xs : List NamedSignal) (i : ℕ) (d : NamedSignal) (text mid new all : List ℕ)
    → i < length xs → name ≡ name_text (get_or xs i d).name → mid ≡ text ++ moves (scopes_of before) (scopes_of name)
    → leaf ≡ leaf_of name → new ≡ mid ++ signal_line shape (get_or xs i d).number leaf
    → text ++ name_lines shape (scopes_of before) (map named (drop i xs)) ≡ all
    → new ++ name_lines shape (scopes_of name) (map named (drop (i + 1) xs)) ≡ all
unfolding name_lines
lines_more shape before name leaf xs i d text mid new all lt is way own more h =
    let rest : List (ℕ × List ℕ) = map named (drop (i + 1) xs) in
    let n : ℕ = (get_or xs i d).number in
    let leads : List ℕ = moves (scopes_of before) (scopes_of name) in
    let after : List ℕ = name_lines shape (scopes_of name) rest in
    let line : List ℕ = signal_line shape n (leaf_of name) in
    ap (λ (t : List ℕ). t ++ after) (more ∙ ap (λ (w : List ℕ). mid ++ signal_line shape n w) own)
    ∙ append_assoc mid line after ∙ ap (λ (t : List ℕ). t ++ (line ++ after)) way
    ∙ append_assoc text leads (line ++ after)
    ∙ ap (λ (w : List ℕ). text ++ name_lines shape (scopes_of before) ((n, w) ∷ rest)) is
    ∙ ap (λ (ys : List NamedSignal). text ++ name_lines shape (scopes_of before) (map named ys)) (sym (drop_more xs i d lt)) ∙ h

-- the lines after the last name
pub lines_done : (shape before : List ℕ) (xs : List NamedSignal) (i n : ℕ) (text new all : List ℕ) → length xs ≤ i → n ≡ length (scopes_of before)
    → new ≡ text ++ closings n → text ++ name_lines shape (scopes_of before) (map named (drop i xs)) ≡ all → new ≡ all
unfolding name_lines
lines_done shape before xs i n text new all le is done h =
    done ∙ ap (λ (k : ℕ). text ++ closings k) is
    ∙ ap (λ (ys : List NamedSignal). text ++ name_lines shape (scopes_of before) (map named ys)) (sym (drop_all i xs le)) ∙ h

-- ---- sections
pub section_of : (symbols : List (Key × List ℕ)) (kind : Kind) (scope type : List ℕ) (n count : ℕ) → 0 < count
    → scope_line scope ++ (name_lines type [] (section_names symbols kind n count) ++ closings 1)
    ≡ section_scope symbols kind scope type n count
unfolding section_scope
section_of symbols kind scope type n zero lt = absurd (omega (arith, lt))
section_of symbols kind scope type n (suc p) lt = refl

pub no_section : (symbols : List (Key × List ℕ)) (kind : Kind) (scope type : List ℕ) (n count : ℕ) → count ≡ 0
    → [] ≡ section_scope symbols kind scope type n count
unfolding section_scope
no_section symbols kind scope type n count e = ap (section_scope symbols kind scope type n) (sym e)

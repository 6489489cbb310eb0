-- Symbols that are added name by name.
use Rattle.std.proofs.Common.{◌≡◌, ◌≢◌, ◌⊎◌, inl, inr, ℕ, ◌+◌, ◌<◌, ◌≤◌, zero, suc, List, [], ◌∷◌, ◌++◌, length, All}
use Rattle.std.proofs.Common.{AllPairs, Contains}
use Rattle.std.proofs.Common.{Bool, true, false, refl, sym, ap, subst, ◌∙◌, arith, append_assoc}
use Rattle.std.specs.List.{filter, flat_map}
use Rattle.std.specs.Map.{keys_of}
use Rattle.std.proofs.lemmas.List.{append-nil, length-append, map-append}
use Rattle.std.proofs.lemmas.List.Concat.{flat_map-append}
use Rattle.std.proofs.lemmas.List.Elements.{All-nil, All-cons, All-append, All-filter, Contains-append_cases}
use Rattle.std.proofs.lemmas.List.Elements.{filter-append}
use Rattle.aig_bytes.proofs.Cuts.{no_split}
use Rattle.aig_parts.specs.declared.raw.Raw.{Raw}
use Rattle.aig_parts.specs.declared.symbols.Kind.{Kind}
use Rattle.aig_parts.specs.declared.symbols.Kind.TheVariants as kinds
use Rattle.aig_parts.specs.Formed.{IsFormed, IsName, IsSymbolOf, section_length}
use Rattle.aig_parts.specs.SymbolPlaces.{Key}
use Rattle.aig_base.specs.declared.select.PropertySection.{PropertySection}
use Rattle.aig_base.specs.declared.select.PropertySection.TheVariants as sections
use Rattle.aig_base.specs.Selected.{kind_of, properties_in}
use Rattle.aig_base.proofs.selections.Distinct.{not_before}
use Rattle.aig_signals.specs.Named.{AreLines, is_other, symbol_of, symbols_from}
use Rattle.aig_signals.specs.state.PropertyNaming.{IsFreeFor, RefusesLines, other_symbols}
use Rattle.aig_signals.specs.declared.property.fault.NamesFault.TheVariants as faults
use Rattle.aig_signals.proofs.Lines.{IsLine, ended, Left, lines_left}

-- ---- the symbols of the other sections

only_one : (x e : Key) → Contains (x ∷ []) e → x ≡ e
only_one x e (zero, l, is) = is
only_one x e (suc k, l, is) = absurd (omega (arith, l))

-- an entry that kept its symbol had it
kept_key : (p : Key × List ℕ → Bool) (xs : List (Key × List ℕ)) (e : Key) → Contains (keys_of (filter p xs)) e → Contains (keys_of xs) e
kept_key p [] e (k, l, is) = absurd (omega arith)
kept_key p (x ∷ xs) e c = go (λ h. kept_key p xs e h) (p x) refl
  where
    later : Contains (keys_of xs) e → Contains (keys_of (x ∷ xs)) e
    later (k, l, is) = (suc k, omega (arith, l), is)

    go : (Contains (keys_of (filter p xs)) e → Contains (keys_of xs) e) → (b : Bool) → p x ≡ b → Contains (keys_of (x ∷ xs)) e
    go kept false is = later (kept (let h : Contains (keys_of (filter p xs)) e = rw is at c in h))
    go kept true is = elim (Contains-append_cases (x.0 ∷ []) (keys_of (filter p xs)) e
        (let h : Contains (x.0 ∷ keys_of (filter p xs)) e = rw is at c in h)) [
          | inl here ↦ (0, omega arith, only_one x.0 e here)
          | inr there ↦ later (kept there)
        ]

-- the symbols in front are kept or not, and the others are to come
pub record Keeping (section : PropertySection) (all list rest : List (Key × List ℕ)) : Type 0 where
  pub front : List (Key × List ℕ)
  pub split : all ≡ front ++ rest
  pub listed : list ≡ other_symbols section front

module _ (section : PropertySection) (all : List (Key × List ℕ)) where
  pub keep_fresh : (list rest rest' : List (Key × List ℕ)) (s : Key × List ℕ) → rest ≡ s ∷ rest'
      → AllPairs (λ x y. x ≢ y) (keys_of all) → Keeping section all list rest → Contains (keys_of list) s.0 → ⊥
  keep_fresh list rest rest' s next distinct w c =
      let split : keys_of all ≡ keys_of w.front ++ s.0 ∷ keys_of rest' =
      ap (λ (es : List (Key × List ℕ)). keys_of es) (w.split ∙ ap (λ (es : List (Key × List ℕ)). w.front ++ es) next)
      ∙ map-append (λ (t : Key × List ℕ). t.0) w.front (s ∷ rest') in
      not_before (keys_of w.front) (keys_of rest') s.0 (subst (λ (ks : List Key). AllPairs (λ x y. x ≢ y) ks) split distinct)
      (kept_key (λ s. is_other section s.0.0) w.front s.0
      (subst (λ (es : List (Key × List ℕ)). Contains (keys_of es) s.0) w.listed c))

  -- a symbol of another section is kept
  pub keep_more : (list list' rest rest' : List (Key × List ℕ)) (s : Key × List ℕ) → rest ≡ s ∷ rest'
      → is_other section s.0.0 ≡ true → list' ≡ list ++ s ∷ [] → Keeping section all list rest → Keeping section all list' rest'
  keep_more list list' rest rest' s next other added w = record {
    front = w.front ++ s ∷ [];
    split = w.split ∙ ap (λ (es : List (Key × List ℕ)). w.front ++ es) next ∙ sym (append_assoc w.front (s ∷ []) rest');
    listed = added ∙ ap (λ (es : List (Key × List ℕ)). es ++ s ∷ []) w.listed
        ∙ sym (filter-append (λ (s : Key × List ℕ). is_other section s.0.0) w.front (s ∷ [])
        ∙ ap (λ (es : List (Key × List ℕ)). other_symbols section w.front ++ es)
        (let one : other_symbols section (s ∷ []) ≡ s ∷ [] = rw other refl in one));
  }

  -- one of this section is not
  pub keep_none : (list rest rest' : List (Key × List ℕ)) (s : Key × List ℕ) → rest ≡ s ∷ rest'
      → is_other section s.0.0 ≡ false → Keeping section all list rest → Keeping section all list rest'
  keep_none list rest rest' s next other w = record {
    front = w.front ++ s ∷ [];
    split = w.split ∙ ap (λ (es : List (Key × List ℕ)). w.front ++ es) next ∙ sym (append_assoc w.front (s ∷ []) rest');
    listed = w.listed ∙ sym (append-nil (other_symbols section w.front))
        ∙ sym (filter-append (λ (s : Key × List ℕ). is_other section s.0.0) w.front (s ∷ [])
        ∙ ap (λ (es : List (Key × List ℕ)). other_symbols section w.front ++ es)
        (let one : other_symbols section (s ∷ []) ≡ [] = rw other refl in one));
  }

-- no entry of the section has a symbol among those of the others
pub not_other : (section : PropertySection) → is_other section (kind_of section) ≡ false
not_other sections.Bad = refl
not_other sections.Outputs = refl

pub others_free : (section : PropertySection) (all : List (Key × List ℕ)) → IsFreeFor (kind_of section) (other_symbols section all)
others_free section [] p (k, l, is) = absurd (omega arith)
others_free section (s ∷ all) p c = go (λ h. others_free section all p h) (is_other section s.0.0) refl
  where
    go : (Contains (keys_of (other_symbols section all)) (kind_of section, p) → ⊥) → (b : Bool) → is_other section s.0.0 ≡ b → ⊥
    go free false is = free (let h : Contains (keys_of (other_symbols section all)) (kind_of section, p) = rw is at c in h)
    go free true is = elim (Contains-append_cases (s.0 ∷ []) (keys_of (other_symbols section all)) (kind_of section, p)
        (let h : Contains (s.0 ∷ keys_of (other_symbols section all)) (kind_of section, p) = rw is at c in h)) [
          | inl here ↦
              let key = only_one s.0 (kind_of section, p) here in
              let no : true ≡ false = sym is ∙ ap (λ (e : Key). is_other section e.0) key ∙ not_other section in cc
          | inr there ↦ free there
        ]

-- ---- the names of a section

-- the first lines are read, and their names are added
pub record Naming (kind : Kind) (text : List ℕ) (old list : List (Key × List ℕ)) (rest : List ℕ) (n : ℕ) : Type 0 where
  pub names : List (List ℕ)
  pub split : text ≡ flat_map ended names ++ rest
  pub lines : All IsLine names
  pub count : length names ≡ n
  pub listed : list ≡ old ++ symbols_from kind 0 names

symbols_more : (kind : Kind) (p : ℕ) (names : List (List ℕ)) (name : List ℕ)
    → symbols_from kind p (names ++ name ∷ []) ≡ symbols_from kind p names ++ symbol_of kind (p + length names) name
unfolding symbols_from
symbols_more kind p [] name =
    append-nil (symbol_of kind p name) ∙ ap (λ (q : ℕ). symbol_of kind q name) (let h : p ≡ p + 0 = omega arith in h)
symbols_more kind p (n ∷ names) name =
    ap (λ (es : List (Key × List ℕ)). symbol_of kind p n ++ es)
    (symbols_more kind (p + 1) names name
    ∙ ap (λ (q : ℕ). symbols_from kind (p + 1) names ++ symbol_of kind q name)
    (let h : p + 1 + length names ≡ p + suc (length names) = omega arith in h))
    ∙ sym (append_assoc (symbol_of kind p n) (symbols_from kind (p + 1) names) (symbol_of kind (p + suc (length names)) name))

-- the entries that names were given to are before the next
key_below : (kind : Kind) (p : ℕ) (name : List ℕ) (q : ℕ) → Contains (keys_of (symbol_of kind p name)) (kind, q) → q ≡ p
key_below kind p [] q (k, l, is) = absurd (omega arith)
key_below kind p (b ∷ bs) q c = sym (ap (λ (e : Key). e.1) (only_one (kind, p) (kind, q) c))

keys_below : (kind : Kind) (p : ℕ) (names : List (List ℕ)) (q : ℕ) → Contains (keys_of (symbols_from kind p names)) (kind, q)
    → q < p + length names
unfolding symbols_from
keys_below kind p [] q (k, l, is) = absurd (omega arith)
keys_below kind p (n ∷ names) q c =
    elim (Contains-append_cases (keys_of (symbol_of kind p n)) (keys_of (symbols_from kind (p + 1) names)) (kind, q)
    (subst (λ (ks : List Key). Contains ks (kind, q))
    (map-append (λ (t : Key × List ℕ). t.0) (symbol_of kind p n) (symbols_from kind (p + 1) names)) c)) [
      | inl here ↦ omega (arith, key_below kind p n q here)
      | inr there ↦ omega (arith, keys_below kind (p + 1) names q there)
    ]

module _ (kind : Kind) (text : List ℕ) (old : List (Key × List ℕ)) where
  pub name_start : Naming kind text old old text 0
  unfolding symbols_from
  name_start = record { names = []; split = refl; lines = All-nil IsLine; count = refl; listed = sym (append-nil old) }

  pub name_fresh : (list : List (Key × List ℕ)) (rest : List ℕ) (n : ℕ) → IsFreeFor kind old → Naming kind text old list rest n
      → Contains (keys_of list) (kind, n) → ⊥
  name_fresh list rest n free w c =
      let keys : keys_of list ≡ keys_of old ++ keys_of (symbols_from kind 0 w.names) =
      ap (λ (es : List (Key × List ℕ)). keys_of es) w.listed
      ∙ map-append (λ (t : Key × List ℕ). t.0) old (symbols_from kind 0 w.names) in
      elim (Contains-append_cases (keys_of old) (keys_of (symbols_from kind 0 w.names)) (kind, n)
      (subst (λ (ks : List Key). Contains ks (kind, n)) keys c)) [
        | inl here ↦ free n here
        | inr there ↦ absurd (omega (arith, w.count, keys_below kind 0 w.names n there))
      ]

  pub name_more : (list list' : List (Key × List ℕ)) (line rest rest' : List ℕ) (n : ℕ) → rest ≡ line ++ 10 ∷ rest' → IsLine line
      → list' ≡ list ++ symbol_of kind n line → Naming kind text old list rest n → Naming kind text old list' rest' (n + 1)
  name_more list list' line rest rest' n next is_line added w = record {
    names = w.names ++ line ∷ [];
    split = w.split ∙ ap (λ (t : List ℕ). flat_map ended w.names ++ t) (next ∙ sym (append_assoc line (10 ∷ []) rest'))
        ∙ sym (append_assoc (flat_map ended w.names) (ended line) rest')
        ∙ ap (λ (t : List ℕ). t ++ rest')
        (ap (λ (t : List ℕ). flat_map ended w.names ++ t) (sym (append-nil (ended line)))
        ∙ sym (flat_map-append ended w.names (line ∷ [])));
    lines = All-append IsLine w.names (line ∷ []) w.lines (All-cons IsLine line [] is_line (All-nil IsLine));
    count = omega (arith, length-append w.names (line ∷ []), w.count);
    listed = added ∙ ap (λ (es : List (Key × List ℕ)). es ++ symbol_of kind n line) w.listed
        ∙ append_assoc old (symbols_from kind 0 w.names) (symbol_of kind n line)
        ∙ ap (λ (es : List (Key × List ℕ)). old ++ es)
        (ap (λ (q : ℕ). symbols_from kind 0 w.names ++ symbol_of kind q line)
        (let h : n ≡ 0 + length w.names = omega (arith, w.count) in h)
        ∙ sym (symbols_more kind 0 w.names line));
  }

  -- the lines of the text that are left
  left : (list : List (Key × List ℕ)) (rest : List ℕ) (n all : ℕ) → n ≤ all → (w : Naming kind text old list rest n)
      → (names : List (List ℕ)) → AreLines text names → length names ≡ all → Left w.names names rest
  left list rest n all le w names are count =
      lines_left w.names names rest w.lines are.ended (sym w.split ∙ are.spelled) (omega (arith, le, w.count, count))

  -- a line is missing, or has no LF
  pub name_short : (list : List (Key × List ℕ)) (rest : List ℕ) (n all : ℕ) → n < all → IsLine rest
      → Naming kind text old list rest n → RefusesLines all text faults.Lines
  name_short list rest n all lt is_line w names are count =
      let l = left list rest n all (omega (arith, lt)) w names are count in
      go l.lines l.spelled l.count
    where
      go : (lines : List (List ℕ)) → rest ≡ flat_map ended lines → length w.names + length lines ≡ length names → ⊥
      go [] e c = absurd (omega (arith, c, w.count, count, lt))
      go (line ∷ lines) e c = no_split 10 line rest (flat_map ended lines) is_line
          (sym (e ∙ append_assoc line (10 ∷ []) (flat_map ended lines)))

  -- there is more than the lines
  pub name_long : (list : List (Key × List ℕ)) (rest : List ℕ) (n all : ℕ) → n ≡ all → 0 < length rest
      → Naming kind text old list rest n → RefusesLines all text faults.Lines
  name_long list rest n all is more w names are count =
      let l = left list rest n all (omega (arith, is)) w names are count in
      go l.lines l.spelled l.count
    where
      go : (lines : List (List ℕ)) → rest ≡ flat_map ended lines → length w.names + length lines ≡ length names → ⊥
      go [] e c = absurd (omega (arith, more, ap (λ (t : List ℕ). length t) e))
      go (line ∷ lines) e c = absurd (omega (arith, c, w.count, count, is))

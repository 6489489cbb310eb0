-- Tables of texts, while more is found of each text.
use Rattle.std.proofs.Common.{◌≡◌, inl, inr, ℕ, ◌+◌, ◌<◌, ◌≤◌, Bool, true, false, List, [], ◌∷◌, length}
use Rattle.std.proofs.Common.{get_or, drop, Option, None, Some, IfSome, refl, sym, ap, subst, ◌∙◌, add-one}
use Rattle.std.specs.Prelude.{if◌then◌else◌, option_map}
use Rattle.std.specs.Str.{bytes_eq}
use Rattle.std.proofs.lemmas.Bool.{cases_Bool, true≢false}
use Rattle.std.proofs.lemmas.List.{drop_more, drop_all}
use Rattle.std.proofs.lemmas.Slice.Eq.{bytes_eq-Decides}
use Rattle.aig_parts.specs.declared.raw.Raw.{Raw}
use Rattle.aig_parts.specs.declared.symbols.Kind.{Kind}
use Rattle.aig_names.specs.Names.{words}
use Rattle.aig_signals.specs.declared.lookup.Rule.{Rule}
use Rattle.aig_signals.specs.declared.signal.Signal.{Signal}
use Rattle.aig_signals.specs.Lookup.{alone, entry_literal, has_name, in_section, in_sections, least, named_in, or_else}
use Rattle.aig_signals.specs.Lookup.{signal_literals}
use Rattle.aig_signals.specs.Names.{literal_of, literals_of, readable}
use Rattle.aig_signals.specs.state.Called.{if_named, or_found, wants}
use Rattle.aig_signals.proofs.Lookups.{section_step}
use Rattle.aig_signals.proofs.NameLemmas.{any_is, any_here, any_later, any_none}

same_bytes : (xs ys : List ℕ) → bytes_eq xs ys ≡ true → xs ≡ ys
same_bytes xs ys h = (bytes_eq-Decides xs ys).0 h

pub bytes_turned : (xs ys : List ℕ) → bytes_eq xs ys ≡ bytes_eq ys xs
bytes_turned xs ys = elim (cases_Bool (bytes_eq ys xs)) [
  | inl holds ↦ (bytes_eq-Decides xs ys).1 (sym (same_bytes ys xs holds)) ∙ sym holds
  | inr fails ↦ elim (cases_Bool (bytes_eq xs ys)) [
    | inl other ↦ absurd (true≢false (sym ((bytes_eq-Decides ys xs).1 (sym (same_bytes xs ys other))) ∙ fails))
    | inr other ↦ other ∙ sym fails
  ]
]

or_none : {X : Type 0} (o : Option X) → or_else o None ≡ o
or_none None = refl
or_none (Some x) = refl

pub or_assoc : {X : Type 0} (a b c : Option X) → or_else (or_else a b) c ≡ or_else a (or_else b c)
or_assoc None b c = refl
or_assoc (Some x) b c = refl

or_map : {X Y : Type 0} (f : X → Y) (a b : Option X) → option_map f (or_else a b) ≡ or_else (option_map f a) (option_map f b)
or_map f None b = refl
or_map f (Some x) b = refl

found_none : (o : Option (Option (List ℕ))) → or_found None o ≡ o
found_none None = refl
found_none (Some was) = ap Some (or_none was)

found_both : (a b : Option (List ℕ)) (o : Option (Option (List ℕ))) → or_found b (or_found a o) ≡ or_found (or_else a b) o
found_both a b None = refl
found_both a b (Some was) = ap Some (or_assoc was a b)

-- one step, where some are left after it
pub found_step : (now rest more all : Option (List ℕ)) (old new first : Option (Option (List ℕ))) → rest ≡ or_else now more
    → new ≡ or_found now old → or_found rest old ≡ or_found all first → or_found more new ≡ or_found all first
found_step now rest more all old new first split is h =
    ap (or_found more) is ∙ found_both now more old ∙ ap (λ (m : Option (List ℕ)). or_found m old) (sym split) ∙ h

-- none is left
pub found_end : (rest all : Option (List ℕ)) (old first : Option (Option (List ℕ))) → rest ≡ None
    → or_found rest old ≡ or_found all first → old ≡ or_found all first
found_end rest all old first none h =
    sym (found_none old) ∙ ap (λ (m : Option (List ℕ)). or_found m old) (sym none) ∙ h

-- one more, after some
pub found_more : (was now all : Option (List ℕ)) (first old new : Option (Option (List ℕ))) → all ≡ or_else was now
    → new ≡ or_found now old → old ≡ or_found was first → new ≡ or_found all first
found_more was now all first old new joined is h =
    is ∙ ap (or_found now) h ∙ found_both was now first ∙ ap (λ (m : Option (List ℕ)). or_found m first) (sym joined)

-- nothing more
pub found_nothing : (now : Option (List ℕ)) (o : Option (Option (List ℕ))) → now ≡ None → o ≡ or_found now o
found_nothing now o none = sym (ap (λ (m : Option (List ℕ)). or_found m o) none ∙ found_none o)

kept : (o : Option (Option (List ℕ))) (found : Option (List ℕ)) → wants o ≡ false → o ≡ or_found found o
kept None found h = refl
kept (Some None) found h = absurd (cc h)
kept (Some (Some literals)) found h = refl

wanted : (o : Option (Option (List ℕ))) → wants o ≡ true → o ≡ Some None
wanted None h = absurd (cc h)
wanted (Some None) h = refl
wanted (Some (Some literals)) h = absurd (cc h)

module _ (table : List ℕ → Option (Option (List ℕ))) (name x : List ℕ) (found : Option (List ℕ)) where
  -- a name that is not wanted, or of which something was found
  pub not_wanted : wants (table name) ≡ false → table x ≡ or_found (if bytes_eq name x then found else None) (table x)
  not_wanted h = elim (cases_Bool (bytes_eq name x)) [
    | inl holds ↦
        kept (table x) found (ap (λ (y : List ℕ). wants (table y)) (sym (same_bytes name x holds)) ∙ h)
        ∙ ap (λ (b : Bool). or_found (if b then found else None) (table x)) (sym holds)
    | inr fails ↦
        sym (found_none (table x)) ∙ ap (λ (b : Bool). or_found (if b then found else None) (table x)) (sym fails)
  ]

  -- a name that is wanted
  pub put_wanted : (new : Option (Option (List ℕ))) → wants (table name) ≡ true
      → new ≡ (if bytes_eq x name then Some found else table x)
      → new ≡ or_found (if bytes_eq name x then found else None) (table x)
  put_wanted new h put = elim (cases_Bool (bytes_eq name x)) [
    | inl holds ↦
        let none : table x ≡ Some None =
        wanted (table x) (ap (λ (y : List ℕ). wants (table y)) (sym (same_bytes name x holds)) ∙ h) in
        put ∙ ap (λ (b : Bool). if b then Some found else table x) (bytes_turned x name ∙ holds)
        ∙ ap (or_found found) (sym none)
        ∙ ap (λ (b : Bool). or_found (if b then found else None) (table x)) (sym holds)
    | inr fails ↦
        put ∙ ap (λ (b : Bool). if b then Some found else table x) (bytes_turned x name ∙ fails)
        ∙ sym (found_none (table x)) ∙ ap (λ (b : Bool). or_found (if b then found else None) (table x)) (sym fails)
  ]

-- a text that is put into a table
pub put_empty : {V : Type 0} (b : Bool) (v : V) (old new : Option V) → new ≡ (if b then Some v else old)
    → IfSome old (λ f. f ≡ v) → IfSome new (λ f. f ≡ v)
put_empty true v old new put h = subst (λ o. IfSome o (λ f. f ≡ v)) (sym put) refl
put_empty false v old new put h = subst (λ o. IfSome o (λ f. f ≡ v)) (sym put) h

-- what a table has
pub there : {V : Type 0} (P : V → Type 0) (o : Option V) (v : V) → o ≡ Some v → IfSome o P → P v
there P o v is = subst (λ p. IfSome p P) is

-- all that was found of a text, where something was found before
pub found_next : (was found : Option (List ℕ)) (old new : Option (Option (List ℕ))) → IfSome old (λ f. f ≡ was)
    → new ≡ or_found found old → IfSome new (λ f. f ≡ or_else was found)
found_next was found None new h is = subst (λ (o : Option (Option (List ℕ))). IfSome o (λ f. f ≡ or_else was found)) (sym is) tt
found_next was found (Some f) new h is =
    subst (λ (o : Option (Option (List ℕ))). IfSome o (λ g. g ≡ or_else was found)) (sym is)
    (ap (λ (g : Option (List ℕ)). or_else g found) h)

-- one word more
pub words_split : (x : List ℕ) (literal : ℕ) (text word rest shown : List ℕ) → words text ≡ word ∷ words rest
    → shown ≡ readable word
    → if_named (any_is x (words text)) literal
    ≡ or_else (if_named (bytes_eq shown x) literal) (if_named (any_is x (words rest)) literal)
words_split x literal text word rest shown split is = elim (cases_Bool (bytes_eq (readable word) x)) [
  | inl holds ↦
      ap (λ (b : Bool). if_named b literal) (any_here x text word rest split holds)
      ∙ ap (λ (b : Bool). or_else (if_named b literal) (if_named (any_is x (words rest)) literal))
      (sym (ap (λ (w : List ℕ). bytes_eq w x) is ∙ holds))
  | inr fails ↦
      ap (λ (b : Bool). if_named b literal) (any_later x text word rest split fails)
      ∙ ap (λ (b : Bool). or_else (if_named b literal) (if_named (any_is x (words rest)) literal))
      (sym (ap (λ (w : List ℕ). bytes_eq w x) is ∙ fails))
]

pub words_end : (x : List ℕ) (literal : ℕ) (text : List ℕ) → words text ≡ [] → if_named (any_is x (words text)) literal ≡ None
words_end x literal text h = ap (λ (b : Bool). if_named b literal) (any_none x text h)

-- entries of a section, one by one
module _ (test : ℕ → Bool) (literal : ℕ → ℕ) where
  abbrev pub literal_below : ℕ → Option (List ℕ)
  literal_below n = option_map alone (option_map literal (least test n))

  pub below_none : literal_below 0 ≡ None
  unfolding least
  below_none = refl

  one_named : (b : Bool) (n : ℕ) → option_map alone (option_map literal (if b then Some n else None)) ≡ if_named b (literal n)
  one_named true n = refl
  one_named false n = refl

  pub below_more : (n : ℕ) → literal_below (n + 1) ≡ or_else (literal_below n) (if_named (test n) (literal n))
  unfolding least
  below_more n =
      ap literal_below (add-one n)
      ∙ ap (option_map alone) (or_map literal (least test n) (if test n then Some n else None))
      ∙ or_map alone (option_map literal (least test n)) (option_map literal (if test n then Some n else None))
      ∙ ap (or_else (literal_below n)) (one_named (test n) n)

-- sections, one by one
module _ (raw : Raw) (x : List ℕ) (rule : Rule) where
  abbrev pub literal_among : List Kind → Option (List ℕ)
  literal_among kinds = option_map alone (option_map (entry_literal raw) (in_sections raw x rule kinds))

  abbrev pub literal_within : Kind → Option (List ℕ)
  literal_within kind =
      option_map alone (option_map (literal_of raw kind) (least (has_name raw x rule kind) (length (literals_of raw kind))))

  at_place : (kind : Kind) (o : Option ℕ)
      → option_map alone (option_map (entry_literal raw) (option_map (λ p. (kind, p)) o)) ≡ option_map alone (option_map (literal_of raw kind) o)
  at_place kind None = refl
  at_place kind (Some p) = refl

  pub sections_split : (kinds : List Kind) (i : ℕ) (d : Kind) → i < length kinds
      → literal_among (drop i kinds) ≡ or_else (literal_within (get_or kinds i d)) (literal_among (drop (i + 1) kinds))
  sections_split kinds i d lt =
      let kind : Kind = get_or kinds i d in
      let more = in_sections raw x rule (drop (i + 1) kinds) in
      ap (λ o. option_map alone (option_map (entry_literal raw) o)) (section_step raw x rule kinds i d lt)
      ∙ ap (option_map alone) (or_map (entry_literal raw) (in_section raw x rule kind) more)
      ∙ or_map alone (option_map (entry_literal raw) (in_section raw x rule kind)) (option_map (entry_literal raw) more)
      ∙ ap (λ (o : Option (List ℕ)). or_else o (literal_among (drop (i + 1) kinds)))
      (at_place kind (least (has_name raw x rule kind) (length (literals_of raw kind))))

  pub sections_end : (kinds : List Kind) (i : ℕ) → length kinds ≤ i → literal_among (drop i kinds) ≡ None
  sections_end kinds i le = ap literal_among (drop_all i kinds le)

-- signals, one by one
module _ (raw : Raw) (x : List ℕ) where
  abbrev pub literals_named : List Signal → Option (List ℕ)
  literals_named signals = option_map (signal_literals raw) (named_in signals x)

  abbrev pub literals_of_one : Signal → Option (List ℕ)
  literals_of_one s = if bytes_eq s.name x then Some (signal_literals raw s) else None

  first_signal : (b : Bool) (s : Signal) (o : Option Signal)
      → option_map (signal_literals raw) (if b then Some s else o)
      ≡ or_else (if b then Some (signal_literals raw s) else None) (option_map (signal_literals raw) o)
  first_signal true s o = refl
  first_signal false s o = refl

  pub signals_split : (signals : List Signal) (i : ℕ) (s : Signal) → i < length signals → s ≡ get_or signals i s
      → literals_named (drop i signals) ≡ or_else (literals_of_one s) (literals_named (drop (i + 1) signals))
  signals_split signals i s lt is =
      ap literals_named (drop_more signals i s lt)
      ∙ ap (λ (t : Signal). literals_named (t ∷ drop (i + 1) signals)) (sym is)
      ∙ first_signal (bytes_eq s.name x) s (named_in (drop (i + 1) signals) x)

  pub signals_end : (signals : List Signal) (i : ℕ) → length signals ≤ i → literals_named (drop i signals) ≡ None
  signals_end signals i le = ap literals_named (drop_all i signals le)

-- Names that are looked up in a table while the symbols are looked at.
use Rattle.std.proofs.Common.{◌≡◌, ◌≢◌, inl, inr, ℕ, Bool, true, false, List, [], ◌∷◌, AllPairs, Option, None, Some}
use Rattle.std.proofs.Common.{IfSome, refl, sym, ap, subst, ◌∙◌, arith}
use Rattle.std.specs.Prelude.{if◌then◌else◌}
use Rattle.std.specs.Map.{keys_of}
use Rattle.std.specs.Str.{bytes_eq}
use Rattle.std.proofs.lemmas.Bool.{cases_Bool, true≢false}
use Rattle.std.proofs.lemmas.Slice.Eq.{bytes_eq-Decides}
use Rattle.aig_parts.specs.declared.raw.Raw.{Raw}
use Rattle.aig_parts.specs.declared.symbols.Kind.{Kind}
use Rattle.aig_parts.specs.SymbolPlaces.{Key}
use Rattle.aig_base.specs.Selected.{kind_of}
use Rattle.aig_base.specs.declared.select.PropertySection.{PropertySection}
use Rattle.aig_base.specs.declared.select.PropertySection.TheVariants as sections
use Rattle.aig_parts.specs.declared.symbols.Kind.TheVariants as kinds
use Rattle.aig_signals.specs.Named.{is_other}
use Rattle.aig_signals.specs.declared.property.lookup.Found.{Found}
use Rattle.aig_signals.specs.declared.property.lookup.Found.TheVariants as found
use Rattle.aig_signals.specs.state.Found.{Adds}
use Rattle.aig_signals.specs.state.Wanted.{IsFound, LooksAt}
use Rattle.aig_signals.proofs.PropertyLookups.{AreFound, Looking, look_past, look_found, look_end}

same_bytes : (xs ys : List ℕ) → bytes_eq xs ys ≡ true → xs ≡ ys
same_bytes xs ys h = (bytes_eq-Decides xs ys).0 h

other_bytes : (xs ys : List ℕ) → bytes_eq xs ys ≡ false → ys ≡ xs → ⊥
other_bytes xs ys h e = true≢false (sym ((bytes_eq-Decides xs ys).1 (sym e)) ∙ h)

-- whether an entry is of the section
pub other_kind : (section : PropertySection) (kind : Kind) → is_other section kind ≡ true → kind ≡ kind_of section → ⊥
other_kind sections.Bad kind other is = absurd (true≢false (sym other ∙ ap (is_other sections.Bad) is))
other_kind sections.Outputs kind other is = absurd (true≢false (sym other ∙ ap (is_other sections.Outputs) is))

pub own_kind : (section : PropertySection) (kind : Kind) → is_other section kind ≡ false → kind ≡ kind_of section
own_kind sections.Bad kinds.Input own = absurd (cc own)
own_kind sections.Bad kinds.Latch own = absurd (cc own)
own_kind sections.Bad kinds.Output own = absurd (cc own)
own_kind sections.Bad kinds.Bad own = refl
own_kind sections.Bad kinds.Constraint own = absurd (cc own)
own_kind sections.Bad kinds.Justice own = absurd (cc own)
own_kind sections.Bad kinds.Fairness own = absurd (cc own)
own_kind sections.Outputs kinds.Input own = absurd (cc own)
own_kind sections.Outputs kinds.Latch own = absurd (cc own)
own_kind sections.Outputs kinds.Output own = refl
own_kind sections.Outputs kinds.Bad own = absurd (cc own)
own_kind sections.Outputs kinds.Constraint own = absurd (cc own)
own_kind sections.Outputs kinds.Justice own = absurd (cc own)
own_kind sections.Outputs kinds.Fairness own = absurd (cc own)

-- a text that is put into a table of which nothing was found
pub put_nothing : (b : Bool) (old new : Option Found) → new ≡ (if b then Some found.Nothing else old)
    → IfSome old (λ f. f ≡ found.Nothing) → IfSome new (λ f. f ≡ found.Nothing)
put_nothing true old new put h = subst (λ (o : Option Found). IfSome o (λ f. f ≡ found.Nothing)) (sym put) refl
put_nothing false old new put h = subst (λ (o : Option Found). IfSome o (λ f. f ≡ found.Nothing)) (sym put) h

-- what the table has
pub there : (P : Found → Type 0) (o : Option Found) (f : Found) → o ≡ Some f → IfSome o P → P f
there P o f is = subst (λ (p : Option Found). IfSome p P) is

-- an entry of another section
pub look_other : (wanted kind : Kind) (position : ℕ) (name x : List ℕ) (old : Option Found) → (kind ≡ wanted → ⊥)
    → LooksAt wanted kind position name x old old
look_other wanted kind position name x None none = tt
look_other wanted kind position name x (Some f) none = inr (λ is _. none is, refl)

kept : (wanted kind : Kind) (position : ℕ) (name x : List ℕ) (old : Option Found) → bytes_eq x name ≡ false
    → LooksAt wanted kind position name x old old
kept wanted kind position name x None fails = tt
kept wanted kind position name x (Some f) fails = inr (λ _ e. other_bytes x name fails e, refl)

-- a name that nobody wants
pub look_unwanted : (wanted kind : Kind) (position : ℕ) (name x : List ℕ) (table : List ℕ → Option Found) → table name ≡ None
    → LooksAt wanted kind position name x (table x) (table x)
look_unwanted wanted kind position name x table none = elim (cases_Bool (bytes_eq x name)) [
  | inl holds ↦
      let gone : table x ≡ None = ap table (same_bytes x name holds) ∙ none in
      subst (λ (o : Option Found). LooksAt wanted kind position name x o o) (sym gone) tt
  | inr fails ↦ kept wanted kind position name x (table x) fails
]

-- a name that is wanted
pub look_wanted : (wanted kind : Kind) (position : ℕ) (name x : List ℕ) (table : List ℕ → Option Found) (new : Option Found)
    (was now : Found) → kind ≡ wanted → table name ≡ Some was → Adds was position now
    → new ≡ (if bytes_eq x name then Some now else table x) → LooksAt wanted kind position name x (table x) new
look_wanted wanted kind position name x table new was now is known adds put = elim (cases_Bool (bytes_eq x name)) [
  | inl holds ↦
      let same : x ≡ name = same_bytes x name holds in
      let there : new ≡ Some now = put ∙ ap (λ (b : Bool). if b then Some now else table x) holds in
      subst (λ (o : Option Found). LooksAt wanted kind position name x (table x) o) (sym there)
      (inl (is, sym same, (was, ap table same ∙ known, adds)))
  | inr fails ↦
      let there : new ≡ table x = put ∙ ap (λ (b : Bool). if b then Some now else table x) fails in
      subst (λ (o : Option Found). LooksAt wanted kind position name x (table x) o) (sym there)
      (kept wanted kind position name x (table x) fails)
]

module _ (kind : Kind) (x : List ℕ) (all : List (Key × List ℕ)) where
  -- before the first symbol
  pub look_begin : (rest : List (Key × List ℕ)) (old : Option Found) → rest ≡ all → IfSome old (λ f. f ≡ found.Nothing)
      → IfSome old (λ f. Looking kind x all f rest)
  look_begin rest None none h = tt
  look_begin rest (Some f) none h = record {
    front = [];
    split = sym none;
    is = subst (λ (g : Found). AreFound kind x [] g) (sym h) (λ p has. omega (arith, has.1));
  }

  -- one symbol more
  pub look_step : (rest rest' : List (Key × List ℕ)) (s : Key × List ℕ) (old new : Option Found) → rest ≡ s ∷ rest'
      → AllPairs (λ x y. x ≢ y) (keys_of all) → LooksAt kind s.0.0 s.0.1 s.1 x old new
      → IfSome old (λ f. Looking kind x all f rest) → IfSome new (λ f. Looking kind x all f rest')
  look_step rest rest' s old None next distinct looks h = tt
  look_step rest rest' s old (Some now) next distinct looks h = elim looks [
    | inl (is_kind, is_name, (was, e, adds)) ↦
        look_found kind x all rest rest' s was now next is_kind is_name distinct adds
        (subst (λ (o : Option Found). IfSome o (λ f. Looking kind x all f rest)) e h)
    | inr (other, e) ↦
        look_past kind x all rest rest' s now next other
        (subst (λ (o : Option Found). IfSome o (λ f. Looking kind x all f rest)) e h)
  ]

-- all symbols were looked at
found_is : (raw : Raw) (section : PropertySection) (name : List ℕ) (f : Found) → AreFound (kind_of section) name raw.symbols f
    → IsFound raw section name f
found_is raw section name found.Nothing h = h
found_is raw section name (found.One p) h = h
found_is raw section name (found.Two p q) h = h

pub all_looked : (section : PropertySection) (x : List ℕ) (raw : Raw) (rest : List (Key × List ℕ)) (now : Option Found) → rest ≡ []
    → IfSome now (λ f. Looking (kind_of section) x raw.symbols f rest) → IfSome now (IsFound raw section x)
all_looked section x raw rest None none h = tt
all_looked section x raw rest (Some f) none h =
    found_is raw section x f (look_end (kind_of section) x raw.symbols f rest none h)

-- Other names keep parts formed.
use Rattle.std.proofs.Common.{◌≡◌, ◌≢◌, ℕ, ◌+◌, ◌≤◌, suc, List, [], ◌∷◌, ◌++◌, length, All, AllPairs, refl, sym, ap}
use Rattle.std.proofs.Common.{subst, ◌∙◌, arith}
use Rattle.std.specs.List.{filter}
use Rattle.std.specs.Map.{keys_of}
use Rattle.std.proofs.lemmas.List.Elements.{All-nil, All-cons, All-head, All-tail, All-append, All-filter}
use Rattle.aig_parts.specs.declared.raw.Raw.{Raw}
use Rattle.aig_parts.specs.declared.symbols.Kind.{Kind}
use Rattle.aig_parts.specs.declared.symbols.Kind.TheVariants as kinds
use Rattle.aig_parts.specs.Formed.{IsFormed, IsSymbolOf, section_length}
use Rattle.aig_parts.specs.SymbolPlaces.{Key}
use Rattle.aig_base.specs.declared.select.PropertySection.{PropertySection}
use Rattle.aig_base.specs.declared.select.PropertySection.TheVariants as sections
use Rattle.aig_base.specs.Selected.{kind_of, properties_in}
use Rattle.aig_signals.specs.Named.{IsNamed, is_other, symbol_of, symbols_from, with_names, with_symbols}
use Rattle.aig_signals.specs.state.PropertyNaming.{other_symbols}
use Rattle.aig_signals.proofs.Lines.{IsLine}

module _ (raw : Raw) (symbols : List (Key × List ℕ)) where
  abbrev new : Raw
  new = with_symbols raw symbols

  same_length : (k : Kind) → section_length raw k ≡ section_length new k
  same_length kinds.Input = refl
  same_length kinds.Latch = refl
  same_length kinds.Output = refl
  same_length kinds.Bad = refl
  same_length kinds.Constraint = refl
  same_length kinds.Justice = refl
  same_length kinds.Fairness = refl

  still_symbol : (s : Key × List ℕ) → IsSymbolOf raw s → IsSymbolOf new s
  still_symbol s (there, name) = (omega (arith, there, same_length s.0.0), name)

  still_symbols : (ss : List (Key × List ℕ)) → All (IsSymbolOf raw) ss → All (IsSymbolOf new) ss
  still_symbols [] h = All-nil (IsSymbolOf new)
  still_symbols (s ∷ ss) h =
      All-cons (IsSymbolOf new) s ss (still_symbol s (All-head (IsSymbolOf raw) s ss h))
      (still_symbols ss (All-tail (IsSymbolOf raw) s ss h))

  named_one : (kind : Kind) (p : ℕ) (name : List ℕ) → IsLine name → p + 1 ≤ section_length new kind
      → All (IsSymbolOf new) (symbol_of kind p name)
  named_one kind p [] line there = All-nil (IsSymbolOf new)
  named_one kind p (b ∷ bs) line there =
      All-cons (IsSymbolOf new) ((kind, p), b ∷ bs) [] (omega (arith, there), (omega arith, line)) (All-nil (IsSymbolOf new))

  named_all : (kind : Kind) (p : ℕ) (names : List (List ℕ)) → All IsLine names → p + length names ≤ section_length new kind
      → All (IsSymbolOf new) (symbols_from kind p names)
  unfolding symbols_from
  named_all kind p [] lines there = All-nil (IsSymbolOf new)
  named_all kind p (n ∷ names) lines there =
      All-append (IsSymbolOf new) (symbol_of kind p n) (symbols_from kind (p + 1) names)
      (named_one kind p n (All-head IsLine n names lines) (omega (arith, there)))
      (named_all kind (p + 1) names (All-tail IsLine n names lines) (omega (arith, there)))

count_is : (raw : Raw) (section : PropertySection) → length (properties_in section raw) ≡ section_length raw (kind_of section)
count_is raw sections.Bad = refl
count_is raw sections.Outputs = refl

-- parts with these names are formed
pub named_formed : (raw : Raw) (section : PropertySection) (text : List ℕ) (symbols : List (Key × List ℕ)) → IsFormed raw
    → IsNamed raw section text (with_symbols raw symbols) → AllPairs (λ x y. x ≢ y) (keys_of symbols)
    → IsFormed (with_symbols raw symbols)
named_formed raw section text symbols f (names, (are, count), is) once =
    let all : symbols ≡ other_symbols section raw.symbols ++ symbols_from (kind_of section) 0 names = ap (λ (r : Raw). r.symbols) is in
    let P = IsSymbolOf (with_symbols raw symbols) in
    let others = All-filter (λ (s : Key × List ℕ). is_other section s.0.0) P raw.symbols (still_symbols raw symbols raw.symbols f.symbols) in
    let fits : 0 + length names ≤ section_length (with_symbols raw symbols) (kind_of section) =
    omega (arith, count, count_is raw section, same_length raw symbols (kind_of section)) in
    record {
      counts = record {
        max_var = f.counts.max_var;
        inputs = f.counts.inputs;
        latches = f.counts.latches;
        outputs = f.counts.outputs;
        bad = f.counts.bad;
        constraints = f.counts.constraints;
        justice = f.counts.justice;
        fairness = f.counts.fairness;
        gates = f.counts.gates;
        justice_literals = f.counts.justice_literals;
      };
      symbols = subst (λ (ss : List (Key × List ℕ)). All P ss) (sym all)
          (All-append P (other_symbols section raw.symbols) (symbols_from (kind_of section) 0 names) others
          (named_all raw symbols (kind_of section) 0 names are.ended fits));
      names = once;
    }

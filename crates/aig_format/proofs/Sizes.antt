-- Lists that grow as they are read: their lengths and sums.
use Rattle.std.proofs.Common.{◌≡◌, ℕ, ◌+◌, ◌<◌, List, [], ◌∷◌, ◌++◌, length, get_or, take, map, refl, sym, ap, subst}
use Rattle.std.proofs.Common.{◌∙◌, ◌↔◌, arith, Contains, Bool, true, false, IsTrue}
use Rattle.std.specs.Prelude.{sum, sum_by, All}
use Rattle.std.specs.Map.{keys_of}
use Rattle.std.proofs.lemmas.List.{map-append, take_more}
use Rattle.std.proofs.lemmas.List.Sums.{sum-map, sum_by-append, sum_by-cons}
use Rattle.std.proofs.lemmas.List.Elements.{All-push, All-weaker}
use Rattle.aig_parts.specs.Formed.{IsName}
use Rattle.aig_parts.specs.declared.symbols.Kind.{Kind}
use Rattle.aig_format.specs.declared.reader.header.Counts.{Counts}
use Rattle.aig_format.specs.Spelling.{Entry}
use Rattle.aig_format.specs.state.ReadingNames.{count_of}
use Rattle.aig_format.specs.state.Fits.{IsCountedSymbol, AreSymbols}
use Rattle.aig_parts.specs.declared.raw.Raw.{Raw}
use Rattle.aig_parts.specs.Formed.{IsFormed}
use Rattle.aig_format.specs.state.HeaderCounts.{AreWithin, counted}
use Rattle.aig_format.specs.state.Fits.{HasCounts}
use Rattle.aig_format.proofs.Names.{IsSymbolEntry}
use Rattle.aig_format.proofs.Parts.{properties_in, formed_from}
use Rattle.aig_format.proofs.SymbolLaws.{once_push}

pub sum_push : (xs : List ℕ) (x : ℕ) → sum (xs ++ x ∷ []) ≡ sum xs + x
sum_push xs x =
    let one : sum (x ∷ []) ≡ x + sum [] = sum_by-cons (λ (n : ℕ). n) x [] in
    let none : sum [] ≡ 0 = refl in
    let all : sum (xs ++ x ∷ []) ≡ sum xs + sum (x ∷ []) = sum_by-append (λ (n : ℕ). n) xs (x ∷ []) in
    omega (arith, one, none, all)

-- one more list, of the next size
pub sizes_more : {X : Type 0} (all : List (List X)) (sizes : List ℕ) (i : ℕ) (new : List X) (size : ℕ) → i < length sizes
    → map length all ≡ take i sizes
    → length new ≡ size → size ≡ get_or sizes i 0 → map length (all ++ new ∷ []) ≡ take (i + 1) sizes
sizes_more {X} all sizes i new size lt so_far is at =
    map-append (length {A = X}) all (new ∷ []) ∙ rw (so_far, is, at) (sym (take_more sizes i 0 lt))

-- one more symbol
pub symbols_more : (c : Counts) (all new : List Entry) (kind : Kind) (position : ℕ) (name : List ℕ) → AreSymbols c all
    → position < count_of c kind → IsName name → (Contains (keys_of all) (kind, position) → ⊥)
    → new ≡ all ++ ((kind, position), name) ∷ [] → AreSymbols c new
symbols_more c all new kind position name so_far there named free is =
    let e : Entry = ((kind, position), name) in
    subst (AreSymbols c) (sym is) (record {
      entries = All-push (IsCountedSymbol c) all e so_far.entries (there, named);
      once = once_push all e so_far.once free;
    })

-- parts with as many entries as are counted are formed
pub parts_formed : (c : Counts) (raw : Raw) → AreWithin c → raw.max_var ≡ c.max_var → length raw.inputs ≡ c.inputs
    → length raw.latches ≡ c.latches → HasCounts c (properties_in raw) → length raw.gates ≡ c.gates
    → AreSymbols c raw.symbols → IsFormed raw
parts_formed c raw w max_var inputs latches p gates symbols =
    let counted : counted raw ≡ c = λ i. record {
      max_var = max_var i;
      inputs = inputs i;
      latches = latches i;
      outputs = p.outputs i;
      gates = gates i;
      bad = p.bad i;
      constraints = p.constraints i;
      justice = p.justice i;
      fairness = p.fairness i;
    } in
    let entries : All (IsSymbolEntry c) raw.symbols =
    All-weaker (IsCountedSymbol c) (IsSymbolEntry c) (λ e s. record { there = s.0; named = s.1 }) raw.symbols symbols.entries in
    formed_from raw (subst AreWithin (sym counted) w) p.literals
    (subst (λ (k : Counts). All (IsSymbolEntry k) raw.symbols) (sym counted) entries) symbols.once

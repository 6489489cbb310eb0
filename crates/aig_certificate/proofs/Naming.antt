-- The names of the strengthened circuit.
use Rattle.std.proofs.Common.{◌≡◌, ◌≢◌, ℕ, ◌<◌, List, [], ◌∷◌, ◌++◌, length, Option, Some, None, slice_get, option_map}
use Rattle.std.proofs.Common.{AllPairs, Contains}
use Rattle.std.proofs.Common.{refl, sym, ap, subst, ◌∙◌, arith, append_assoc}
use Rattle.std.specs.Map.{keys_of}
use Rattle.std.proofs.lemmas.List.{append-nil, map-append}
use Rattle.std.proofs.lemmas.List.Elements.{filter_map-append}
use Rattle.std.proofs.lemmas.List.FromFn.{get_or-map-range_with_len}
use Rattle.aig_parts.specs.declared.symbols.Kind.{Kind}
use Rattle.aig_parts.specs.SymbolPlaces.{Key}
use Rattle.aig_base.proofs.selections.Distinct.{not_before}
use Rattle.aig_certificate.specs.declared.fault.StrengthenFault.{StrengthenFault}
use Rattle.aig_certificate.specs.declared.fault.StrengthenFault.TheVariants as faults
use Rattle.aig_certificate.specs.Strengthened.{own_entry, own_position, renamed}
use Rattle.aig_certificate.specs.state.Names.{RefusesNames, entry_by, own_positions, with_name}

-- an entry that has a name gets no other one
pub twice_named : (old : List (Key × List ℕ)) (e : Key) (name : List ℕ) → Contains (keys_of old) e
    → RefusesNames (old ++ (e, name) ∷ []) faults.Limit
twice_named old e name here = λ rest once.
    let whole : keys_of (old ++ (e, name) ∷ [] ++ rest) ≡ keys_of old ++ e ∷ keys_of rest =
    ap (λ (s : List (Key × List ℕ)). keys_of s) (append_assoc old ((e, name) ∷ []) rest)
    ∙ map-append (λ (t : Key × List ℕ). t.0) old ((e, name) ∷ rest) in
    not_before (keys_of old) (keys_of rest) e (subst (λ (ks : List Key). AllPairs (λ x y. x ≢ y) ks) whole once) here

pub refuses_more : (a b : List (Key × List ℕ)) (fault : StrengthenFault) → RefusesNames a fault → RefusesNames (a ++ b) fault
refuses_more a b faults.Memory h = tt
refuses_more a b faults.Limit h = λ rest once.
    h (b ++ rest) (subst (λ (s : List (Key × List ℕ)). AllPairs (λ x y. x ≢ y) (keys_of s)) (append_assoc a b rest) once)
refuses_more a b faults.Comment h = h
refuses_more a b (faults.Symbol k p) h = h
refuses_more a b faults.Property h = h
refuses_more a b (faults.Circuit f) h = h

module _ (entry : Kind → ℕ → Option Key) where
  renamed_one : (s : Key × List ℕ) → renamed entry (s ∷ []) ≡ with_name (entry s.0.0 s.0.1) s.1
  renamed_one s = go (entry s.0.0 s.0.1) refl
    where
      go : (o : Option Key) → entry s.0.0 s.0.1 ≡ o → renamed entry (s ∷ []) ≡ with_name o s.1
      go None e = rw e refl
      go (Some k) e = rw e refl

  -- the names of the symbols in front are there, and the others are to come
  pub record Naming (old all list rest : List (Key × List ℕ)) : Type 0 where
    pub front : List (Key × List ℕ)
    pub split : all ≡ front ++ rest
    pub listed : list ≡ old ++ renamed entry front

  renamed_more : (front : List (Key × List ℕ)) (s : Key × List ℕ) (rest : List (Key × List ℕ))
      → renamed entry (front ++ s ∷ rest) ≡ renamed entry front ++ with_name (entry s.0.0 s.0.1) s.1 ++ renamed entry rest
  renamed_more front s rest =
      let one : front ++ s ∷ rest ≡ front ++ s ∷ [] ++ rest = sym (append_assoc front (s ∷ []) rest) in
      let h = λ (s : Key × List ℕ). option_map (λ (e : Key). (e, s.1)) (entry s.0.0 s.0.1) in
      ap (renamed entry) one ∙ filter_map-append h (front ++ s ∷ []) rest
      ∙ ap (λ (t : List (Key × List ℕ)). t ++ renamed entry rest)
      (filter_map-append h front (s ∷ []) ∙ ap (λ (t : List (Key × List ℕ)). renamed entry front ++ t) (renamed_one s))

  pub naming_more : (old all list list' rest rest' : List (Key × List ℕ)) (s : Key × List ℕ) → rest ≡ s ∷ rest'
      → list' ≡ list ++ with_name (entry s.0.0 s.0.1) s.1 → Naming old all list rest → Naming old all list' rest'
  naming_more old all list list' rest rest' s next added w = record {
    front = w.front ++ s ∷ [];
    split = w.split ∙ ap (λ (es : List (Key × List ℕ)). w.front ++ es) next ∙ sym (append_assoc w.front (s ∷ []) rest');
    listed = added
        ∙ ap (λ (es : List (Key × List ℕ)). es ++ with_name (entry s.0.0 s.0.1) s.1) w.listed
        ∙ append_assoc old (renamed entry w.front) (with_name (entry s.0.0 s.0.1) s.1)
        ∙ ap (λ (es : List (Key × List ℕ)). old ++ es)
        (sym (append-nil (renamed entry w.front ++ with_name (entry s.0.0 s.0.1) s.1)) ∙ sym (renamed_more w.front s []));
  }

  -- a name that is refused on the way
  pub naming_refused : (old all list rest rest' : List (Key × List ℕ)) (s : Key × List ℕ) (fault : StrengthenFault)
      → rest ≡ s ∷ rest' → RefusesNames (list ++ with_name (entry s.0.0 s.0.1) s.1) fault → Naming old all list rest
      → RefusesNames (old ++ renamed entry all) fault
  naming_refused old all list rest rest' s fault next refused w =
      let these = with_name (entry s.0.0 s.0.1) s.1 in
      let whole : list ++ these ++ renamed entry rest' ≡ old ++ renamed entry all =
      ap (λ (es : List (Key × List ℕ)). es ++ these ++ renamed entry rest') w.listed
      ∙ ap (λ (es : List (Key × List ℕ)). es ++ renamed entry rest') (append_assoc old (renamed entry w.front) these)
      ∙ append_assoc old (renamed entry w.front ++ these) (renamed entry rest')
      ∙ ap (λ (es : List (Key × List ℕ)). old ++ es)
      (sym (renamed_more w.front s rest')
      ∙ ap (renamed entry) (ap (λ (es : List (Key × List ℕ)). w.front ++ es) (sym next) ∙ sym w.split)) in
      subst (λ (es : List (Key × List ℕ)). RefusesNames es fault) whole
      (refuses_more (list ++ these) (renamed entry rest') fault refused)

-- ---- own entries

pub entry_is : (kind : Kind) (n : ℕ) (ms : List (Option ℕ)) (p : ℕ) → p < length ms
    → entry_by kind ms (own_positions n ms) p ≡ own_entry kind n ms p
entry_is kind n ms p lt = go (slice_get ms p) refl
  where
    go : (m : Option (Option ℕ)) → slice_get ms p ≡ m → entry_by kind ms (own_positions n ms) p ≡ own_entry kind n ms p
    go None e = rw e refl
    go (Some (Some l)) e = rw e refl
    go (Some None) e =
        let at = get_or-map-range_with_len (own_position n ms) 0 (length ms) p p 0 lt (omega arith) in
        rw e (ap (λ (q : ℕ). let k : Key = (kind, q) in Some k) at)

-- Names that are added along a chain of positions, and symbol by symbol.
use Rattle.std.proofs.Common.{◌≡◌, ◌≢◌, ℕ, ◌<◌, ◌≤◌, List, [], ◌∷◌, ◌++◌, length, get_or, map, flat_map}
use Rattle.std.proofs.Common.{refl, sym, ap, subst, ◌∙◌, arith, AllPairs, Contains}
use Rattle.std.specs.Map.{keys_of}
use Rattle.std.proofs.lemmas.List.{append-nil, append_assoc, map-append}
use Rattle.std.proofs.lemmas.List.Concat.{flat_map-append}
use Rattle.aig_parts.specs.SymbolPlaces.{Key}
use Rattle.aig_base.specs.declared.select.PropertySection.{PropertySection}
use Rattle.aig_base.specs.Selected.{kind_of, kept_entries, kept_symbols}
use Rattle.aig_base.specs.state.PropertyPlaces.{IsChain}
use Rattle.aig_base.proofs.selections.Distinct.{not_before}
use Rattle.aig_base.proofs.selections.KeptNames.{keys_named, next_distinct}

abbrev pub entry_at : PropertySection → ℕ → Key
entry_at into j = (kind_of into, j)

abbrev pub with_name : List ℕ → Key → Key × List ℕ
with_name name e = (e, name)

-- the positions in front have the name, and the chain leads to the others
pub record Walked (into : PropertySection) (next places name : List ℕ) (old list : List (Key × List ℕ)) (at : ℕ) : Type 0 where
  pub front : List ℕ
  pub left : List ℕ
  pub split : places ≡ front ++ left
  pub chain : IsChain next at left
  pub listed : list ≡ old ++ map (with_name name) (map (entry_at into) front)

module _ (into : PropertySection) (next places name : List ℕ) (old : List (Key × List ℕ)) where
  -- one position more
  pub record Step (list : List (Key × List ℕ)) (at : ℕ) : Type 0 where
    pub fresh : Contains (keys_of list) (entry_at into at) → ⊥
    pub rises : at < get_or next at 0
    pub walked : Walked into next places name old (list ++ (entry_at into at, name) ∷ []) (get_or next at 0)

  pub walk_more : (list : List (Key × List ℕ)) (at : ℕ) → at < length next
      → AllPairs (λ x y. x ≢ y) (keys_of old ++ map (entry_at into) places) → Walked into next places name old list at
      → Step list at
  unfolding IsChain
  walk_more list at lt distinct w = go w.left w.split w.chain
    where
      go : (left : List ℕ) → places ≡ w.front ++ left → IsChain next at left → Step list at
      go [] split end = absurd (omega (arith, lt, end))
      go (j ∷ left) split (is, within, rises, more) =
          let done = map (entry_at into) w.front in
          let keys : keys_of list ≡ keys_of old ++ done =
          ap (λ (es : List (Key × List ℕ)). keys_of es) w.listed
          ∙ map-append (λ (t : Key × List ℕ). t.0) old (map (with_name name) done)
          ∙ ap (λ (ks : List Key). keys_of old ++ ks) (keys_named done name) in
          let all : keys_of old ++ map (entry_at into) places ≡ (keys_of old ++ done) ++ entry_at into j ∷ map (entry_at into) left =
          ap (λ (ps : List ℕ). keys_of old ++ map (entry_at into) ps) split
          ∙ ap (λ (ks : List Key). keys_of old ++ ks) (map-append (entry_at into) w.front (j ∷ left))
          ∙ sym (append_assoc (keys_of old) done (entry_at into j ∷ map (entry_at into) left)) in
          let apart : Contains (keys_of old ++ done) (entry_at into j) → ⊥ =
          not_before (keys_of old ++ done) (map (entry_at into) left) (entry_at into j)
          (subst (λ (ks : List Key). AllPairs (λ x y. x ≢ y) ks) all distinct) in
          let listed : list ++ (entry_at into j, name) ∷ [] ≡ old ++ map (with_name name) (map (entry_at into) (w.front ++ j ∷ [])) =
          ap (λ (es : List (Key × List ℕ)). es ++ (entry_at into j, name) ∷ []) w.listed
          ∙ append_assoc old (map (with_name name) done) ((entry_at into j, name) ∷ [])
          ∙ ap (λ (es : List (Key × List ℕ)). old ++ es)
          (sym (map-append (with_name name) done (entry_at into j ∷ []))
          ∙ ap (map (with_name name)) (sym (map-append (entry_at into) w.front (j ∷ [])))) in
          let step : Step list j = record {
            fresh = λ c. apart (subst (λ (ks : List Key). Contains ks (entry_at into j)) keys c);
            rises = rises;
            walked = record {
              front = w.front ++ j ∷ [];
              left = left;
              split = split ∙ sym (append_assoc w.front (j ∷ []) left);
              chain = more;
              listed = listed;
            };
          } in
          subst (λ n. Step list n) (sym is) step

  -- all positions
  pub walk_end : (list : List (Key × List ℕ)) (at : ℕ) → length next ≤ at → Walked into next places name old list at
      → list ≡ old ++ map (with_name name) (map (entry_at into) places)
  unfolding IsChain
  walk_end list at le w = go w.left w.split w.chain
    where
      go : (left : List ℕ) → places ≡ w.front ++ left → IsChain next at left
          → list ≡ old ++ map (with_name name) (map (entry_at into) places)
      go [] split end =
          w.listed ∙ ap (λ (ps : List ℕ). old ++ map (with_name name) (map (entry_at into) ps)) (sym (append-nil w.front) ∙ sym split)
      go (j ∷ left) split (is, within, rises, more) = absurd (omega (arith, le, is, within))

-- ---- symbol by symbol

-- the symbols in front are left as they should be, and the others are to come
pub record Sorted (from into : PropertySection) (positions : List ℕ) (all list rest : List (Key × List ℕ)) : Type 0 where
  pub front : List (Key × List ℕ)
  pub split : all ≡ front ++ rest
  pub listed : list ≡ flat_map (kept_symbols from into positions) front

module _ (from into : PropertySection) (positions : List ℕ) (all : List (Key × List ℕ)) where
  pub sort_fresh : (list rest rest' : List (Key × List ℕ)) (s : Key × List ℕ) → rest ≡ s ∷ rest'
      → AllPairs (λ x y. x ≢ y) (keys_of all) → Sorted from into positions all list rest
      → AllPairs (λ x y. x ≢ y) (keys_of list ++ kept_entries from into positions s.0.0 s.0.1)
  sort_fresh list rest rest' s next distinct w =
      let split : all ≡ w.front ++ s ∷ rest' = w.split ∙ ap (λ (es : List (Key × List ℕ)). w.front ++ es) next in
      let apart = next_distinct from into positions w.front s rest'
      (subst (λ (es : List (Key × List ℕ)). AllPairs (λ x y. x ≢ y) (keys_of es)) split distinct) in
      subst (λ (es : List (Key × List ℕ)). AllPairs (λ x y. x ≢ y) (keys_of es ++ kept_entries from into positions s.0.0 s.0.1))
      (sym w.listed) apart

  pub sort_more : (list list' rest rest' : List (Key × List ℕ)) (s : Key × List ℕ) → rest ≡ s ∷ rest'
      → list' ≡ list ++ kept_symbols from into positions s → Sorted from into positions all list rest
      → Sorted from into positions all list' rest'
  sort_more list list' rest rest' s next added w = record {
    front = w.front ++ s ∷ [];
    split = w.split ∙ ap (λ (es : List (Key × List ℕ)). w.front ++ es) next ∙ sym (append_assoc w.front (s ∷ []) rest');
    listed = added ∙ ap (λ (es : List (Key × List ℕ)). es ++ kept_symbols from into positions s) w.listed
        ∙ ap (λ (es : List (Key × List ℕ)). flat_map (kept_symbols from into positions) w.front ++ es)
        (sym (append-nil (kept_symbols from into positions s)))
        ∙ sym (flat_map-append (kept_symbols from into positions) w.front (s ∷ []));
  }

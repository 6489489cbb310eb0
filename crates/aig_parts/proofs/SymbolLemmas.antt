-- Names by their places in one list of bytes.
use Rattle.std.proofs.Common.{◌≡◌, ◌≢◌, ◌⊎◌, ◌↔◌, inl, inr, ℕ, ◌+◌, ◌-◌, ◌<◌, ◌≤◌, List, [], ◌∷◌, ◌++◌, length, take}
use Rattle.std.proofs.Common.{drop, get_or, Contains, AllPairs, refl, sym, ap, subst, ◌∙◌, arith, length-append}
use Rattle.std.specs.Prelude.{All, slice_range, Option, Some, None, IfSome, IfNone, IsSome}
use Rattle.std.specs.Map.{keys_of}
use Rattle.std.proofs.lemmas.Bool.{false≢true}
use Rattle.std.proofs.lemmas.List.{map-append, length-map, length-take-le, take_more, take-map, get_or-take, get_or-map}
use Rattle.std.proofs.lemmas.List.{take-append-le, drop-append-le, length-drop, drop_at}
use Rattle.std.proofs.Math.Seq.{take-length}
use Rattle.std.proofs.lemmas.List.Elements.{All-nil, All-head, All-contains, All-tail, All-push, All-weaker}
use Rattle.std.proofs.lemmas.List.Elements.{Contains-get_or, Contains-append_left, Contains-push, Contains-push_cases}
use Rattle.std.proofs.lemmas.List.Quantifiers.{all_pairs_push}
use Rattle.aig_parts.specs.declared.symbols.places.Place.{Place}
use Rattle.indexmap.specs.IndexMap.{IndexMap, insert_entry}
use Rattle.aig_parts.proofs.NamedLemmas.{no_page}
use Rattle.aig_parts.proofs.SymbolKeys.{key_eq, insert_at_end}
use Rattle.aig_parts.specs.SymbolPlaces.{Key, symbol_in, symbols_in}
use Rattle.aig_parts.specs.state.NamedEntries.{IsPlaceIn, IsMarkedEntry, AreNamedEntries}

-- the entries of symbols
pub keys_in : (text : List ℕ) (es : List (Key × Place)) → keys_of (symbols_in text es) ≡ keys_of es
keys_in text [] = refl
keys_in text (e ∷ es) = ap (λ (ks : List Key). e.0 ∷ ks) (keys_in text es)

-- a name that stands in the list, whatever comes after
name_stays : (text more : List ℕ) (a b : ℕ) → a ≤ b → b ≤ length text → slice_range (text ++ more) a b ≡ slice_range text a b
name_stays text more a b le within =
    let n = length-drop a text in
    ap (take (b - a)) (drop-append-le a text more (omega arith)) ∙ take-append-le (b - a) (drop a text) more (omega (arith, n))

-- the last name
name_last : (text name : List ℕ) (a b : ℕ) → a ≡ length text → b ≡ length (text ++ name) → slice_range (text ++ name) a b ≡ name
name_last text name a b start end =
    let n = length-append text name in
    let size : b - a ≡ length name = omega arith in
    let rest : drop a (text ++ name) ≡ name = ap (λ (k : ℕ). drop k (text ++ name)) start ∙ drop_at text name (length text) refl in
    (λ i. take (size i) (rest i)) ∙ take-length name

-- names that come after leave these
pub symbols_stay : (text more : List ℕ) (es : List (Key × Place)) → All (IsPlaceIn text) es
    → symbols_in (text ++ more) es ≡ symbols_in text es
symbols_stay text more [] within = refl
symbols_stay text more (e ∷ es) within =
    let head = All-head (IsPlaceIn text) e es within in
    let name = name_stays text more e.1.start e.1.end head.0 head.1 in
    λ i. (e.0, name i) ∷ symbols_stay text more es (All-tail (IsPlaceIn text) e es within) i

pub places_stay : (text more : List ℕ) (es : List (Key × Place)) → All (IsPlaceIn text) es → All (IsPlaceIn (text ++ more)) es
places_stay text more es within =
    let n = length-append text more in
    All-weaker (IsPlaceIn text) (IsPlaceIn (text ++ more)) (λ e h. (h.0, omega (arith, n, h.1))) es within

-- one more name
module _ (text name text' : List ℕ) (es : List (Key × Place)) (k : Key) (p : Place) (within : All (IsPlaceIn text) es)
    (is : text' ≡ text ++ name) (start : p.start ≡ length text) (end : p.end ≡ length text') where
  pub symbol_more : symbols_in text' (es ++ (k, p) ∷ []) ≡ symbols_in text es ++ (k, name) ∷ []
  symbol_more =
      let last = name_last text name p.start p.end start (end ∙ ap (length {A = ℕ}) is) in
      ap (λ (t : List ℕ). symbols_in t (es ++ (k, p) ∷ [])) is
      ∙ map-append (symbol_in (text ++ name)) es ((k, p) ∷ [])
      ∙ (λ i. symbols_stay text name es within i ++ (k, last i) ∷ [])

  pub place_more : All (IsPlaceIn text') (es ++ (k, p) ∷ [])
  place_more =
      let n = length-append text name in
      let m = ap (length {A = ℕ}) is in
      All-push (IsPlaceIn text') es (k, p)
      (subst (λ (t : List ℕ). All (IsPlaceIn t) es) (sym is) (places_stay text name es within))
      (omega (arith, start, end, n, m), omega (arith, end))

-- the name at a place that was found
pub name_found : (text : List ℕ) (es : List (Key × Place)) (k : Key) (p : Place) → Contains es (k, p)
    → All (IsPlaceIn text) es → IsPlaceIn text (k, p) × Contains (symbols_in text es) (k, slice_range text p.start p.end)
name_found text es k p found within =
    let (i, lt, is) = found in (
      All-contains (IsPlaceIn text) es (k, p) within found,
      (
        i,
        omega (arith, lt, length-map es (symbol_in text)),
        get_or-map (symbol_in text) es i (k, p) _ lt ∙ ap (symbol_in text) is,
      ),
    )

key_of_entry : (es : List (Key × Place)) (k : Key) (p : Place) → Contains es (k, p) → Contains (keys_of es) k
key_of_entry es k p (i, lt, is) = (
  i,
  omega (arith, lt, length-map es (λ (x : Key × Place). x.0)),
  get_or-map (λ (x : Key × Place). x.0) es i (k, p) k lt ∙ ap (λ (x : Key × Place). x.0) is,
)

-- an entry is there where a place is found
pub key_found : (o : Option Place) (text : List ℕ) (es : List (Key × Place)) (k : Key)
    → IfSome o (λ p. Contains es (k, p)) → IfNone o (Contains (keys_of es) k → ⊥)
    → IsSome o ↔ Contains (keys_of (symbols_in text es)) k
key_found None text es k some none =
    (λ h. absurd (false≢true h), λ h. absurd (none (subst (λ (ks : List Key). Contains ks k) (keys_in text es) h)))
key_found (Some p) text es k some none =
    (λ h. subst (λ (ks : List Key). Contains ks k) (sym (keys_in text es)) (key_of_entry es k p some), λ h. refl)

-- ---- a table of entries

-- an entry that stands later is none of the earlier ones
not_before : (es : List (Key × Place)) (i : ℕ) (e : Key × Place) → e ≡ get_or es i e → i < length es
    → AllPairs (λ x y. x ≢ y) (keys_of es) → Contains (keys_of (take i es)) e.0 → ⊥
not_before es i e is inside once (j, lt, at) =
    let keys : keys_of (take i es) ≡ take i (keys_of es) = sym (take-map (λ (x : Key × Place). x.0) i es) in
    let size : length (keys_of es) ≡ length es = length-map es (λ (x : Key × Place). x.0) in
    let part : length (take i (keys_of es)) ≡ i = length-take-le i (keys_of es) (omega arith) in
    let below : j < i = omega (arith, ap (length {A = Key}) keys) in
    let here : get_or (keys_of es) j e.0 ≡ e.0 =
    sym (get_or-take i (keys_of es) j e.0 below) ∙ ap (λ (ks : List Key). get_or ks j e.0) (sym keys) ∙ at in
    let there : get_or (keys_of es) i e.0 ≡ e.0 =
    get_or-map (λ (x : Key × Place). x.0) es i e e.0 inside ∙ ap (λ (x : Key × Place). x.0) (sym is) in
    once j i e.0 below (omega arith) (here ∙ sym there)

-- a table gets the next entry
pub entry_more : {S : Type 0} (m : IndexMap Key Place S) (es : List (Key × Place)) (i : ℕ) (e : Key × Place)
    → e ≡ get_or es i e → i < length es → AllPairs (λ x y. x ≢ y) (keys_of es) → m.entries ≡ take i es
    → insert_entry key_eq m.entries e.0 e.1 ≡ take (i + 1) es
entry_more m es i e is inside once so_far =
    let fresh = not_before es i e is inside once in
    insert_at_end m e.0 e.1
    (subst (λ (xs : List (Key × Place)). Contains (keys_of xs) e.0 → ⊥) (sym so_far) fresh)
    ∙ (λ j. so_far j ++ is j ∷ []) ∙ sym (take_more es i e inside)

-- ---- symbols as they are read

pub listed_none : (text : List ℕ) → AreNamedEntries [] [] text
listed_none text = record {
  places = All-nil (IsPlaceIn text);
  marks = λ k. (λ h. absurd (no_page [] k (omega arith) h), λ (i, lt, is). absurd (omega (arith, lt)));
  once = λ i j d lt inside. absurd (omega (arith, inside));
}

module _ (pages pages' : List (List ℕ)) (es : List (Key × Place)) (text text' : List ℕ) (listed : AreNamedEntries pages es text)
  where
    -- bytes that are no name yet
    pub listed_longer : (more : List ℕ) → text' ≡ text ++ more → ((j : Key) → IsMarkedEntry pages' j ↔ IsMarkedEntry pages j)
        → AreNamedEntries pages' es text'
    listed_longer more is same = record {
      places = subst (λ (t : List ℕ). All (IsPlaceIn t) es) (sym is) (places_stay text more es listed.places);
      marks = λ j. (λ h. (listed.marks j).0 ((same j).0 h), λ h. (same j).1 ((listed.marks j).1 h));
      once = listed.once;
    }

    module _ (name : List ℕ) (k : Key) (p : Place) (fresh : Contains (keys_of es) k → ⊥) where
      keys_more : keys_of (es ++ (k, p) ∷ []) ≡ keys_of es ++ k ∷ []
      keys_more = map-append (λ (e : Key × Place). e.0) es ((k, p) ∷ [])

      -- one more entry
      pub listed_more : text' ≡ text ++ name → p.start ≡ length text → p.end ≡ length text'
          → ((j : Key) → IsMarkedEntry pages' j ↔ (IsMarkedEntry pages j ⊎ (j ≡ k))) → AreNamedEntries pages' (es ++ (k, p) ∷ []) text'
      listed_more is start end more = record {
        places = place_more text name text' es k p listed.places is start end;
        marks = λ j. (
          λ h. subst (λ (ks : List Key). Contains ks j) (sym keys_more) (elim ((more j).0 h) [
            | inl m ↦ Contains-append_left (keys_of es) (k ∷ []) j ((listed.marks j).0 m)
            | inr e ↦ subst (λ (x : Key). Contains (keys_of es ++ k ∷ []) x) (sym e) (Contains-push (keys_of es) k)
          ]),
          λ h. (more j).1 (elim (Contains-push_cases (keys_of es) k j (subst (λ (ks : List Key). Contains ks j) keys_more h)) [
            | inl c ↦ inl ((listed.marks j).1 c)
            | inr e ↦ inr (sym e)
          ]),
        );
        once = subst (λ (ks : List Key). AllPairs (λ x y. x ≢ y) ks) (sym keys_more)
            (all_pairs_push (λ x y. x ≢ y) (keys_of es) k listed.once
            (λ i d lt e. fresh (subst (λ (x : Key). Contains (keys_of es) x) e (Contains-get_or (keys_of es) i d lt))));
      }

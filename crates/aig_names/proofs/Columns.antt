-- Columns of names: the first of each entry, and what is left.
use Rattle.std.proofs.Common.{◌≡◌, ℕ, ◌≤◌, List, [], ◌∷◌, ◌++◌, length, map, drop, refl, sym, ap, ◌∙◌, append_assoc}
use Rattle.std.proofs.Common.{append-nil}
use Rattle.std.proofs.lemmas.List.{drop_all}
use Rattle.std.specs.List.{flat_map}
use Rattle.aig_names.specs.Signals.{columns, put_in_front}
use Rattle.aig_names.specs.Vectors.{turned, turned_after}
use Rattle.aig_names.specs.state.Naming.{column_then}

-- the first name of an entry that has one
abbrev pub head : ℕ → List (List ℕ) → List (ℕ × List ℕ)
head n [] = []
head n (name ∷ names) = (n, name) ∷ []

-- such an entry without it
abbrev pub other : ℕ → List (List ℕ) → List (ℕ × List (List ℕ))
other n [] = []
other n (name ∷ names) = (n, names) ∷ []

abbrev pub heads : List (ℕ × List (List ℕ)) → List (ℕ × List ℕ)
heads [] = []
heads (e ∷ es) = head e.0 e.1 ++ heads es

abbrev pub others : List (ℕ × List (List ℕ)) → List (ℕ × List (List ℕ))
others [] = []
others (e ∷ es) = other e.0 e.1 ++ others es

no_heads : (es : List (ℕ × List (List ℕ))) → heads es ≡ [] → others es ≡ []
no_heads [] h = refl
no_heads ((n, []) ∷ es) h = no_heads es h
no_heads ((n, name ∷ names) ∷ es) h = absurd (cc)

step : (n : ℕ) (names : List (List ℕ)) (hs : List (ℕ × List ℕ)) (os : List (ℕ × List (List ℕ))) (cs : List (List (ℕ × List ℕ)))
    → cs ≡ column_then hs (columns os) → (hs ≡ [] → os ≡ [])
    → put_in_front (map (λ name. (n, name)) names) cs ≡ column_then (head n names ++ hs) (columns (other n names ++ os))
unfolding columns
step n [] hs os cs e none = e
step n (name ∷ names) [] os cs e none = rw (e, none refl) refl
step n (name ∷ names) (h ∷ hs) os cs e none = rw e refl

pub column_step : (es : List (ℕ × List (List ℕ))) → columns es ≡ column_then (heads es) (columns (others es))
unfolding columns
column_step [] = refl
column_step (e ∷ es) = step e.0 e.1 (heads es) (others es) (columns es) (column_step es) (no_heads es)

-- where all entries are done
pub heads_done : {B : Type 0} (f : B → ℕ × List (List ℕ)) (xs : List B) (i : ℕ) (done : List (ℕ × List ℕ)) → length xs ≤ i
    → done ++ heads (map f (drop i xs)) ≡ heads (map f xs) → done ≡ heads (map f xs)
heads_done f xs i done le h =
    sym (append-nil done) ∙ ap (λ ys. done ++ heads (map f ys)) (sym (drop_all i xs le)) ∙ h

pub others_done : {B : Type 0} (f : B → ℕ × List (List ℕ)) (xs : List B) (i : ℕ) (done : List (ℕ × List (List ℕ))) → length xs ≤ i
    → done ++ others (map f (drop i xs)) ≡ others (map f xs) → done ≡ others (map f xs)
others_done f xs i done le h =
    sym (append-nil done) ∙ ap (λ ys. done ++ others (map f ys)) (sym (drop_all i xs le)) ∙ h

-- each column turned
turned_none : turned [] ≡ []
unfolding turned_after
turned_none = refl

no_column : columns [] ≡ []
unfolding columns
no_column = refl

columns_after : (column : List (ℕ × List ℕ)) (rest : List (ℕ × List (List ℕ))) → (column ≡ [] → columns rest ≡ [])
    → flat_map turned (column_then column (columns rest)) ≡ turned column ++ flat_map turned (columns rest)
columns_after [] rest none = sym (ap (λ (t : List (ℕ × List ℕ)). t ++ flat_map turned (columns rest)) turned_none ∙ ap (flat_map turned) (none refl))
columns_after (x ∷ column) rest none = refl

-- what a column and the columns after it come to
pub turned_more : (es : List (ℕ × List (List ℕ))) (column : List (ℕ × List ℕ)) (rest : List (ℕ × List (List ℕ))) (old new all : List (ℕ × List ℕ))
    → columns es ≡ column_then column (columns rest) → (column ≡ [] → columns rest ≡ []) → new ≡ old ++ turned column
    → old ++ flat_map turned (columns es) ≡ all → new ++ flat_map turned (columns rest) ≡ all
turned_more es column rest old new all is none more h =
    ap (λ (t : List (ℕ × List ℕ)). t ++ flat_map turned (columns rest)) more
    ∙ append_assoc old (turned column) (flat_map turned (columns rest))
    ∙ ap (λ (t : List (ℕ × List ℕ)). old ++ t) (sym (columns_after column rest none) ∙ ap (flat_map turned) (sym is)) ∙ h

pub turned_all : (es : List (ℕ × List (List ℕ))) (old all : List (ℕ × List ℕ)) → es ≡ []
    → old ++ flat_map turned (columns es) ≡ all → old ≡ all
turned_all es old all none h =
    sym (append-nil old) ∙ ap (λ (cs : List (List (ℕ × List ℕ))). old ++ flat_map turned cs) (sym no_column)
    ∙ ap (λ (xs : List (ℕ × List (List ℕ))). old ++ flat_map turned (columns xs)) (sym none) ∙ h

pub map_empty : {A B : Type 0} (f : A → B) (xs : List A) → map f xs ≡ [] → xs ≡ []
map_empty f [] h = refl
map_empty f (x ∷ xs) h = absurd (cc)

pub columns_none : (es : List (ℕ × List (List ℕ))) → es ≡ [] → columns es ≡ []
columns_none es h = ap columns h ∙ no_column

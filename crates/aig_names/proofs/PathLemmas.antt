-- Paths of names, and the lines of scopes.
use Rattle.std.proofs.Common.{◌≡◌, ◌≢◌, ℕ, zero, suc, ◌+◌, ◌-◌, ◌<◌, ◌≤◌, true, false, List, [], ◌∷◌, ◌++◌, length}
use Rattle.std.proofs.Common.{get_or, take, drop, map, All, inl, inr, refl, sym, ap, ◌∙◌, arith, take-append-drop}
use Rattle.std.proofs.Common.{length-take, length-drop, append_assoc, get_or-take, get_or-drop, add-one}
use Rattle.std.specs.Prelude.{Bool, ◌==◌, ◌||◌, codes}
use Rattle.std.specs.Str.{bytes_eq}
use Rattle.std.specs.List.{flat_map}
use Rattle.std.proofs.lemmas.Bool.{ne_eqb, cases_lt}
use Rattle.std.proofs.lemmas.List.{drop_more, drop_all, drop-drop, get_or-map, length-map, map-append, get_or_default}
use Rattle.std.proofs.lemmas.List.{take-map, drop-map, take_all}
use Rattle.std.proofs.lemmas.List.Splits.{slice_split_at, slice_split_none, length-slice_split}
use Rattle.aig_names.specs.Names.{cut_at}
use Rattle.aig_names.specs.Paths.{has_empty, path_of, scopes_of, leaf_of}
use Rattle.aig_names.specs.Header.{closings, shared, scope_line, moves}

no_dot : (piece : List ℕ) → ((k : ℕ) → k < length piece → get_or piece k 0 ≢ 46) → All (λ b. (b == 46) ≡ false) piece
no_dot piece h = λ k d lt. ne_eqb (get_or piece k d) 46 (λ e. h k lt (get_or_default piece k 0 d lt ∙ e))

-- a piece before a dot
pub piece_cut : (name : List ℕ) (start place : ℕ) → start ≤ place → place < length name
    → ((k : ℕ) → start ≤ k → k < place → get_or name k 0 ≢ 46) → get_or name place 0 ≡ 46
    → cut_at 46 (drop start name) ≡ take (place - start) (drop start name) ∷ cut_at 46 (drop (place + 1) name)
piece_cut name start place le lt none dot =
    let m : ℕ = place - start in
    let rest : List ℕ = drop start name in
    let piece : List ℕ = take m rest in
    let rest_is : drop m rest ≡ 46 ∷ drop (place + 1) name =
    drop-drop m start name ∙ ap (λ (n : ℕ). drop n name) (omega arith) ∙ drop_more name place 0 lt
    ∙ ap (λ (b : ℕ). b ∷ drop (place + 1) name) dot in
    ap (cut_at 46) (sym (take-append-drop m rest) ∙ ap (λ (xs : List ℕ). piece ++ xs) rest_is)
    ∙ slice_split_at (λ b. b == 46) piece 46 (drop (place + 1) name)
    (no_dot piece (λ k l e. none (start + k) (omega arith) (omega (arith, length-take m rest))
    (sym (get_or-take m rest k 0 (omega (arith, length-take m rest)) ∙ get_or-drop start name k 0) ∙ e))) refl

-- the piece after the last dot
pub piece_last : (name : List ℕ) (start : ℕ) → ((k : ℕ) → start ≤ k → k < length name → get_or name k 0 ≢ 46)
    → cut_at 46 (drop start name) ≡ drop start name ∷ []
piece_last name start none =
    slice_split_none (λ b. b == 46) (drop start name)
    (no_dot (drop start name) (λ k l e. none (start + k) (omega arith) (omega (arith, length-drop start name))
    (sym (get_or-drop start name k 0) ∙ e)))

-- a piece that has bytes leaves the question to the others
filled : (piece : List ℕ) (more : List (List ℕ)) → 0 < length piece → has_empty (piece ∷ more) ≡ has_empty more
filled piece more lt = ap (λ (b : Bool). b || has_empty more) (ne_eqb (length piece) 0 (λ e. omega (arith, e, lt)))

or_none : (b : Bool) → (b || false) ≡ b
or_none true = refl
or_none false = refl

pub filled_piece : (name : List ℕ) (start place : ℕ) → start < place → place < length name
    → ((k : ℕ) → start ≤ k → k < place → get_or name k 0 ≢ 46) → get_or name place 0 ≡ 46
    → has_empty (cut_at 46 (drop start name)) ≡ has_empty (cut_at 46 (drop (place + 1) name))
filled_piece name start place lt inside none dot =
    ap has_empty (piece_cut name start place (omega arith) inside none dot)
    ∙ filled (take (place - start) (drop start name)) (cut_at 46 (drop (place + 1) name))
    (omega (arith, length-take (place - start) (drop start name), length-drop start name))

pub rest_piece : (name : List ℕ) (start : ℕ) → ((k : ℕ) → start ≤ k → k < length name → get_or name k 0 ≢ 46)
    → has_empty (cut_at 46 (drop start name)) ≡ (length (drop start name) == 0)
rest_piece name start none = ap has_empty (piece_last name start none) ∙ or_none (length (drop start name) == 0)

-- a name with an empty piece
pub whole_path : (name : List ℕ) → has_empty (cut_at 46 name) ≡ true → path_of name ≡ name ∷ []
unfolding path_of
whole_path name e = rw e refl

pub cut_path : (name : List ℕ) → has_empty (cut_at 46 name) ≡ false → path_of name ≡ cut_at 46 name
unfolding path_of
cut_path name e = rw e refl

pub no_scopes : (name : List ℕ) → path_of name ≡ name ∷ [] → [] ≡ scopes_of name
no_scopes name e = ap (λ (p : List (List ℕ)). take (length p - 1) p) (sym e)

pub own_leaf : (name : List ℕ) → path_of name ≡ name ∷ [] → name ≡ leaf_of name
own_leaf name e = ap (λ (p : List (List ℕ)). get_or p (length p - 1) []) (sym e)

pub all_but_last : {B : Type 0} (f : B → List ℕ) (name : List ℕ) (items : List B) → map f items ≡ path_of name
    → map f (take (length items - 1) items) ≡ scopes_of name
all_but_last f name items e =
    sym (take-map f (length items - 1) items) ∙ ap (λ (n : ℕ). take (n - 1) (map f items)) (sym (length-map items f))
    ∙ ap (λ (p : List (List ℕ)). take (length p - 1) p) e

pub last_piece : {B : Type 0} (f : B → List ℕ) (name : List ℕ) (items : List B) (d : B) → map f items ≡ path_of name
    → 0 < length items → f (get_or items (length items - 1) d) ≡ leaf_of name
last_piece f name items d e some =
    sym (get_or-map f items (length items - 1) d [] (omega arith))
    ∙ ap (λ (n : ℕ). get_or (map f items) (n - 1) []) (sym (length-map items f))
    ∙ ap (λ (p : List (List ℕ)). get_or p (length p - 1) []) e

pub some_piece : {B : Type 0} (f : B → List ℕ) (name : List ℕ) (items : List B) → map f items ≡ cut_at 46 name → 0 < length items
some_piece f name items e =
    omega (arith, ap length e, length-map items f, length-slice_split (λ b. b == 46) name)

-- one scope more is closed
pub closings_more : (n : ℕ) → closings n ++ (codes "$upscope $end" ++ 10 ∷ []) ≡ closings (n + 1)
unfolding closings
closings_more zero = refl
closings_more (suc n) =
    append_assoc (codes "$upscope $end") (10 ∷ closings n) (codes "$upscope $end" ++ 10 ∷ [])
    ∙ ap (λ (xs : List ℕ). codes "$upscope $end" ++ (10 ∷ xs)) (closings_more n ∙ ap closings (add-one n)) ∙ ap closings (sym (add-one (suc n)))

pub closings_none : closings 0 ≡ []
unfolding closings
closings_none = refl

-- a text that goes on
pub append_then : (old a c x rest : List ℕ) → a ≡ old ++ x → c ≡ a ++ rest → c ≡ old ++ (x ++ rest)
append_then old a c x rest h k = k ∙ ap (λ (xs : List ℕ). xs ++ rest) h ∙ append_assoc old x rest

-- the next two scopes
shared_same : (a b : List ℕ) (xs ys : List (List ℕ)) → bytes_eq a b ≡ true → shared (a ∷ xs) (b ∷ ys) ≡ shared xs ys + 1
unfolding shared
shared_same a b xs ys e = rw e refl

shared_other : (a b : List ℕ) (xs ys : List (List ℕ)) → bytes_eq a b ≡ false → shared (a ∷ xs) (b ∷ ys) ≡ 0
unfolding shared
shared_other a b xs ys e = rw e refl

shared_left : (ys : List (List ℕ)) → shared [] ys ≡ 0
unfolding shared
shared_left ys = refl

shared_right : (xs : List (List ℕ)) → shared xs [] ≡ 0
unfolding shared
shared_right [] = refl
shared_right (a ∷ xs) = refl

abbrev pub shared_from : {B : Type 0} → (B → List ℕ) → List B → List B → ℕ → ℕ
shared_from f xs ys i = shared (map f (drop i xs)) (map f (drop i ys))

pub shared_more : {B : Type 0} (f : B → List ℕ) (xs ys : List B) (i : ℕ) (d e : B) → i < length xs → i < length ys
    → bytes_eq (f (get_or xs i d)) (f (get_or ys i e)) ≡ true → shared_from f xs ys i ≡ shared_from f xs ys (i + 1) + 1
shared_more f xs ys i d e lx ly same =
    rw (drop_more xs i d lx, drop_more ys i e ly)
    (shared_same (f (get_or xs i d)) (f (get_or ys i e)) (map f (drop (i + 1) xs)) (map f (drop (i + 1) ys)) same)

pub shared_stops : {B : Type 0} (f : B → List ℕ) (xs ys : List B) (i : ℕ) (d e : B) → i < length xs → i < length ys
    → bytes_eq (f (get_or xs i d)) (f (get_or ys i e)) ≡ false → shared_from f xs ys i ≡ 0
shared_stops f xs ys i d e lx ly other =
    rw (drop_more xs i d lx, drop_more ys i e ly)
    (shared_other (f (get_or xs i d)) (f (get_or ys i e)) (map f (drop (i + 1) xs)) (map f (drop (i + 1) ys)) other)

pub shared_no_left : {B : Type 0} (f : B → List ℕ) (xs ys : List B) (i : ℕ) → length xs ≤ i → shared_from f xs ys i ≡ 0
shared_no_left f xs ys i le = rw (drop_all i xs le) (shared_left (map f (drop i ys)))

pub shared_no_right : {B : Type 0} (f : B → List ℕ) (xs ys : List B) (i : ℕ) → length ys ≤ i → shared_from f xs ys i ≡ 0
shared_no_right f xs ys i le = rw (drop_all i ys le) (shared_right (map f (drop i xs)))

-- one piece more
pub pieces_more : {B : Type 0} (f : B → List ℕ) (items new : List B) (piece : B) (left left' all : List (List ℕ))
    → new ≡ items ++ piece ∷ [] → left ≡ f piece ∷ left' → map f items ++ left ≡ all → map f new ++ left' ≡ all
pieces_more {B} f items new piece left left' all is cut h =
    ap (λ (xs : List B). map f xs ++ left') is ∙ ap (λ (xs : List (List ℕ)). xs ++ left') (map-append f items (piece ∷ []))
    ∙ append_assoc (map f items) (f piece ∷ []) left' ∙ ap (λ (xs : List (List ℕ)). map f items ++ xs) (sym cut) ∙ h

-- a piece that goes on
pub none_more : (name : List ℕ) (start place : ℕ) → ((k : ℕ) → start ≤ k → k < place → get_or name k 0 ≢ 46)
    → get_or name place 0 ≢ 46 → (k : ℕ) → start ≤ k → k < place + 1 → get_or name k 0 ≢ 46
none_more name start place none here k le lt = elim (cases_lt k place) [
  | inl below ↦ none k le below
  | inr above ↦ let same : k ≡ place = omega arith in rw same here
]

pub same_piece : {B : Type 0} (f : B → List ℕ) (items new : List B) (left left' all : List (List ℕ)) → new ≡ items → left ≡ left'
    → map f items ++ left ≡ all → map f new ++ left' ≡ all
same_piece f items new left left' all is cut h = rw (is, ← cut) h

-- one scope more is opened
pub scopes_more : {B : Type 0} (f : B → List ℕ) (xs : List B) (i : ℕ) (d : B) → i < length xs → (text new all : List ℕ)
    → new ≡ text ++ scope_line (f (get_or xs i d)) → text ++ flat_map scope_line (map f (drop i xs)) ≡ all
    → new ++ flat_map scope_line (map f (drop (i + 1) xs)) ≡ all
scopes_more f xs i d lt text new all is h =
    ap (λ (t : List ℕ). t ++ flat_map scope_line (map f (drop (i + 1) xs))) is
    ∙ append_assoc text (scope_line (f (get_or xs i d))) (flat_map scope_line (map f (drop (i + 1) xs)))
    ∙ ap (λ ys. text ++ flat_map scope_line (map f ys)) (sym (drop_more xs i d lt)) ∙ h

pub moves_are : {B : Type 0} (f : B → List ℕ) (xs ys : List B) (n : ℕ) → n ≡ shared (map f xs) (map f ys) → n ≤ length ys
    → closings (length xs - n) ++ flat_map scope_line (map f (take (length ys - n) (drop n ys))) ≡ moves (map f xs) (map f ys)
moves_are f xs ys n e le =
    let k : ℕ = shared (map f xs) (map f ys) in
    let rest : take (length ys - n) (drop n ys) ≡ drop n ys = take_all (length ys - n) (drop n ys) (omega (arith, length-drop n ys)) in
    ap (λ zs. closings (length xs - n) ++ flat_map scope_line (map f zs)) rest
    ∙ ap (λ zs. closings (length xs - n) ++ flat_map scope_line zs) (sym (drop-map f n ys))
    ∙ ap (λ (m : ℕ). closings (m - n) ++ flat_map scope_line (drop n (map f ys))) (sym (length-map xs f))
    ∙ ap (λ (m : ℕ). closings (length (map f xs) - m) ++ flat_map scope_line (drop m (map f ys))) e

-- The names of a section: each name of each entry, with its signal.
use Rattle.std.proofs.Common.{◌≡◌, ◌⊎◌, ℕ, zero, suc, ◌+◌, ◌<◌, true, false, List, [], ◌∷◌, ◌++◌, map, Contains, refl}
use Rattle.std.proofs.Common.{sym, ap, ◌∙◌, subst, arith, inl, inr}
use Rattle.std.specs.Prelude.{if◌then◌else◌, flat_map}
use Rattle.std.proofs.lemmas.Bool.{cases_lt}
use Rattle.std.proofs.lemmas.List.{append-nil, length-map, get_or-map}
use Rattle.std.proofs.lemmas.List.Concat.{flat_map-append}
use Rattle.std.proofs.lemmas.List.Elements.{Contains-append_left, Contains-append_right, Contains-append_cases}
use Rattle.aig_parts.specs.declared.symbols.Kind.{Kind}
use Rattle.aig_parts.specs.SymbolPlaces.{Key}
use Rattle.aig_names.specs.Names.{names_of}
use Rattle.aig_names.specs.Signals.{entries, put_in_front, columns, section_names}
use Rattle.aig_names.specs.Vectors.{goes_on, turned, turned_after}

-- ---- elements of lists
pub here : {X : Type 0} (x : X) (xs : List X) → Contains (x ∷ xs) x
here x xs = (0, omega arith, refl)

pub there : {X : Type 0} (y : X) (xs : List X) (x : X) → Contains xs x → Contains (y ∷ xs) x
there y xs x h = Contains-append_right (y ∷ []) xs x h

pub here_or_there : {X : Type 0} (y : X) (xs : List X) (x : X) → Contains (y ∷ xs) x → (y ≡ x) ⊎ Contains xs x
here_or_there y xs x (zero, lt, e) = inl e
here_or_there y xs x (suc k, lt, e) = inr (k, omega (arith, lt), e)

-- two lists with the same elements
pub record IsSame {X : Type 0} (xs ys : List X) : Type 0 where
  pub to : (x : X) → Contains xs x → Contains ys x
  pub from : (x : X) → Contains ys x → Contains xs x

same : {X : Type 0} (xs ys : List X) → xs ≡ ys → IsSame xs ys
same xs ys e = record {
  to = λ x h. subst (λ zs. Contains zs x) e h;
  from = λ x h. subst (λ zs. Contains zs x) (sym e) h;
}

chained : {X : Type 0} (xs ys zs : List X) → IsSame xs ys → IsSame ys zs → IsSame xs zs
chained xs ys zs h k = record { to = λ x c. k.to x (h.to x c); from = λ x c. h.from x (k.from x c) }

append_to : {X : Type 0} (ws xs ys zs : List X) → ((x : X) → Contains ws x → Contains ys x)
    → ((x : X) → Contains xs x → Contains zs x) → (x : X) → Contains (ws ++ xs) x → Contains (ys ++ zs) x
append_to ws xs ys zs f g x h = elim (Contains-append_cases ws xs x h) [
  | inl l ↦ Contains-append_left ys zs x (f x l)
  | inr r ↦ Contains-append_right ys zs x (g x r)
]

appended : {X : Type 0} (ws xs ys zs : List X) → IsSame ws ys → IsSame xs zs → IsSame (ws ++ xs) (ys ++ zs)
appended ws xs ys zs h k = record {
  to = append_to ws xs ys zs h.to k.to;
  from = append_to ys zs ws xs h.from k.from;
}

swap_to : {X : Type 0} (ws xs ys : List X) (x : X) → Contains (ws ++ (xs ++ ys)) x → Contains (xs ++ (ws ++ ys)) x
swap_to ws xs ys x h = elim (Contains-append_cases ws (xs ++ ys) x h) [
  | inl l ↦ Contains-append_right xs (ws ++ ys) x (Contains-append_left ws ys x l)
  | inr r ↦ elim (Contains-append_cases xs ys x r) [
    | inl l ↦ Contains-append_left xs (ws ++ ys) x l
    | inr r ↦ Contains-append_right xs (ws ++ ys) x (Contains-append_right ws ys x r)
  ]
]

swapped : {X : Type 0} (ws xs ys : List X) → IsSame (ws ++ (xs ++ ys)) (xs ++ (ws ++ ys))
swapped ws xs ys = record { to = swap_to ws xs ys; from = swap_to xs ws ys }

pub in_map : {X Y : Type 0} (f : X → Y) (xs : List X) (x : X) → Contains xs x → Contains (map f xs) (f x)
in_map f xs x h =
    (h.0, omega (arith, h.1, length-map xs f), get_or-map f xs h.0 x (f x) h.1 ∙ ap f h.2)

pub from_map : {X Y : Type 0} (f : X → Y) (xs : List X) (y : Y) → Contains (map f xs) y
    → (x : X) × Contains xs x × (f x ≡ y)
from_map f [] y h = absurd (omega (arith, h.1))
from_map f (x ∷ xs) y h = elim (here_or_there (f x) (map f xs) y h) [
  | inl e ↦ (x, here x xs, e)
  | inr r ↦ let m = from_map f xs y r in (m.0, there x xs m.0 m.1, m.2)
]

-- ---- runs of bits
turned_same : (run signals : List (ℕ × List ℕ)) → IsSame (turned_after run signals) (run ++ signals)
unfolding turned_after
turned_same run [] = same run (run ++ []) (sym (append-nil run))
turned_same run (signal ∷ signals) =
    elim (goes_on run signal)
    as (λ b. IsSame (if b then turned_after (signal ∷ run) signals else run ++ turned_after (signal ∷ []) signals)
    (run ++ signal ∷ signals)) [
      | true ↦
          chained (turned_after (signal ∷ run) signals) ((signal ∷ []) ++ (run ++ signals))
          (run ++ ((signal ∷ []) ++ signals))
          (turned_same (signal ∷ run) signals) (swapped (signal ∷ []) run signals)
      | false ↦ appended run (turned_after (signal ∷ []) signals) run (signal ∷ signals) (same run run refl)
          (turned_same (signal ∷ []) signals)
    ]

-- ---- columns
abbrev joined : List (List (ℕ × List ℕ)) → List (ℕ × List ℕ)
joined [] = []
joined (col ∷ cols) = col ++ joined cols

front_same : (xs : List (ℕ × List ℕ)) (cols : List (List (ℕ × List ℕ)))
    → IsSame (joined (put_in_front xs cols)) (xs ++ joined cols)
front_same [] cols = same (joined cols) (joined cols) refl
front_same (x ∷ xs) [] =
    appended (x ∷ []) (joined (put_in_front xs [])) (x ∷ []) (xs ++ []) (same (x ∷ []) (x ∷ []) refl) (front_same xs [])
front_same (x ∷ xs) (col ∷ cols) =
    let rest : List (ℕ × List ℕ) = joined (put_in_front xs cols) in
    chained ((x ∷ col) ++ rest) ((x ∷ col) ++ (xs ++ joined cols)) ((x ∷ xs) ++ (col ++ joined cols))
    (appended (x ∷ col) rest (x ∷ col) (xs ++ joined cols) (same (x ∷ col) (x ∷ col) refl) (front_same xs cols))
    (appended (x ∷ []) (col ++ (xs ++ joined cols)) (x ∷ []) (xs ++ (col ++ joined cols))
    (same (x ∷ []) (x ∷ []) refl) (swapped col xs (joined cols)))

turned_all : (cols : List (List (ℕ × List ℕ))) → IsSame (flat_map turned cols) (joined cols)
turned_all [] = same [] [] refl
turned_all (col ∷ cols) =
    appended (turned col) (flat_map turned cols) col (joined cols) (turned_same [] col) (turned_all cols)

-- the names of one entry
abbrev named : ℕ × List (List ℕ) → List (ℕ × List ℕ)
named entry = map (λ name. (entry.0, name)) entry.1

columns_same : (es : List (ℕ × List (List ℕ))) → IsSame (joined (columns es)) (flat_map named es)
unfolding columns
columns_same [] = same [] [] refl
columns_same (entry ∷ more) =
    chained (joined (put_in_front (named entry) (columns more))) (named entry ++ joined (columns more))
    (named entry ++ flat_map named more)
    (front_same (named entry) (columns more))
    (appended (named entry) (joined (columns more)) (named entry) (flat_map named more)
    (same (named entry) (named entry) refl) (columns_same more))

section_same : (symbols : List (Key × List ℕ)) (kind : Kind) (n count : ℕ)
    → IsSame (section_names symbols kind n count) (flat_map named (entries symbols kind n count))
unfolding section_names
section_same symbols kind n count =
    let es : List (ℕ × List (List ℕ)) = entries symbols kind n count in
    chained (flat_map turned (columns es)) (joined (columns es)) (flat_map named es) (turned_all (columns es))
    (columns_same es)

-- ---- entries
-- a name of an entry of a section, with its signal
pub record IsNamed (symbols : List (Key × List ℕ)) (kind : Kind) (n count : ℕ) (x : ℕ × List ℕ) : Type 0 where
  pub position : ℕ
  pub name : List ℕ
  pub here : position < count
  pub name_is : Contains (names_of symbols kind position) name
  pub is : (n + position, name) ≡ x

entries_more : (symbols : List (Key × List ℕ)) (kind : Kind) (n p : ℕ)
    → flat_map named (entries symbols kind n (suc p))
    ≡ flat_map named (entries symbols kind n p) ++ map (λ name. (n + p, name)) (names_of symbols kind p)
unfolding entries
entries_more symbols kind n p =
    let last : List (ℕ × List ℕ) = map (λ name. (n + p, name)) (names_of symbols kind p) in
    flat_map-append named (entries symbols kind n p) ((n + p, names_of symbols kind p) ∷ [])
    ∙ ap (λ (xs : List (ℕ × List ℕ)). flat_map named (entries symbols kind n p) ++ xs) (append-nil last)

in_entries : (symbols : List (Key × List ℕ)) (kind : Kind) (n count p : ℕ) (name : List ℕ) → p < count
    → Contains (names_of symbols kind p) name → Contains (flat_map named (entries symbols kind n count)) (n + p, name)
in_entries symbols kind n zero p name lt h = absurd (omega arith)
in_entries symbols kind n (suc count) p name lt h =
    let front : List (ℕ × List ℕ) = flat_map named (entries symbols kind n count) in
    let last : List (ℕ × List ℕ) = map (λ name. (n + count, name)) (names_of symbols kind count) in
    subst (λ xs. Contains xs (n + p, name)) (sym (entries_more symbols kind n count))
    (elim (cases_lt p count) [
      | inl below ↦ Contains-append_left front last (n + p, name) (in_entries symbols kind n count p name below h)
      | inr ge ↦
          let e : p ≡ count = omega arith in
          let is : Contains (names_of symbols kind count) name =
          subst (λ q. Contains (names_of symbols kind q) name) e h in
          Contains-append_right front last (n + p, name)
          (subst (λ q. Contains last (n + q, name)) (sym e)
          (in_map (λ name. (n + count, name)) (names_of symbols kind count) name is))
    ])

from_entries : (symbols : List (Key × List ℕ)) (kind : Kind) (n count : ℕ) (x : ℕ × List ℕ)
    → Contains (flat_map named (entries symbols kind n count)) x → IsNamed symbols kind n count x
unfolding entries
from_entries symbols kind n zero x h = absurd (omega (arith, h.1))
from_entries symbols kind n (suc count) x h =
    let front : List (ℕ × List ℕ) = flat_map named (entries symbols kind n count) in
    let last : List (ℕ × List ℕ) = map (λ name. (n + count, name)) (names_of symbols kind count) in
    elim (Contains-append_cases front last x (subst (λ xs. Contains xs x) (entries_more symbols kind n count) h)) [
      | inl l ↦
          let r = from_entries symbols kind n count x l in
          record { position = r.position; name = r.name; here = omega (arith, r.here); name_is = r.name_is; is = r.is }
      | inr r ↦
          let m = from_map (λ (name : List ℕ). (n + count, name)) (names_of symbols kind count) x r in
          record { position = count; name = m.0; here = omega arith; name_is = m.1; is = m.2 }
    ]

-- ---- sections
pub named_in_section : (symbols : List (Key × List ℕ)) (kind : Kind) (n count p : ℕ) (name : List ℕ) → p < count
    → Contains (names_of symbols kind p) name → Contains (section_names symbols kind n count) (n + p, name)
named_in_section symbols kind n count p name lt h =
    (section_same symbols kind n count).from (n + p, name) (in_entries symbols kind n count p name lt h)

pub named_of_section : (symbols : List (Key × List ℕ)) (kind : Kind) (n count : ℕ) (x : ℕ × List ℕ)
    → Contains (section_names symbols kind n count) x → IsNamed symbols kind n count x
named_of_section symbols kind n count x h =
    from_entries symbols kind n count x ((section_same symbols kind n count).to x h)

pub no_names : (symbols : List (Key × List ℕ)) (kind : Kind) (n : ℕ) → section_names symbols kind n 0 ≡ []
unfolding section_names entries columns
no_names symbols kind n = refl

-- Strings and arrays of JSON, piece by piece.
use Rattle.std.proofs.Common.{◌≡◌, ℕ, zero, suc, ◌+◌, ◌<◌, ◌≤◌, true, false, List, [], ◌∷◌, ◌++◌, length, get_or}
use Rattle.std.proofs.Common.{map, set, Some, take, drop, inl, inr, refl, sym, ap, ◌∙◌, arith, append_assoc, append-nil}
use Rattle.std.specs.Prelude.{flat_map, decimal, slice_get}
use Rattle.std.specs.Str.{IsUtf8, is_utf8}
use Rattle.std.proofs.lemmas.Bool.{cases_Bool}
use Rattle.std.proofs.lemmas.Str.{IsUtf8-from_is_utf8}
use Rattle.std.proofs.lemmas.Grind.{flat_map-append}
use Rattle.std.proofs.lemmas.List.{flat_map_more, take_more, take_all, drop_all}
use Rattle.aig_signals.specs.Json.{array_text, comma_before, name_text, string_text}
use Rattle.aig_signals.specs.state.Json.{opened}

-- an element that is there
pub there_at : {X : Type 0} (xs : List X) (i : ℕ) → i < length xs → (x : X) × (slice_get xs i ≡ Some x)
there_at [] i lt = absurd (omega (arith, lt))
there_at (x ∷ xs) zero lt = (x, refl)
there_at (x ∷ xs) (suc i) lt = there_at xs i (omega (arith, lt))

-- one piece after the other
pub adds_then : (old mid new first second : List ℕ) → mid ≡ old ++ first → new ≡ mid ++ second → new ≡ old ++ (first ++ second)
adds_then old mid new first second before after =
    after ∙ ap (λ (t : List ℕ). t ++ second) before ∙ append_assoc old first second

-- one byte more of a string
pub bytes_more : (f : ℕ → List ℕ) (start before now bytes : List ℕ) (i : ℕ) → i < length bytes → now ≡ before ++ f (get_or bytes i 0)
    → before ≡ start ++ flat_map f (take i bytes) → now ≡ start ++ flat_map f (take (i + 1) bytes)
bytes_more f start before now bytes i lt pushed h =
    pushed ∙ ap (λ (xs : List ℕ). xs ++ f (get_or bytes i 0)) h
    ∙ flat_map_more f start (take i bytes) (get_or bytes i 0)
    ∙ ap (λ (xs : List ℕ). start ++ flat_map f xs) (sym (take_more bytes i 0 lt))

pub bytes_none : (f : ℕ → List ℕ) (start bytes : List ℕ) → start ≡ start ++ flat_map f (take 0 bytes)
bytes_none f start bytes = sym (append-nil start)

-- all bytes between quotes
pub string_whole : (f : ℕ → List ℕ) (old before new bytes : List ℕ) (i : ℕ) → length bytes ≤ i
    → before ≡ (old ++ 34 ∷ []) ++ flat_map f (take i bytes) → new ≡ before ++ 34 ∷ []
    → new ≡ old ++ (34 ∷ (flat_map f bytes ++ 34 ∷ []))
string_whole f old before new bytes i le h pushed =
    pushed
    ∙ ap (λ (xs : List ℕ). xs ++ 34 ∷ []) (h ∙ ap (λ (ys : List ℕ). (old ++ 34 ∷ []) ++ flat_map f ys) (take_all i bytes le))
    ∙ append_assoc (old ++ 34 ∷ []) (flat_map f bytes) (34 ∷ []) ∙ append_assoc old (34 ∷ []) (flat_map f bytes ++ 34 ∷ [])

-- the first comma becomes the bracket
pub opened_none : (text : List ℕ) (n : ℕ) → length text ≡ n → text ++ 91 ∷ [] ≡ take n text ++ opened (drop n text)
opened_none text n is =
    ap (λ (xs : List ℕ). xs ++ 91 ∷ []) (sym (take_all n text (omega (arith, is))))
    ∙ ap (λ (xs : List ℕ). take n text ++ opened xs) (sym (drop_all n text (omega (arith, is))))

pub opened_some : (text : List ℕ) (n : ℕ) → n < length text → set text n 91 ≡ take n text ++ opened (drop n text)
opened_some [] n lt = absurd (omega (arith, lt))
opened_some (byte ∷ text) zero lt = refl
opened_some (byte ∷ text) (suc n) lt = ap (λ (xs : List ℕ). byte ∷ xs) (opened_some text n (omega (arith, lt)))

-- an array, from its elements each after a comma
array_opened : (xs : List (List ℕ)) → opened (flat_map comma_before xs) ++ 93 ∷ [] ≡ array_text xs
array_opened [] = refl
array_opened (x ∷ xs) = ap (λ (ys : List ℕ). 91 ∷ ys) (append_assoc x (flat_map comma_before xs) (93 ∷ []))

take_front : (xs ys : List ℕ) → take (length xs) (xs ++ ys) ≡ xs
take_front [] ys = refl
take_front (x ∷ xs) ys = ap (λ (zs : List ℕ). x ∷ zs) (take_front xs ys)

drop_front : (xs ys : List ℕ) → drop (length xs) (xs ++ ys) ≡ ys
drop_front [] ys = refl
drop_front (x ∷ xs) ys = drop_front xs ys

-- the whole array, of two lists of elements, and what comes after it
pub array_whole : (old first second third new : List ℕ) (n : ℕ) (xs ys : List (List ℕ)) (rest : List ℕ) → n ≡ length old
    → first ≡ old ++ flat_map comma_before xs → second ≡ first ++ flat_map comma_before ys
    → third ≡ take n second ++ opened (drop n second) → new ≡ third ++ (93 ∷ rest) → new ≡ old ++ (array_text (xs ++ ys) ++ rest)
array_whole old first second third new n xs ys rest size is_first is_second is_third is_new =
    is_new ∙ ap (λ (t : List ℕ). t ++ (93 ∷ rest)) (is_third ∙ opened_there)
    ∙ append_assoc old (opened all) (93 ∷ rest)
    ∙ ap (λ (t : List ℕ). old ++ t) (sym (append_assoc (opened all) (93 ∷ []) rest))
    ∙ ap (λ (t : List ℕ). old ++ (t ++ rest)) (array_opened (xs ++ ys))
  where
    all : List ℕ
    all = flat_map comma_before (xs ++ ys)

    second_is : second ≡ old ++ all
    second_is =
        is_second ∙ ap (λ (t : List ℕ). t ++ flat_map comma_before ys) is_first
        ∙ append_assoc old (flat_map comma_before xs) (flat_map comma_before ys)
        ∙ ap (λ (t : List ℕ). old ++ t) (sym (flat_map-append comma_before xs ys))

    opened_there : take n second ++ opened (drop n second) ≡ old ++ opened all
    opened_there =
        ap (λ (k : ℕ). take k second ++ opened (drop k second)) size
        ∙ ap (λ (t : List ℕ). take (length old) t ++ opened (drop (length old) t)) second_is
        ∙ ap (λ (t : List ℕ). t ++ opened (drop (length old) (old ++ all))) (take_front old all)
        ∙ ap (λ (t : List ℕ). old ++ opened t) (drop_front old all)

-- how a name is written
pub name_string : (name : List ℕ) (b : ℕ) (bs : List ℕ) → name ≡ b ∷ bs → is_utf8 name ≡ true → string_text name ≡ name_text name
name_string [] b bs is text = absurd (cc is)
name_string (c ∷ cs) b bs is text = rw text refl

other_name : (b : ℕ) (bs : List ℕ) → is_utf8 (b ∷ bs) ≡ false → array_text (map decimal (b ∷ bs)) ≡ name_text (b ∷ bs)
other_name b bs h = rw h refl

pub name_array : (name : List ℕ) (b : ℕ) (bs : List ℕ) → name ≡ b ∷ bs → (IsUtf8 name → ⊥)
    → array_text (map decimal (b ∷ bs)) ≡ name_text name
name_array [] b bs is not_text = absurd (cc is)
name_array (c ∷ cs) b bs is not_text = elim (cases_Bool (is_utf8 (c ∷ cs))) [
  | inl text ↦ absurd (not_text (IsUtf8-from_is_utf8 (c ∷ cs) text))
  | inr other ↦
      ap (λ (xs : List ℕ). array_text (map decimal xs)) (sym is) ∙ other_name c cs other
]

-- Texts that are filled from a place on, one character a literal.
use Rattle.std.proofs.Common.{◌≡◌, ℕ, ◌+◌, ◌<◌, List, [], ◌∷◌, ◌++◌, length, map, take, Some, slice_get, slice_set, sym}
use Rattle.std.proofs.Common.{ap, ◌∙◌, append_assoc, arith}
use Rattle.std.proofs.lemmas.List.{take_more, take_more_set, map_push}
use Rattle.std.proofs.lemmas.Option.{slice_get_within, get_or_from_slice_get}

-- one character more
pub filled_more : (f : ℕ → ℕ) (literals text old : List ℕ) (at i l : ℕ) → at + i < length text
    → slice_get literals i ≡ Some l → take (at + i) text ≡ take at old ++ map f (take i literals)
    → take (at + (i + 1)) (slice_set text (at + i) (f l)) ≡ take at old ++ map f (take (i + 1) literals)
filled_more f literals text old at i l lt is e =
    let next : at + (i + 1) ≡ at + i + 1 = omega arith in
    let taken : take (i + 1) literals ≡ take i literals ++ l ∷ [] =
    take_more literals i 0 (slice_get_within literals i l is)
    ∙ ap (λ (x : ℕ). take i literals ++ x ∷ []) (get_or_from_slice_get literals i l 0 is) in
    rw next (take_more_set text (at + i) (f l) lt ∙ ap (λ (t : List ℕ). t ++ f l ∷ []) e
    ∙ append_assoc (take at old) (map f (take i literals)) (f l ∷ [])
    ∙ ap (λ (t : List ℕ). take at old ++ t) (sym (map_push f (take i literals) l) ∙ ap (map f) (sym taken)))

-- a line that is filled field by field
pub four_fields : (t1 t2 t3 t4 a b c d a' b' c' d' : List ℕ) → t1 ≡ a → t2 ≡ t1 ++ b → t3 ≡ t2 ++ c → t4 ≡ t3 ++ d
    → a ≡ a' → b ≡ b' → c ≡ c' → d ≡ d' → t4 ≡ a' ++ (b' ++ (c' ++ d'))
four_fields t1 t2 t3 t4 a b c d a' b' c' d' e1 e2 e3 e4 ea eb ec ed =
    e4 ∙ ap (λ (t : List ℕ). t ++ d) (e3 ∙ ap (λ (t : List ℕ). t ++ c) (e2 ∙ ap (λ (t : List ℕ). t ++ b) e1))
    ∙ append_assoc (a ++ b) c d ∙ append_assoc a b (c ++ d)
    ∙ ap (λ (t : List ℕ). t ++ (b ++ (c ++ d))) ea ∙ ap (λ (t : List ℕ). a' ++ (t ++ (c ++ d))) eb
    ∙ ap (λ (t : List ℕ). a' ++ (b' ++ (t ++ d))) ec ∙ ap (λ (t : List ℕ). a' ++ (b' ++ (c' ++ t))) ed

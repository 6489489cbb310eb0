-- Bytes that wait in a place of fixed room, and where they have gone.
use Rattle.std.proofs.Common.{◌≡◌, ℕ, ◌+◌, ◌<◌, ◌≤◌, Bool, true, false, List, [], ◌∷◌, ◌++◌, length, take, drop, sym}
use Rattle.std.proofs.Common.{ap, ◌∙◌, append_assoc, arith}
use Rattle.std.proofs.Common.{refl, subst, take-take}
use Rattle.std.proofs.Math.Seq.{take-append_seam, take-append-add}
use Rattle.std.proofs.Math.ListN.{set}
use Rattle.std.specs.Prelude.{Option}
use Rattle.std.proofs.lemmas.List.{append-nil, take-append-drop, drop-append-le, length-take-le, take-set}
use Rattle.std.proofs.lemmas.List.{take_more_set}
use Rattle.std.proofs.lemmas.Grind.{take-set_at}
use Rattle.std.proofs.lemmas.Slice.{take-put_mid}
use borrow.Rule.Slice.PartMut.{put_mid}
use mir.Val.{bool_byte}
use Rattle.aig_bytes.specs.Bytes.{after}
use Rattle.aig_bytes.specs.Term.{minus, term_text}
use Rattle.aig_bytes.proofs.WriteLemmas.{after-append}

-- bytes that are put in at the end
pub put_in : (start end n : ℕ) (place place' new : List ℕ) → start ≤ end → end ≤ length place → take n place' ≡ take end place ++ new
    → drop start (take n place') ≡ drop start (take end place) ++ new
put_in start end n place place' new front fits e =
    ap (drop start) e ∙ drop-append-le start (take end place) new (omega (arith, length-take-le end place fits))

-- the first bytes of a piece that is put in at a place
put_first : (at k n : ℕ) (place new : List ℕ) → at ≤ length place → n ≤ length new
    → take (at + n) (put_mid at k place new) ≡ take at place ++ take n new
put_first at k n place new fits le =
    sym (take-take (at + n) (at + length new) (put_mid at k place new) (omega arith))
    ∙ ap (take (at + n)) (take-put_mid at k place new (at + length new) refl fits)
    ∙ ap (λ (j : ℕ). take (j + n) (take at place ++ new)) (sym (length-take-le at place fits))
    ∙ take-append-add (take at place) new n

-- the first bytes of two pieces, one after the other
pub put_in_firsts : (start end j k n m : ℕ) (place one two : List ℕ) → start ≤ end → end ≤ length place → n ≤ length one
    → m ≤ length two → end + n ≤ length (put_mid end j place one)
    → drop start (take (end + n + m) (put_mid (end + n) k (put_mid end j place one) two))
    ≡ drop start (take end place) ++ (take n one ++ take m two)
put_in_firsts start end j k n m place one two front fits le more room =
    put_in start end (end + n + m) place (put_mid (end + n) k (put_mid end j place one) two) (take n one ++ take m two)
    front fits
    (put_first (end + n) k m (put_mid end j place one) two room more
    ∙ ap (λ (xs : List ℕ). xs ++ take m two) (put_first end j n place one fits le)
    ∙ append_assoc (take end place) (take n one) (take m two))

pub sign_size : (is_negative : Bool) → bool_byte is_negative ≤ 1
sign_size true = let one : bool_byte true ≡ 1 = refl in omega (arith, one)
sign_size false = let none : bool_byte false ≡ 0 = refl in omega (arith, none)

-- a minus at a place, which stays where what follows is put after it
sign_before : (is_negative : Bool) (at n : ℕ) (place : List ℕ) → n ≡ bool_byte is_negative → at < length place
    → take (at + n) (set place at 45) ≡ take at place ++ minus is_negative
sign_before true at n place e fits =
    let one : n ≡ 1 = e in take-set_at place at (at + n) 45 (omega (arith, one)) fits
sign_before false at n place e fits =
    let none : n ≡ 0 = e in
    ap (λ (j : ℕ). take j (set place at 45)) (omega (arith, none)) ∙ take-set place at 45 ∙ sym (append-nil (take at place))

-- a sign, the first of some digits after it, and a space
pub put_term : (is_negative : Bool) (at n k count : ℕ) (place digits : List ℕ) → n ≡ bool_byte is_negative → at < length place
    → at + n ≤ length (set place at 45) → count ≤ length digits → at + n + count < length (put_mid (at + n) k (set place at 45) digits)
    → take (at + n + count + 1) (set (put_mid (at + n) k (set place at 45) digits) (at + n + count) 32)
    ≡ take at place ++ term_text (is_negative, take count digits)
put_term is_negative at n k count place digits e fits room le more =
    let sign = minus is_negative in
    let front = take at place in
    take_more_set (put_mid (at + n) k (set place at 45) digits) (at + n + count) 32 more
    ∙ ap (λ (xs : List ℕ). xs ++ 32 ∷ [])
    (put_first (at + n) k count (set place at 45) digits room le
    ∙ ap (λ (xs : List ℕ). xs ++ take count digits) (sign_before is_negative at n place e fits))
    ∙ append_assoc (front ++ sign) (take count digits) (32 ∷ [])
    ∙ append_assoc front sign (take count digits ++ 32 ∷ [])

-- digits that were written up to a place, and a byte after them
pub put_back : (start at last e : ℕ) (place place' ds : List ℕ) → at ≤ length place → last ≡ at + length ds
    → start + length ds ≡ last → last < length place' → drop start place' ≡ ds ++ drop last place
    → take start place' ≡ take start place → take (last + 1) (set place' last e) ≡ take at place ++ (ds ++ e ∷ [])
put_back start at last e place place' ds fits size there room suffix before =
    let same : start ≡ at = omega arith in
    let suffix : drop at place' ≡ ds ++ drop last place = subst (λ (j : ℕ). drop j place' ≡ ds ++ drop last place) same suffix in
    let before : take at place' ≡ take at place = subst (λ (j : ℕ). take j place' ≡ take j place) same before in
    let all : place' ≡ take at place ++ (ds ++ drop last place) =
    sym (take-append-drop at place') ∙ ap (λ (xs : List ℕ). xs ++ drop at place') before ∙ ap (λ (xs : List ℕ). take at place ++ xs) suffix in
    let size : last ≡ length (take at place) + length ds = omega (arith, size, length-take-le at place fits) in
    let digits : take last place' ≡ take at place ++ ds =
    ap (take last) all ∙ ap (λ (j : ℕ). take j (take at place ++ (ds ++ drop last place))) size
    ∙ take-append-add (take at place) (ds ++ drop last place) (length ds)
    ∙ ap (λ (xs : List ℕ). take at place ++ xs) (take-append_seam ds (drop last place)) in
    take_more_set place' last e room ∙ ap (λ (xs : List ℕ). xs ++ e ∷ []) digits ∙ append_assoc (take at place) ds (e ∷ [])

-- a byte, what was written after it, a name and a byte after that
pub put_symbol : (start end l at k last e : ℕ) (place written name field : List ℕ) → start ≤ end → end < length place
    → take at written ≡ take (end + 1) (set place end l) ++ field → last ≡ at + length name → at ≤ length written
    → last < length (put_mid at k written name)
    → drop start (take (last + 1) (set (put_mid at k written name) last e))
    ≡ drop start (take end place) ++ (l ∷ field ++ name ++ e ∷ [])
put_symbol start end l at k last e place written name field front fits before size here room =
    let all = take end place in
    put_in start end (last + 1) place (set (put_mid at k written name) last e) (l ∷ field ++ name ++ e ∷ []) front (omega (arith, fits))
    (take_more_set (put_mid at k written name) last e room
    ∙ ap (λ (xs : List ℕ). xs ++ e ∷ [])
    (take-put_mid at k written name last size here
    ∙ ap (λ (xs : List ℕ). xs ++ name) (before ∙ ap (λ (xs : List ℕ). xs ++ field) (take_more_set place end l fits) ∙ append_assoc all (l ∷ []) field)
    ∙ append_assoc all (l ∷ field) name)
    ∙ append_assoc all (l ∷ field ++ name) (e ∷ []))

-- what is passed on after all that was held
pub straight_on : (held front none taken : List ℕ) → held ++ [] ≡ front ++ none → none ≡ [] → held ++ taken ≡ (front ++ taken) ++ none
straight_on held front none taken e empty =
    let same : held ≡ front = sym (append-nil held) ∙ e ∙ ap (λ (xs : List ℕ). front ++ xs) empty ∙ append-nil front in
    ap (λ (xs : List ℕ). xs ++ taken) same ∙ sym (append-nil (front ++ taken)) ∙ ap (λ (xs : List ℕ). (front ++ taken) ++ xs) (sym empty)

-- what is passed on next leaves the front of what waits
pub split_more : (all front rest : List ℕ) (n : ℕ) → all ≡ front ++ rest → all ≡ (front ++ take n rest) ++ drop n rest
split_more all front rest n e = e ∙ ap (λ (xs : List ℕ). front ++ xs) (sym (take-append-drop n rest)) ∙ sym (append_assoc front (take n rest) (drop n rest))

pub forwarded_more : (start mid new : Option (List ℕ)) (front more : List ℕ) → mid ≡ after start front → new ≡ after mid more → new ≡ after start (front ++ more)
forwarded_more start mid new front more e f = f ∙ ap (λ (w : Option (List ℕ)). after w more) e ∙ after-append start front more

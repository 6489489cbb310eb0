-- What a buffer holds, and what a read puts there.
use Rattle.std.proofs.Common.{◌≡◌, ℕ, suc, ◌+◌, ◌-◌, ◌<◌, ◌≤◌, List, [], ◌∷◌, ◌++◌, length, get_or, take, drop, refl}
use Rattle.std.proofs.Common.{sym}
use Rattle.std.proofs.Common.{ap, subst, ◌∙◌, arith, Option, Some, None}
use Rattle.std.proofs.lemmas.List.{length-drop, length-take-le, drop-drop, drop-take, drop-append-le}
use Rattle.std.proofs.Math.Seq.{drop-cons}
use Rattle.aig_bytes.specs.Bytes.{before, IsAtEnd}
use Rattle.aig_format.specs.state.Held.{held, AreKnownBytes, known}

pub held_front : (buffer more : List ℕ) (s e : ℕ) → s < e → e ≤ length buffer
    → held s e buffer ++ more ≡ get_or buffer s 0 ∷ (held (s + 1) e buffer ++ more)
held_front buffer more s e lt le =
    let k : e - s ≡ suc (e - (s + 1)) = omega arith in
    let long : s < length buffer = omega arith in
    let next : suc s ≡ s + 1 = omega arith in
    let d : drop s buffer ≡ get_or buffer s 0 ∷ drop (s + 1) buffer =
    drop-cons buffer s 0 long ∙ ap (λ (j : ℕ). get_or buffer s 0 ∷ drop j buffer) next in rw (k, d) refl

pub held_none : (buffer more : List ℕ) (s e : ℕ) → e ≤ s → held s e buffer ++ more ≡ more
held_none buffer more s e le = let k : e - s ≡ 0 = omega arith in rw k refl

-- so many are taken
pub held_skip : (buffer more : List ℕ) (s e n : ℕ) → s ≤ e → e ≤ length buffer → n ≤ length (held s e buffer)
    → held (s + n) e buffer ++ more ≡ drop n (held s e buffer ++ more)
held_skip buffer more s e n order within le =
    let all : length (held s e buffer) ≡ e - s = length-take-le (e - s) (drop s buffer) (omega (arith, length-drop s buffer)) in
    let k : e - s ≡ n + (e - (s + n)) = omega arith in
    let unread : held (s + n) e buffer ≡ drop n (held s e buffer) =
    ap (take (e - (s + n))) (sym (drop-drop n s buffer)) ∙ sym (drop-take n (e - (s + n)) (drop s buffer))
    ∙ ap (λ (j : ℕ). drop n (take j (drop s buffer))) (sym k) in
    ap (λ (xs : List ℕ). xs ++ more) unread ∙ sym (drop-append-le n (held s e buffer) more le)

-- before the first read nothing is held
pub first_left : (left : Option (List ℕ)) (bytes buffer : List ℕ) (s e : ℕ) → s ≡ e → left ≡ Some bytes
    → held s e buffer ++ known left ≡ bytes
first_left left bytes buffer s e same is = held_none buffer (known left) s e (omega (arith, same)) ∙ ap known is

pub reported_by : (left : Option (List ℕ)) (bytes : List ℕ) → left ≡ Some bytes → AreKnownBytes left
reported_by left bytes is = subst AreKnownBytes (sym is) tt

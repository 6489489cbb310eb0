-- Frames with a `-` between them.
use Rattle.std.proofs.Common.{◌≡◌, ◌≢◌, ℕ, zero, suc, ◌+◌, ◌<◌, ◌≤◌, ◌^◌, ◌⊎◌, inl, inr, List, [], ◌∷◌, ◌++◌}
use Rattle.std.proofs.Common.{All, take, drop, Some, slice_get, sym, ◌∙◌, ap, arith}
use Rattle.std.specs.Fmt.{decimal}
use Rattle.std.proofs.lemmas.Fmt.{decimal_injective}
use Rattle.std.proofs.lemmas.Option.{slice_get_within}
use Rattle.aig_bytes.proofs.Decimals.{decimal_lacks}
use Rattle.aig_bytes.proofs.Cuts.{split_once, no_split}
use Rattle.aig_shell.specs.Edits.{AreFrames, IsFrame}

-- no dash is in a number
no_dash : (n : ℕ) → All (λ b. b ≢ 45) (decimal n)
no_dash n = decimal_lacks 45 (λ h. omega (arith, h.0)) n

word_split : (at : ℕ) (word : List ℕ) → slice_get word at ≡ Some 45 → word ≡ take at word ++ 45 ∷ drop (suc at) word
word_split at [] h = absurd (omega (arith, slice_get_within [] at 45 h))
word_split zero (x ∷ xs) h =
    let e : x ≡ 45 = cc h in
    ap (λ (z : ℕ). z ∷ xs) e
word_split (suc at) (x ∷ xs) h = ap (λ (zs : List ℕ). x ∷ zs) (word_split at xs h)

pub no_dash_frames : (word : List ℕ) (count first last : ℕ) → count < 2 ^ 32 → All (λ b. b ≢ 45) word → AreFrames word count first last
    → IsFrame word count first
no_dash_frames word count first last small none (inl (e, same), le, lt) = (e, omega (arith, le, lt))
no_dash_frames word count first last small none (inr e, le, lt) =
    absurd (no_split 45 (decimal first) word (decimal last) none (sym e))

pub dash_frames : (word : List ℕ) (at count first last : ℕ) → count < 2 ^ 32 → slice_get word at ≡ Some 45
    → All (λ b. b ≢ 45) (take at word) → AreFrames word count first last
    → (take at word ≡ decimal first) × (drop (at + 1) word ≡ decimal last)
dash_frames word at count first last small dash none (inl (e, same), le, lt) =
    absurd (no_split 45 (take at word) (decimal first) (drop (suc at) word) (no_dash first) (sym (word_split at word dash) ∙ e))
dash_frames word at count first last small dash none (inr e, le, lt) =
    let r = split_once 45 (take at word) (decimal first) (drop (suc at) word) (decimal last) none (no_dash first)
    (sym (word_split at word dash) ∙ e) in
    let s : suc at ≡ at + 1 = omega arith in
    (r.0, ap (λ n. drop n word) (sym s) ∙ r.1)

pub dash_joins : (word : List ℕ) (at first last : ℕ) → slice_get word at ≡ Some 45 → take at word ≡ decimal first
    → drop (at + 1) word ≡ decimal last → word ≡ decimal first ++ 45 ∷ decimal last
dash_joins word at first last dash a b =
    let s : suc at ≡ at + 1 = omega arith in
    word_split at word dash ∙ ap (λ (xs : List ℕ). xs ++ 45 ∷ drop (suc at) word) a
    ∙ ap (λ (ys : List ℕ). decimal first ++ 45 ∷ ys) (ap (λ n. drop n word) s ∙ b)

pub empty_span : (xs ys : List ℕ) (count f l a b : ℕ) → count < 2 ^ 32 → IsFrame xs count f → IsFrame ys count l → xs ≡ decimal a
    → ys ≡ decimal b → a ≤ b → b < count → l < f → ⊥
empty_span xs ys count f l a b small x y e g le lt less =
    let p : a ≡ f = decimal_injective a f (omega (arith, le, lt, small)) (omega (arith, x.1, small)) (sym e ∙ x.0) in
    let q : b ≡ l = decimal_injective b l (omega (arith, lt, small)) (omega (arith, y.1, small)) (sym g ∙ y.0) in
    omega (arith, p, q, le, less)

-- all that is left of a word

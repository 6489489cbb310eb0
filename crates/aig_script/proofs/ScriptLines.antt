-- A byte joins a line of a script.
use Rattle.std.proofs.Common.{◌≡◌, ℕ, ◌+◌, ◌<◌, ◌≤◌, List, [], ◌∷◌, ◌++◌, length, take, set, refl, sym, ap, ◌∙◌, subst}
use Rattle.std.proofs.Common.{arith, length-append}
use Rattle.std.specs.Prelude.{false}
use Rattle.std.proofs.lemmas.List.{take_more_set, take_all, take-append-le, length-take}
use Rattle.aig_script.specs.ScriptLine.{ScriptLine, BeginsRow, KeepsScriptLine, KeepsBy, first_bytes}

-- a line of which all was kept
whole : (line bytes : List ℕ) (n : ℕ) → length bytes ≡ 35 → n < 35 → take n bytes ≡ first_bytes line → line ≡ take n bytes
whole line bytes n room lt e =
    let short : length (take 35 line) ≡ n = sym (ap length e) ∙ within in
    sym (e ∙ take_all 35 line (omega (arith, short, length-take {A = ℕ} 35 line)))
  where
    within : length (take n bytes) ≡ n
    within = omega (arith, length-take {A = ℕ} n bytes)

pub joins_within : (line bytes : List ℕ) (n b : ℕ) → length bytes ≡ 35 → n < 35 → take n bytes ≡ first_bytes line
    → take (n + 1) (set bytes n b) ≡ first_bytes (line ++ b ∷ [])
joins_within line bytes n b room lt e =
    let all : line ≡ take n bytes = whole line bytes n room lt e in
    let inside : n < length bytes = omega arith in
    take_more_set bytes n b inside
    ∙ ap (λ (xs : List ℕ). xs ++ b ∷ []) (sym all)
    ∙ sym (take_all 35 (line ++ b ∷ []) (omega (arith, length-append line (b ∷ []), ap length all, length-take {A = ℕ} n bytes)))

pub joins_past : (line bytes : List ℕ) (n b : ℕ) → length bytes ≡ 35 → 35 ≤ n → n ≤ 35 → take n bytes ≡ first_bytes line
    → take n bytes ≡ first_bytes (line ++ b ∷ [])
joins_past line bytes n b room ge le e =
    let long : length (take n bytes) ≡ length (take 35 line) = ap length e in
    e ∙ sym (take-append-le 35 line (b ∷ []) (omega (arith, long, length-take {A = ℕ} n bytes, length-take {A = ℕ} 35 line)))

-- a line begins as one that appends a frame with its second byte
pub begins_with : (line : List ℕ) (b : ℕ) → (BeginsRow line → ⊥) → ((line ≡ 43 ∷ []) × (b ≡ 32) → ⊥)
    → BeginsRow (line ++ b ∷ []) → ⊥
begins_with [] b never other (rest, e) = let no : ⊥ = cc in no
begins_with (x ∷ []) b never other (rest, e) =
    other (let h : x ≡ 43 = cc in ap (λ (y : ℕ). y ∷ []) h, let h : b ≡ 32 = cc in h)
begins_with (x ∷ y ∷ line) b never other (rest, e) =
    never (line, let h : x ≡ 43 = cc in let k : y ≡ 32 = cc in ap (λ (z : ℕ). z ∷ (y ∷ line)) h ∙ ap (λ (z : ℕ). 43 ∷ (z ∷ line)) k)

-- what is kept of a line that appends no frame
pub keeps_bytes : (line : List ℕ) (kept : ScriptLine) → kept.is_row ≡ false → KeepsScriptLine line kept
    → (kept.bytes ≡ first_bytes line) × (BeginsRow line → ⊥)
keeps_bytes line kept e k = subst (KeepsBy line kept) e k.keeps

pub bytes_keep : (line : List ℕ) (kept : ScriptLine) → kept.is_row ≡ false
    → kept.bytes ≡ first_bytes line → (BeginsRow line → ⊥) → KeepsScriptLine line kept
bytes_keep line kept e is never = record { keeps = subst (KeepsBy line kept) (sym e) (is, never) }

-- a line of which no byte is kept has none
pub no_line : (line : List ℕ) (kept : ScriptLine) → kept.is_row ≡ false → kept.bytes ≡ [] → KeepsScriptLine line kept
    → line ≡ []
no_line [] kept e none k = refl
no_line (x ∷ line) kept e none k =
    let is : [] ≡ x ∷ take 34 line = sym none ∙ (keeps_bytes (x ∷ line) kept e k).0 in
    absurd (let no : ⊥ = cc in no)

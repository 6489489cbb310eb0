-- A script is its lines and what stands after them, in one way.
use Rattle.std.proofs.Common.{◌≡◌, ◌≢◌, ℕ, Bool, true, false, cond, eqb, List, [], ◌∷◌, ◌++◌, All, refl}
use Rattle.std.proofs.Common.{sym, ap, ◌∙◌}
use Rattle.std.proofs.lemmas.Bool.{eqb-true, eqb-false, ne_eqb}
use Rattle.std.proofs.lemmas.List.{append_assoc, append-nil}
use Rattle.std.proofs.lemmas.List.Concat.{flat_map-cons}
use Rattle.std.proofs.lemmas.List.Elements.{All-cons, All-nil, All-push, All-head, All-tail}
use Rattle.aig_script.specs.Lines.{lines_from, rest_from, with_end, ended, IsPiece, IsSplit}

-- the text of a line and of those after it
ended_more : (line : List ℕ) (lines : List (List ℕ)) (rest : List ℕ)
    → ended (line ∷ lines) ++ rest ≡ line ++ 10 ∷ (ended lines ++ rest)
ended_more line lines rest =
    ap (λ (t : List ℕ). t ++ rest) (flat_map-cons with_end line lines)
    ∙ append_assoc (line ++ 10 ∷ []) (ended lines) rest ∙ append_assoc line (10 ∷ []) (ended lines ++ rest)

-- ---- the split is one

-- a line that is begun and the bytes that follow are the lines and what stands after them
text_is : (line bytes : List ℕ) → line ++ bytes ≡ ended (lines_from line bytes) ++ rest_from line bytes
text_is line [] = append-nil line
text_is line (b ∷ bytes) =
    (elim (eqb b 10) as (λ v. eqb b 10 ≡ v → line ++ b ∷ bytes
    ≡ ended (cond v (line ∷ lines_from [] bytes) (lines_from (line ++ b ∷ []) bytes))
    ++ cond v (rest_from [] bytes) (rest_from (line ++ b ∷ []) bytes)) [
      | true ↦ λ h.
          let lines : List (List ℕ) = lines_from [] bytes in
          let rest : List ℕ = rest_from [] bytes in
          ap (λ (c : ℕ). line ++ c ∷ bytes) (eqb-true b 10 h) ∙ ap (λ (t : List ℕ). line ++ 10 ∷ t) (text_is [] bytes)
          ∙ sym (ended_more line lines rest)
      | false ↦ λ h. sym (append_assoc line (b ∷ []) bytes) ∙ text_is (line ++ b ∷ []) bytes
    ]) refl

lines_are : (line bytes : List ℕ) → IsPiece line → All IsPiece (lines_from line bytes)
lines_are line [] p = All-nil IsPiece
lines_are line (b ∷ bytes) p =
    (elim (eqb b 10) as (λ v. eqb b 10 ≡ v
    → All IsPiece (cond v (line ∷ lines_from [] bytes) (lines_from (line ++ b ∷ []) bytes))) [
      | true ↦ λ h. All-cons IsPiece line (lines_from [] bytes) p (lines_are [] bytes (All-nil (λ b. b ≢ 10)))
      | false ↦ λ h. lines_are (line ++ b ∷ []) bytes (All-push (λ b. b ≢ 10) line b p (eqb-false b 10 h))
    ]) refl

rest_is : (line bytes : List ℕ) → IsPiece line → IsPiece (rest_from line bytes)
rest_is line [] p = p
rest_is line (b ∷ bytes) p =
    (elim (eqb b 10) as (λ v. eqb b 10 ≡ v
    → IsPiece (cond v (rest_from [] bytes) (rest_from (line ++ b ∷ []) bytes))) [
      | true ↦ λ h. rest_is [] bytes (All-nil (λ b. b ≢ 10))
      | false ↦ λ h. rest_is (line ++ b ∷ []) bytes (All-push (λ b. b ≢ 10) line b p (eqb-false b 10 h))
    ]) refl

pub is_split : (script : List ℕ) → IsSplit script (lines_from [] script) (rest_from [] script)
is_split script = record {
  lines_are = lines_are [] script (All-nil (λ b. b ≢ 10));
  rest_is = rest_is [] script (All-nil (λ b. b ≢ 10));
  script_is = text_is [] script;
}

-- ---- there is no other

-- a piece and the LF that ends it are taken as a line
pub lines_step : (line piece more : List ℕ) → IsPiece piece
    → lines_from line (piece ++ 10 ∷ more) ≡ (line ++ piece) ∷ lines_from [] more
lines_step line [] more p = ap (λ (l : List ℕ). l ∷ lines_from [] more) (sym (append-nil line))
lines_step line (b ∷ piece) more p =
    let ne : eqb b 10 ≡ false = ne_eqb b 10 (All-head (λ b. b ≢ 10) b piece p) in
    ap (λ (v : Bool). cond v (line ∷ lines_from [] (piece ++ 10 ∷ more))
    (lines_from (line ++ b ∷ []) (piece ++ 10 ∷ more))) ne
    ∙ lines_step (line ++ b ∷ []) piece more (All-tail (λ b. b ≢ 10) b piece p)
    ∙ ap (λ (l : List ℕ). l ∷ lines_from [] more) (append_assoc line (b ∷ []) piece)

pub rest_step : (line piece more : List ℕ) → IsPiece piece → rest_from line (piece ++ 10 ∷ more) ≡ rest_from [] more
rest_step line [] more p = refl
rest_step line (b ∷ piece) more p =
    let ne : eqb b 10 ≡ false = ne_eqb b 10 (All-head (λ b. b ≢ 10) b piece p) in
    ap (λ (v : Bool). cond v (rest_from [] (piece ++ 10 ∷ more)) (rest_from (line ++ b ∷ []) (piece ++ 10 ∷ more))) ne
    ∙ rest_step (line ++ b ∷ []) piece more (All-tail (λ b. b ≢ 10) b piece p)

-- a piece without its end is what stands after
pub no_lines : (line piece : List ℕ) → IsPiece piece → lines_from line piece ≡ []
no_lines line [] p = refl
no_lines line (b ∷ piece) p =
    let ne : eqb b 10 ≡ false = ne_eqb b 10 (All-head (λ b. b ≢ 10) b piece p) in
    ap (λ (v : Bool). cond v (line ∷ lines_from [] piece) (lines_from (line ++ b ∷ []) piece)) ne
    ∙ no_lines (line ++ b ∷ []) piece (All-tail (λ b. b ≢ 10) b piece p)

pub all_rest : (line piece : List ℕ) → IsPiece piece → rest_from line piece ≡ line ++ piece
all_rest line [] p = sym (append-nil line)
all_rest line (b ∷ piece) p =
    let ne : eqb b 10 ≡ false = ne_eqb b 10 (All-head (λ b. b ≢ 10) b piece p) in
    ap (λ (v : Bool). cond v (rest_from [] piece) (rest_from (line ++ b ∷ []) piece)) ne
    ∙ all_rest (line ++ b ∷ []) piece (All-tail (λ b. b ≢ 10) b piece p) ∙ append_assoc line (b ∷ []) piece

only_lines : (lines : List (List ℕ)) (rest : List ℕ) → All IsPiece lines → IsPiece rest
    → lines_from [] (ended lines ++ rest) ≡ lines
only_lines [] rest p q = no_lines [] rest q
only_lines (line ∷ lines) rest p q =
    ap (λ (t : List ℕ). lines_from [] t) (ended_more line lines rest)
    ∙ lines_step [] line (ended lines ++ rest) (All-head IsPiece line lines p)
    ∙ ap (λ (ls : List (List ℕ)). line ∷ ls) (only_lines lines rest (All-tail IsPiece line lines p) q)

only_rest : (lines : List (List ℕ)) (rest : List ℕ) → All IsPiece lines → IsPiece rest
    → rest_from [] (ended lines ++ rest) ≡ rest
only_rest [] rest p q = all_rest [] rest q
only_rest (line ∷ lines) rest p q =
    ap (λ (t : List ℕ). rest_from [] t) (ended_more line lines rest)
    ∙ rest_step [] line (ended lines ++ rest) (All-head IsPiece line lines p)
    ∙ only_rest lines rest (All-tail IsPiece line lines p) q

pub is_only_split : (script : List ℕ) (lines : List (List ℕ)) (rest : List ℕ) → IsSplit script lines rest
    → (lines ≡ lines_from [] script) × (rest ≡ rest_from [] script)
is_only_split script lines rest s = (
  sym (ap (λ (t : List ℕ). lines_from [] t) s.script_is ∙ only_lines lines rest s.lines_are s.rest_is),
  sym (ap (λ (t : List ℕ). rest_from [] t) s.script_is ∙ only_rest lines rest s.lines_are s.rest_is),
)

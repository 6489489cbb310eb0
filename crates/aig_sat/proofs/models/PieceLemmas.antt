-- The pieces of a model's text: each place has one.
use Rattle.std.proofs.Common.{◌≡◌, ◌≢◌, ◌⊎◌, inl, inr, ℕ, ◌+◌, ◌-◌, ◌<◌, ◌≤◌, ◌%◌, nat_eq, if◌then◌else◌, Bool}
use Rattle.std.proofs.Common.{true, false, List, [], ◌∷◌, ◌++◌, length, get_or, take, drop, All, codes, refl, sym, ap}
use Rattle.std.proofs.Common.{◌∙◌, subst, arith, append_assoc}
use Rattle.std.specs.Fmt.{decimal}
use Rattle.std.proofs.lemmas.Bool.{false≢true}
use Rattle.std.proofs.lemmas.Bool.Decides.{eqb_tells}
use Rattle.std.proofs.lemmas.Fmt.{decimal_injective}
use Rattle.std.proofs.lemmas.List.{take_all}
use Rattle.std.proofs.lemmas.List.Elements.{All-nil, All-cons, All-weaker}
use Rattle.aig_bytes.proofs.Cuts.{split_at}
use Rattle.aig_parts.specs.Literal.{variable}
use Rattle.aig_sat.specs.model.ModelText.{BeginsLine, SaysSatisfiable, IsSpace, number_text}
use Rattle.aig_sat.specs.declared.model.reader.Phase.{Phase}
use Rattle.aig_sat.specs.declared.model.reader.Phase.TheVariants.{Before, Within, After}
use Rattle.aig_sat.proofs.models.DigitLemmas.{decimal_head}
use Rattle.aig_bytes.proofs.Decimals.{IsDigit, digits-decimal}

-- ---- pieces

pub data Word : Type 0 where
  mark : Word
  literal : ℕ → Word
  end : Word

pub data Piece : Type 0 where
  space : ℕ → Piece
  comment : List ℕ → Piece
  status : List ℕ → Piece
  word : Word → ℕ → Piece

abbrev pub word_text : Word → List ℕ
word_text Word.mark = 118 ∷ []
word_text (Word.literal l) = number_text l
word_text Word.end = 48 ∷ []

abbrev pub piece_text : Piece → List ℕ
piece_text (Piece.space b) = b ∷ []
piece_text (Piece.comment line) = 99 ∷ (line ++ 10 ∷ [])
piece_text (Piece.status line) = line ++ 10 ∷ []
piece_text (Piece.word w b) = word_text w ++ b ∷ []

-- the word may stand after a text
abbrev pub MayBe : ℕ → List ℕ → Word → Type 0
MayBe variables front Word.mark = BeginsLine front
MayBe variables front (Word.literal l) = variable l < variables
MayBe variables front Word.end = Unit {0}

-- the piece may
abbrev pub MayStand : ℕ → List ℕ → Phase → Piece → Type 0
MayStand variables front phase (Piece.space b) = IsSpace b
MayStand variables front phase (Piece.comment line) = All (λ b. b ≢ 10) line × BeginsLine front
MayStand variables front phase (Piece.status line) = SaysSatisfiable line × (BeginsLine front × (phase ≡ Before))
MayStand variables front phase (Piece.word w b) = IsSpace b × ((phase ≢ After) × MayBe variables front w)

abbrev pub phase_after : Phase → Piece → Phase
phase_after phase (Piece.space b) = phase
phase_after phase (Piece.comment line) = phase
phase_after phase (Piece.status line) = Within
phase_after phase (Piece.word Word.mark b) = phase
phase_after phase (Piece.word (Word.literal l) b) = Within
phase_after phase (Piece.word Word.end b) = After

abbrev pub with_named : List ℕ → Piece → List ℕ
with_named literals (Piece.space b) = literals
with_named literals (Piece.comment line) = literals
with_named literals (Piece.status line) = literals
with_named literals (Piece.word Word.mark b) = literals
with_named literals (Piece.word (Word.literal l) b) = literals ++ l ∷ []
with_named literals (Piece.word Word.end b) = literals

-- ---- the bytes of pieces

no_space : (b : ℕ) → 32 < b → IsSpace b → ⊥
no_space b lt (inl e) = omega (arith, lt, e)
no_space b lt (inr (inl e)) = omega (arith, lt, e)
no_space b lt (inr (inr e)) = omega (arith, lt, e)

no_space_in_number : (n : ℕ) → All (λ b. IsSpace b → ⊥) (decimal n)
no_space_in_number n =
    All-weaker IsDigit (λ b. IsSpace b → ⊥) (λ b h. no_space b (omega (arith, h.0))) (decimal n) (digits-decimal n)

pub no_space_in_word : (variables : ℕ) (front : List ℕ) (w : Word) → variables ≤ 2147483648 → MayBe variables front w
    → All (λ b. IsSpace b → ⊥) (word_text w)
no_space_in_word variables front Word.mark small may =
    All-cons (λ b. IsSpace b → ⊥) 118 [] (no_space 118 (omega arith)) (All-nil (λ b. IsSpace b → ⊥))
no_space_in_word variables front Word.end small may =
    All-cons (λ b. IsSpace b → ⊥) 48 [] (no_space 48 (omega arith)) (All-nil (λ b. IsSpace b → ⊥))
no_space_in_word variables front (Word.literal l) small may = by (nat_eq (l % 2) 0)
  where
    number : All (λ b. IsSpace b → ⊥) (decimal (variable l + 1))
    number = no_space_in_number (variable l + 1)

    by : (t : Bool) → All (λ b. IsSpace b → ⊥) ((if t then [] else codes "-") ++ decimal (variable l + 1))
    by true = number
    by false = All-cons (λ b. IsSpace b → ⊥) 45 (decimal (variable l + 1)) (no_space 45 (omega arith)) number

-- no LF is in a line by which a solver answers
abbrev pub has_end : List ℕ → Bool
has_end [] = false
has_end (x ∷ xs) = if nat_eq x 10 then true else has_end xs

pub no_end : (xs : List ℕ) → has_end xs ≡ false → All (λ b. b ≢ 10) xs
no_end [] e = All-nil (λ b. b ≢ 10)
no_end (x ∷ xs) e = elim (eqb_tells x 10) [
  | inl is ↦ absurd (false≢true (sym e ∙ ap (λ (t : Bool). if t then true else has_end xs) is.0))
  | inr is ↦
      All-cons (λ b. b ≢ 10) x xs is.1 (no_end xs (ap (λ (t : Bool). if t then true else has_end xs) (sym is.0) ∙ e))
]

pub no_end_in_status : (line : List ℕ) → SaysSatisfiable line → All (λ b. b ≢ 10) line
no_end_in_status line (inl e) = no_end line (ap has_end e)
no_end_in_status line (inr (inl e)) = no_end line (ap has_end e)
no_end_in_status line (inr (inr e)) = no_end line (ap has_end e)

-- the first byte of a piece
abbrev pub FirstByte : Piece → ℕ → Type 0
FirstByte (Piece.space b) x = x ≤ 32
FirstByte (Piece.comment line) x = x ≡ 99
FirstByte (Piece.status line) x = (x ≡ 115) ⊎ (x ≡ 83)
FirstByte (Piece.word w b) x = (x ≡ 118) ⊎ ((45 ≤ x) × (x ≤ 57))

pub record Begins (piece : Piece) (after : List ℕ) : Type 0 where
  pub first : ℕ
  pub rest : List ℕ
  pub text_is : piece_text piece ++ after ≡ first ∷ rest
  pub is : FirstByte piece first

word_begins : (variables : ℕ) (front : List ℕ) (w : Word) (b : ℕ) (after : List ℕ) → variables ≤ 2147483648
    → MayBe variables front w → Begins (Piece.word w b) after
word_begins variables front Word.mark b after small may =
    record { first = 118; rest = b ∷ after; text_is = refl; is = inl refl }
word_begins variables front Word.end b after small may =
    record { first = 48; rest = b ∷ after; text_is = refl; is = inr (omega arith, omega arith) }
word_begins variables front (Word.literal l) b after small may = by (nat_eq (l % 2) 0) refl
  where
    by : (t : Bool) → nat_eq (l % 2) 0 ≡ t → Begins (Piece.word (Word.literal l) b) after
    by true e =
        let h = decimal_head (variable l + 1) (omega (arith, may, small)) in
        record {
          first = h.first;
          rest = (h.rest ++ b ∷ []) ++ after;
          text_is =
              ap (λ (t : Bool). (((if t then [] else codes "-") ++ decimal (variable l + 1)) ++ b ∷ []) ++ after) e
              ∙ ap (λ (xs : List ℕ). (xs ++ b ∷ []) ++ after) h.is;
          is = inr (omega (arith, h.digit.0), h.digit.1);
        }
    by false e = record {
      first = 45;
      rest = (decimal (variable l + 1) ++ b ∷ []) ++ after;
      text_is = ap (λ (t : Bool). (((if t then [] else codes "-") ++ decimal (variable l + 1)) ++ b ∷ []) ++ after) e;
      is = inr (omega arith, omega arith);
    }

pub begins : (variables : ℕ) (front : List ℕ) (phase : Phase) (piece : Piece) (after : List ℕ) → variables ≤ 2147483648
    → MayStand variables front phase piece → Begins piece after
begins variables front phase (Piece.space b) after small (inl e) =
    record { first = b; rest = after; text_is = refl; is = omega (arith, e) }
begins variables front phase (Piece.space b) after small (inr (inl e)) =
    record { first = b; rest = after; text_is = refl; is = omega (arith, e) }
begins variables front phase (Piece.space b) after small (inr (inr e)) =
    record { first = b; rest = after; text_is = refl; is = omega (arith, e) }
begins variables front phase (Piece.comment line) after small h =
    record { first = 99; rest = (line ++ 10 ∷ []) ++ after; text_is = refl; is = refl }
begins variables front phase (Piece.status line) after small (inl e, h) = record {
  first = 115;
  rest = (codes " SATISFIABLE" ++ 10 ∷ []) ++ after;
  text_is = ap (λ (xs : List ℕ). (xs ++ 10 ∷ []) ++ after) e;
  is = inl refl;
}
begins variables front phase (Piece.status line) after small (inr (inl e), h) = record {
  first = 83;
  rest = (codes "ATISFIABLE" ++ 10 ∷ []) ++ after;
  text_is = ap (λ (xs : List ℕ). (xs ++ 10 ∷ []) ++ after) e;
  is = inr refl;
}
begins variables front phase (Piece.status line) after small (inr (inr e), h) = record {
  first = 83;
  rest = (codes "AT" ++ 10 ∷ []) ++ after;
  text_is = ap (λ (xs : List ℕ). (xs ++ 10 ∷ []) ++ after) e;
  is = inr refl;
}
begins variables front phase (Piece.word w b) after small (is, (within, may)) =
    word_begins variables front w b after small may

-- ---- one piece at a place

-- the number of a literal, by its sign
signed : (l : ℕ) (t : Bool) → nat_eq (l % 2) 0 ≡ t → number_text l ≡ (if t then [] else codes "-") ++ decimal (variable l + 1)
signed l t e = ap (λ (t : Bool). (if t then [] else codes "-") ++ decimal (variable l + 1)) e

-- a literal is known by its number
pub one_number : (k l : ℕ) → variable k < 2147483648 → variable l < 2147483648 → number_text k ≡ number_text l → k ≡ l
one_number k l ks ls e = elim (eqb_tells (k % 2) 0) [
  | inl ke ↦ elim (eqb_tells (l % 2) 0) [
    | inl le ↦
        let d : decimal (variable k + 1) ≡ decimal (variable l + 1) =
        sym (signed k true ke.0) ∙ e ∙ signed l true le.0 in
        let same : variable k + 1 ≡ variable l + 1 = decimal_injective _ _ (omega (arith, ks)) (omega (arith, ls)) d in
        omega (arith, same, ke.1, le.1)
    | inr le ↦
        let d : decimal (variable k + 1) ≡ 45 ∷ decimal (variable l + 1) =
        sym (signed k true ke.0) ∙ e ∙ signed l false le.0 in absurd (no_minus k ks d)
  ]
  | inr ke ↦ elim (eqb_tells (l % 2) 0) [
    | inl le ↦
        let d : decimal (variable l + 1) ≡ 45 ∷ decimal (variable k + 1) =
        sym (signed l true le.0) ∙ sym e ∙ signed k false ke.0 in absurd (no_minus l ls d)
    | inr le ↦
        let d : 45 ∷ decimal (variable k + 1) ≡ 45 ∷ decimal (variable l + 1) =
        sym (signed k false ke.0) ∙ e ∙ signed l false le.0 in
        let d' : decimal (variable k + 1) ≡ decimal (variable l + 1) = cc in
        let same : variable k + 1 ≡ variable l + 1 = decimal_injective _ _ (omega (arith, ks)) (omega (arith, ls)) d' in
        omega (arith, same, ke.1, le.1)
  ]
]
  where
    no_minus : (l : ℕ) → variable l < 2147483648 → {xs : List ℕ} → decimal (variable l + 1) ≡ 45 ∷ xs → ⊥
    no_minus l ls e =
        let h = decimal_head (variable l + 1) (omega (arith, ls)) in
        let is : h.first ≡ 45 = cc in
        omega (arith, h.digit.0, is)

-- after a minus is a number
pub minus_read : (bytes : List ℕ) (l variables : ℕ) → variables ≤ 2147483648 → variable l < variables
    → get_or bytes 0 0 ≡ 45 → bytes ≡ number_text l
    → ((n : ℕ) → 0 < n → n ≤ variables → take (length bytes - 1) (drop 1 bytes) ≡ decimal n → ⊥) → ⊥
minus_read bytes l variables small lt first e lacks = elim (eqb_tells (l % 2) 0) [
  | inl is ↦
      let h = decimal_head (variable l + 1) (omega (arith, small, lt)) in
      let same : get_or bytes 0 0 ≡ h.first = ap (λ (xs : List ℕ). get_or xs 0 0) (e ∙ signed l true is.0 ∙ h.is) in
      omega (arith, h.digit.0, first, same)
  | inr is ↦
      lacks (variable l + 1) (omega arith) (omega (arith, lt))
      (ap (λ (xs : List ℕ). take (length xs - 1) (drop 1 xs)) (e ∙ signed l false is.0)
      ∙ take_all (length (45 ∷ decimal (variable l + 1)) - 1) (decimal (variable l + 1)) (omega arith))
]

-- no literal's number is the byte
other_number : (l x : ℕ) → variable l < 2147483648 → (x ≡ 118) ⊎ (x ≡ 48) → number_text l ≡ x ∷ [] → ⊥
other_number l x ls which e = elim (eqb_tells (l % 2) 0) [
  | inl is ↦
      let d : decimal (variable l + 1) ≡ x ∷ [] = sym (signed l true is.0) ∙ e in
      let h = decimal_head (variable l + 1) (omega (arith, ls)) in
      let first : h.first ≡ x = cc in elim which [
        | inl v ↦ omega (arith, h.digit.1, first, v)
        | inr zero ↦ h.positive (omega arith) (first ∙ zero)
      ]
  | inr is ↦
      let d : 45 ∷ decimal (variable l + 1) ≡ x ∷ [] = sym (signed l false is.0) ∙ e in
      let first : 45 ≡ x = cc in elim which [ inl v ↦ omega (arith, first, v) | inr zero ↦ omega (arith, first, zero) ]
]

pub below : (variables l : ℕ) → variables ≤ 2147483648 → variable l < variables → variable l < 2147483648
below variables l small lt = omega (arith, small, lt)

no_word : (variables l x : ℕ) → variables ≤ 2147483648 → variable l < variables → (x ≡ 118) ⊎ (x ≡ 48)
    → number_text l ≡ x ∷ [] → ⊥
no_word variables l x small lt which e = other_number l x (below variables l small lt) which e

same_literal : (variables k l : ℕ) → variables ≤ 2147483648 → variable k < variables → variable l < variables
    → number_text k ≡ number_text l → Word.literal k ≡ Word.literal l
same_literal variables k l small p q e = ap Word.literal (one_number k l (below variables k small p) (below variables l small q) e)

two_bytes : (x y : ℕ) → (x ≡ y → ⊥) → x ∷ [] ≡ y ∷ [] → ⊥
two_bytes x y ne e = let is : x ≡ y = cc in ne is

one_mark : (variables : ℕ) (front : List ℕ) → variables ≤ 2147483648 → (u : Word) → MayBe variables front u
    → 118 ∷ [] ≡ word_text u → Word.mark ≡ u
one_mark variables front small Word.mark q e = refl
one_mark variables front small (Word.literal l) q e = absurd (no_word variables l 118 small q (inl refl) (sym e))
one_mark variables front small Word.end q e = absurd (two_bytes 118 48 (λ is. omega (arith, is)) e)

one_end : (variables : ℕ) (front : List ℕ) → variables ≤ 2147483648 → (u : Word) → MayBe variables front u
    → 48 ∷ [] ≡ word_text u → Word.end ≡ u
one_end variables front small Word.mark q e = absurd (two_bytes 48 118 (λ is. omega (arith, is)) e)
one_end variables front small (Word.literal l) q e = absurd (no_word variables l 48 small q (inr refl) (sym e))
one_end variables front small Word.end q e = refl

one_literal : (variables : ℕ) (front : List ℕ) (k : ℕ) → variables ≤ 2147483648 → variable k < variables → (u : Word)
    → MayBe variables front u → number_text k ≡ word_text u → Word.literal k ≡ u
one_literal variables front k small p Word.mark q e = absurd (no_word variables k 118 small p (inl refl) e)
one_literal variables front k small p (Word.literal l) q e = same_literal variables k l small p q e
one_literal variables front k small p Word.end q e = absurd (no_word variables k 48 small p (inr refl) e)

one_word : (variables : ℕ) (front : List ℕ) → variables ≤ 2147483648 → (w u : Word) → MayBe variables front w
    → MayBe variables front u → word_text w ≡ word_text u → w ≡ u
one_word variables front small Word.mark u p q e = one_mark variables front small u q e
one_word variables front small (Word.literal k) u p q e = one_literal variables front k small p u q e
one_word variables front small Word.end u p q e = one_end variables front small u q e

-- two pieces that begin with one byte are of one kind
abbrev kind : Piece → ℕ
kind (Piece.space b) = 0
kind (Piece.comment line) = 1
kind (Piece.status line) = 2
kind (Piece.word w b) = 3

apart : (p q : Piece) (x : ℕ) → FirstByte p x → FirstByte q x → kind p ≡ kind q
apart (Piece.space b) (Piece.space c) x s t = refl
apart (Piece.space b) (Piece.comment line) x s t = absurd (omega (arith, s, t))
apart (Piece.space b) (Piece.status line) x s t = absurd (elim t [ inl e ↦ omega (arith, s, e) | inr e ↦ omega (arith, s, e) ])
apart (Piece.space b) (Piece.word w c) x s t = absurd (elim t [ inl e ↦ omega (arith, s, e) | inr e ↦ omega (arith, s, e.0) ])
apart (Piece.comment line) (Piece.space c) x s t = absurd (omega (arith, s, t))
apart (Piece.comment line) (Piece.comment line') x s t = refl
apart (Piece.comment line) (Piece.status line') x s t = absurd (elim t [ inl e ↦ omega (arith, s, e) | inr e ↦ omega (arith, s, e) ])
apart (Piece.comment line) (Piece.word w c) x s t = absurd (elim t [ inl e ↦ omega (arith, s, e) | inr e ↦ omega (arith, s, e.1) ])
apart (Piece.status line) (Piece.space c) x s t = absurd (elim s [ inl e ↦ omega (arith, t, e) | inr e ↦ omega (arith, t, e) ])
apart (Piece.status line) (Piece.comment line') x s t = absurd (elim s [ inl e ↦ omega (arith, t, e) | inr e ↦ omega (arith, t, e) ])
apart (Piece.status line) (Piece.status line') x s t = refl
apart (Piece.status line) (Piece.word w c) x s t = absurd (no s t)
  where
    no : (x ≡ 115) ⊎ (x ≡ 83) → (x ≡ 118) ⊎ ((45 ≤ x) × (x ≤ 57)) → ⊥
    no (inl e) (inl f) = omega (arith, e, f)
    no (inl e) (inr f) = omega (arith, e, f.1)
    no (inr e) (inl f) = omega (arith, e, f)
    no (inr e) (inr f) = omega (arith, e, f.1)
apart (Piece.word w b) (Piece.space c) x s t = absurd (elim s [ inl e ↦ omega (arith, t, e) | inr e ↦ omega (arith, t, e.0) ])
apart (Piece.word w b) (Piece.comment line) x s t = absurd (elim s [ inl e ↦ omega (arith, t, e) | inr e ↦ omega (arith, t, e.1) ])
apart (Piece.word w b) (Piece.status line) x s t = absurd (no s t)
  where
    no : (x ≡ 118) ⊎ ((45 ≤ x) × (x ≤ 57)) → (x ≡ 115) ⊎ (x ≡ 83) → ⊥
    no (inl f) (inl e) = omega (arith, e, f)
    no (inr f) (inl e) = omega (arith, e, f.1)
    no (inl f) (inr e) = omega (arith, e, f)
    no (inr f) (inr e) = omega (arith, e, f.1)
apart (Piece.word w b) (Piece.word u c) x s t = refl

pub one_piece : (variables : ℕ) (front : List ℕ) (phase : Phase) (p q : Piece) (a b : List ℕ) → variables ≤ 2147483648
    → MayStand variables front phase p → MayStand variables front phase q → piece_text p ++ a ≡ piece_text q ++ b → p ≡ q
one_piece variables front phase p q a b small s t e =
    let h = begins variables front phase p a small s in
    let k = begins variables front phase q b small t in
    let whole : h.first ∷ h.rest ≡ k.first ∷ k.rest = sym h.text_is ∙ e ∙ k.text_is in
    let first : h.first ≡ k.first = cc in
    same p q s t (apart p q k.first (subst (FirstByte p) first h.is) k.is) e
  where
    line_same : (line line' more more' : List ℕ) → All (λ b. b ≢ 10) line → All (λ b. b ≢ 10) line'
        → (line ++ 10 ∷ []) ++ more ≡ (line' ++ 10 ∷ []) ++ more' → line ≡ line'
    line_same line line' more more' s t e =
        (split_at (λ b. b ≡ 10) line line' more more' 10 10 s t refl refl
        (sym (append_assoc line (10 ∷ []) more) ∙ e ∙ append_assoc line' (10 ∷ []) more')).0

    same : (p q : Piece) → MayStand variables front phase p → MayStand variables front phase q → kind p ≡ kind q
        → piece_text p ++ a ≡ piece_text q ++ b → p ≡ q
    same (Piece.space x) (Piece.space y) s t one e = let is : x ≡ y = cc in ap Piece.space is
    same (Piece.space x) (Piece.comment line) s t one e = absurd (omega (arith, one))
    same (Piece.space x) (Piece.status line) s t one e = absurd (omega (arith, one))
    same (Piece.space x) (Piece.word w y) s t one e = absurd (omega (arith, one))
    same (Piece.comment line) (Piece.space y) s t one e = absurd (omega (arith, one))
    same (Piece.comment line) (Piece.comment line') s t one e =
        let rest : (line ++ 10 ∷ []) ++ a ≡ (line' ++ 10 ∷ []) ++ b = cc in
        ap Piece.comment (line_same line line' a b s.0 t.0 rest)
    same (Piece.comment line) (Piece.status line') s t one e = absurd (omega (arith, one))
    same (Piece.comment line) (Piece.word w y) s t one e = absurd (omega (arith, one))
    same (Piece.status line) (Piece.space y) s t one e = absurd (omega (arith, one))
    same (Piece.status line) (Piece.comment line') s t one e = absurd (omega (arith, one))
    same (Piece.status line) (Piece.status line') s t one e =
        ap Piece.status (line_same line line' a b (no_end_in_status line s.0) (no_end_in_status line' t.0) e)
    same (Piece.status line) (Piece.word w y) s t one e = absurd (omega (arith, one))
    same (Piece.word w x) (Piece.space y) s t one e = absurd (omega (arith, one))
    same (Piece.word w x) (Piece.comment line) s t one e = absurd (omega (arith, one))
    same (Piece.word w x) (Piece.status line) s t one e = absurd (omega (arith, one))
    same (Piece.word w x) (Piece.word u y) s t one e =
        let r = split_at IsSpace (word_text w) (word_text u) a b x y (no_space_in_word variables front w small s.1.1)
        (no_space_in_word variables front u small t.1.1) s.0 t.0
        (sym (append_assoc (word_text w) (x ∷ []) a) ∙ e ∙ append_assoc (word_text u) (y ∷ []) b) in
        let end : x ≡ y = let all = r.1 in cc in
        let word : w ≡ u = one_word variables front small w u s.1.1 t.1.1 r.0 in
        ap (λ (v : Word). Piece.word v x) word ∙ ap (Piece.word u) end

-- A model's text, from its first piece on: what one reading names, each other names.
use Rattle.std.proofs.Common.{◌≡◌, ◌≢◌, ◌⊎◌, inl, inr, ℕ, ◌+◌, ◌-◌, ◌<◌, ◌≤◌, List, [], ◌∷◌, ◌++◌, length, get_or, All}
use Rattle.std.proofs.Common.{refl, sym, ap, ◌∙◌, subst, arith, append_assoc}
use Rattle.std.proofs.lemmas.List.{append-nil, append_cancel_left, length-append}
use Rattle.aig_bytes.proofs.Cuts.{split_at}
use Rattle.aig_sat.specs.model.ModelText.{HasStatus, SaysSatisfiable, SaysUnknown, SaysUnsatisfiable, Names, SpellsModel}
use Rattle.aig_sat.specs.model.ModelText.{number_text}
use Rattle.aig_sat.specs.declared.model.reader.Phase.{Phase}
use Rattle.aig_sat.specs.declared.model.reader.Phase.TheVariants.{Before, After}
use Rattle.aig_sat.specs.model.state.Reading.{IsAnswerByte}
use Rattle.aig_sat.proofs.models.PieceLemmas.{FirstByte, MayStand, Piece, Word, begins, has_end, no_end}
use Rattle.aig_sat.proofs.models.PieceLemmas.{no_end_in_status, one_piece, phase_after, piece_text}
use Rattle.aig_sat.proofs.models.PieceLemmas.{with_named}

-- ---- the pieces that are left

-- After the text, which named these literals, the rest makes a model that names all.
pub data Goes (variables : ℕ) (all : List ℕ) : List ℕ → Phase → List ℕ → List ℕ → Type 0 where
  done : {front : List ℕ} → Goes variables all front After all []
  step : {front literals rest : List ℕ} {phase : Phase} (piece : Piece) → MayStand variables front phase piece
      → Goes variables all (front ++ piece_text piece) (phase_after phase piece) (with_named literals piece) rest
      → Goes variables all front phase literals (piece_text piece ++ rest)

step_on : (variables : ℕ) (all text rest literals : List ℕ) (phase : Phase) (piece : Piece)
    → MayStand variables text phase piece
    → (Goes variables all text phase literals (piece_text piece ++ rest)
    → Goes variables all [] Before [] (text ++ (piece_text piece ++ rest)))
    → Goes variables all (text ++ piece_text piece) (phase_after phase piece) (with_named literals piece) rest
    → Goes variables all [] Before [] ((text ++ piece_text piece) ++ rest)
step_on variables all text rest literals phase piece stands on g =
    subst (Goes variables all [] Before []) (sym (append_assoc text (piece_text piece) rest)) (on (Goes.step piece stands g))

-- a text that names literals, and what is left after it, from the front on
pub turned : {variables : ℕ} {text literals : List ℕ} {phase : Phase} → Names variables text phase literals → (all rest : List ℕ)
    → Goes variables all text phase literals rest → Goes variables all [] Before [] (text ++ rest)
turned Names.nothing all rest g = g
turned {variables} (Names.space {text} {phase} {literals} b is h) all rest g =
    step_on variables all text rest literals phase (Piece.space b) is (turned h all (b ∷ rest)) g
turned {variables} (Names.comment {text} {phase} {literals} line inside begins h) all rest g =
    step_on variables all text rest literals phase (Piece.comment line) (inside, begins)
    (turned h all ((99 ∷ (line ++ 10 ∷ [])) ++ rest)) g
turned {variables} (Names.status {text} line is begins h) all rest g =
    step_on variables all text rest [] Before (Piece.status line) (is, (begins, refl)) (turned h all ((line ++ 10 ∷ []) ++ rest)) g
turned {variables} (Names.mark {text} {phase} {literals} b is begins within h) all rest g =
    step_on variables all text rest literals phase (Piece.word Word.mark b) (is, (within, begins)) (turned h all (118 ∷ (b ∷ rest))) g
turned {variables} (Names.literal {text} {phase} {literals} l b is below within h) all rest g =
    step_on variables all text rest literals phase (Piece.word (Word.literal l) b) (is, (within, below))
    (turned h all ((number_text l ++ b ∷ []) ++ rest)) g
turned {variables} (Names.end {text} {phase} {literals} b is within h) all rest g =
    step_on variables all text rest literals phase (Piece.word Word.end b) (is, (within, tt)) (turned h all (48 ∷ (b ∷ rest))) g

-- what stands at the place goes first
pass_step : {variables : ℕ} {all front literals whole : List ℕ} {phase : Phase} → variables ≤ 2147483648 → (p : Piece)
    → MayStand variables front phase p → (rest : List ℕ) → whole ≡ piece_text p ++ rest
    → Goes variables all front phase literals whole
    → Goes variables all (front ++ piece_text p) (phase_after phase p) (with_named literals p) rest
pass_step {variables} {all} {front} small p stands rest e Goes.done =
    let h = begins variables front After p rest small stands in
    let no : ⊥ = let k = h.text_is in cc in absurd no
pass_step {variables} {all} {front} {literals} {whole} {phase} small p stands rest e (Goes.step {rest = more} q stands' g) =
    let same : q ≡ p = one_piece variables front phase q p more rest small stands' stands e in
    let left : more ≡ rest = append_cancel_left (piece_text p) more rest
    (ap (λ (z : Piece). piece_text z ++ more) (sym same) ∙ e) in
    subst (Goes variables all (front ++ piece_text p) (phase_after phase p) (with_named literals p)) left
    (subst (λ (z : Piece). Goes variables all (front ++ piece_text z) (phase_after phase z) (with_named literals z) more) same g)

-- a model that begins with the text goes on after it
pub passed : {variables : ℕ} {text literals : List ℕ} {phase : Phase} → Names variables text phase literals
    → variables ≤ 2147483648 → (all rest : List ℕ) → Goes variables all [] Before [] (text ++ rest)
    → Goes variables all text phase literals rest
passed Names.nothing small all rest g = g
passed (Names.space {text} b is h) small all rest g =
    pass_step small (Piece.space b) is rest refl
    (passed h small all (b ∷ rest) (subst (Goes _ all [] Before []) (append_assoc text (b ∷ []) rest) g))
passed (Names.comment {text} line inside begins h) small all rest g =
    pass_step small (Piece.comment line) (inside, begins) rest refl
    (passed h small all _ (subst (Goes _ all [] Before []) (append_assoc text (99 ∷ (line ++ 10 ∷ [])) rest) g))
passed (Names.status {text} line is begins h) small all rest g =
    pass_step small (Piece.status line) (is, (begins, refl)) rest refl
    (passed h small all _ (subst (Goes _ all [] Before []) (append_assoc text (line ++ 10 ∷ []) rest) g))
passed (Names.mark {text} b is begins within h) small all rest g =
    pass_step small (Piece.word Word.mark b) (is, (within, begins)) rest refl
    (passed h small all _ (subst (Goes _ all [] Before []) (append_assoc text (118 ∷ (b ∷ [])) rest) g))
passed (Names.literal {text} l b is below within h) small all rest g =
    pass_step small (Piece.word (Word.literal l) b) (is, (within, below)) rest refl
    (passed h small all _ (subst (Goes _ all [] Before []) (append_assoc text (number_text l ++ b ∷ []) rest) g))
passed (Names.end {text} b is within h) small all rest g =
    pass_step small (Piece.word Word.end b) (is, (within, tt)) rest refl
    (passed h small all _ (subst (Goes _ all [] Before []) (append_assoc text (48 ∷ (b ∷ [])) rest) g))

-- where nothing is left, all are named
pub ended : {variables : ℕ} {all front literals rest : List ℕ} {phase : Phase} → variables ≤ 2147483648
    → Goes variables all front phase literals rest → rest ≡ [] → (phase ≡ After) × (literals ≡ all)
ended small Goes.done e = (refl, refl)
ended {variables} {front = front} {phase = phase} small (Goes.step {rest = more} p stands g) e =
    let h = begins variables front phase p more small stands in
    let no : ⊥ = let k = h.text_is in cc in absurd no

-- what is named is among all
pub within_all : {variables : ℕ} {all front literals rest : List ℕ} {phase : Phase}
    → Goes variables all front phase literals rest → (more : List ℕ) × (literals ++ more ≡ all)
within_all {variables} {all} Goes.done = ([], append-nil all)
within_all {all = all} (Goes.step {literals = literals} p stands g) = by p (within_all g)
  where
    by : (p : Piece) → (more : List ℕ) × (with_named literals p ++ more ≡ all) → (more : List ℕ) × (literals ++ more ≡ all)
    by (Piece.space b) h = h
    by (Piece.comment line) h = h
    by (Piece.status line) h = h
    by (Piece.word Word.mark b) h = h
    by (Piece.word (Word.literal l) b) h = (l ∷ h.0, sym (append_assoc literals (l ∷ []) h.0) ∙ h.1)
    by (Piece.word Word.end b) h = h

-- what stands first where something is left
pub record Next (variables : ℕ) (all front literals whole : List ℕ) (phase : Phase) : Type 0 where
  pub piece : Piece
  pub rest : List ℕ
  pub text_is : whole ≡ piece_text piece ++ rest
  pub stands : MayStand variables front phase piece
  pub more : List ℕ
  pub all_is : with_named literals piece ++ more ≡ all

pub next_piece : {variables : ℕ} {all front literals whole : List ℕ} {phase : Phase}
    → Goes variables all front phase literals whole → 0 < length whole → Next variables all front literals whole phase
next_piece Goes.done some = absurd (omega (arith, some))
next_piece (Goes.step {rest = rest} p stands g) some =
    let m = within_all g in
    record { piece = p; rest = rest; text_is = refl; stands = stands; more = m.0; all_is = m.1 }

-- a line by which a solver may answer is the one that says that there is a model
pub only_answer : (variables : ℕ) (all front literals line rest : List ℕ) (phase : Phase) → variables ≤ 2147483648
    → All (λ b. b ≢ 10) line → ((x : ℕ) (xs : List ℕ) → line ++ 10 ∷ rest ≡ x ∷ xs → IsAnswerByte x)
    → Next variables all front literals (line ++ 10 ∷ rest) phase → SaysSatisfiable line
only_answer variables all front literals line rest phase small inside answers n =
    let k = begins variables front phase n.piece n.rest small n.stands in
    by n.piece n.rest n.text_is n.stands k.first k.is (answers k.first k.rest (n.text_is ∙ k.text_is))
  where
    other : (x : ℕ) → IsAnswerByte x → (73 ≤ x) × ((x ≤ 115) × (x ≢ 99))
    other x (inl e) = (omega (arith, e), (omega (arith, e), λ f. omega (arith, e, f)))
    other x (inr (inl e)) = (omega (arith, e), (omega (arith, e), λ f. omega (arith, e, f)))
    other x (inr (inr (inl e))) = (omega (arith, e), (omega (arith, e), λ f. omega (arith, e, f)))
    other x (inr (inr (inr e))) = (omega (arith, e), (omega (arith, e), λ f. omega (arith, e, f)))

    by : (p : Piece) (more : List ℕ) → line ++ 10 ∷ rest ≡ piece_text p ++ more → MayStand variables front phase p
        → (x : ℕ) → FirstByte p x → IsAnswerByte x → SaysSatisfiable line
    by (Piece.space c) more e s x f a = absurd (omega (arith, (other x a).0, f))
    by (Piece.comment line') more e s x f a = absurd ((other x a).1.1 f)
    by (Piece.word w c) more e s x f a =
        let o = other x a in
        absurd (elim f [ inl is ↦ omega (arith, o.1.0, is) | inr is ↦ omega (arith, o.0, is.1) ])
    by (Piece.status line') more e s x f a =
        let r = split_at (λ z. z ≡ 10) line' line more rest 10 10 (no_end_in_status line' s.0) inside refl refl
        (sym (append_assoc line' (10 ∷ []) more) ∙ sym e) in
        subst SaysSatisfiable r.0 s.0

-- ---- the law of one reading

pub one_reading : {variables : ℕ} {text literals literals' : List ℕ} → variables ≤ 2147483648
    → Names variables text After literals → Names variables text After literals' → literals ≡ literals'
one_reading {variables} {text} {literals} {literals'} small h k =
    (ended small (passed h small literals' [] (turned k literals' [] Goes.done)) refl).1

-- no model has a line that says otherwise
AnswersOtherwise : (List ℕ → Type 0) → Type 0
AnswersOtherwise IsLine = (line : List ℕ) → IsLine line
    → All (λ b. b ≢ 10) line × ((SaysSatisfiable line → ⊥)
    × ((rest : List ℕ) (x : ℕ) (xs : List ℕ) → line ++ 10 ∷ rest ≡ x ∷ xs → IsAnswerByte x))

no_answer : (IsLine : List ℕ → Type 0) → AnswersOtherwise IsLine → (variables : ℕ) (text literals : List ℕ)
    → variables ≤ 2147483648 → SpellsModel variables text literals → HasStatus IsLine variables text → ⊥
unfolding AnswersOtherwise
no_answer IsLine is variables text literals small spells h =
    let line = is h.line h.line_is in
    let g : Goes variables literals [] Before [] (h.front ++ (h.line ++ 10 ∷ h.rest)) =
    subst (Goes variables literals [] Before []) (append-nil (text ++ 10 ∷ []) ∙ h.text_is) (turned spells literals [] Goes.done) in
    let k : Goes variables literals h.front Before [] (h.line ++ 10 ∷ h.rest) =
    passed h.before small literals (h.line ++ 10 ∷ h.rest) g in
    line.1.0 (only_answer variables literals h.front [] h.line h.rest Before small line.0 (line.1.1 h.rest)
    (next_piece k (omega (arith, length-append h.line (10 ∷ h.rest)))))

-- two bytes tell these lines apart
abbrev byte_sum : List ℕ → ℕ
byte_sum line = get_or line 0 0 + get_or line 2 0

satisfiable_sum : (line : List ℕ) → SaysSatisfiable line → (byte_sum line ≡ 198) ⊎ (byte_sum line ≡ 167)
satisfiable_sum line (inl e) = inl (ap byte_sum e)
satisfiable_sum line (inr (inl e)) = inr (ap byte_sum e)
satisfiable_sum line (inr (inr e)) = inr (ap byte_sum e)

other_sum : (line : List ℕ) (n : ℕ) → byte_sum line ≡ n → n ≢ 198 → n ≢ 167 → SaysSatisfiable line → ⊥
other_sum line n e ne ne' h = elim (satisfiable_sum line h) [ inl f ↦ ne (sym e ∙ f) | inr f ↦ ne' (sym e ∙ f) ]

first_of : (line rest xs : List ℕ) (x y : ℕ) → line ++ 10 ∷ rest ≡ x ∷ xs → get_or (line ++ 10 ∷ rest) 0 0 ≡ y → x ≡ y
first_of line rest xs x y is e = sym (ap (λ (ys : List ℕ). get_or ys 0 0) is) ∙ e

otherwise_unsatisfiable : AnswersOtherwise SaysUnsatisfiable
unfolding AnswersOtherwise
otherwise_unsatisfiable line (inl e) = (
  no_end line (ap has_end e),
  (
    other_sum line 200 (ap byte_sum e) (λ f. omega (arith, f)) (λ f. omega (arith, f)),
    λ rest x xs is. inl (first_of line rest xs x 115 is (ap (λ (l : List ℕ). get_or (l ++ 10 ∷ rest) 0 0) e)),
  ),
)
otherwise_unsatisfiable line (inr (inl e)) = (
  no_end line (ap has_end e),
  (
    other_sum line 168 (ap byte_sum e) (λ f. omega (arith, f)) (λ f. omega (arith, f)),
    λ rest x xs is.
        inr (inr (inl (first_of line rest xs x 85 is (ap (λ (l : List ℕ). get_or (l ++ 10 ∷ rest) 0 0) e)))),
  ),
)
otherwise_unsatisfiable line (inr (inr e)) = (
  no_end line (ap has_end e),
  (
    other_sum line 168 (ap byte_sum e) (λ f. omega (arith, f)) (λ f. omega (arith, f)),
    λ rest x xs is.
        inr (inr (inl (first_of line rest xs x 85 is (ap (λ (l : List ℕ). get_or (l ++ 10 ∷ rest) 0 0) e)))),
  ),
)

otherwise_unknown : AnswersOtherwise SaysUnknown
unfolding AnswersOtherwise
otherwise_unknown line (inl e) = (
  no_end line (ap has_end e),
  (
    other_sum line 200 (ap byte_sum e) (λ f. omega (arith, f)) (λ f. omega (arith, f)),
    λ rest x xs is. inl (first_of line rest xs x 115 is (ap (λ (l : List ℕ). get_or (l ++ 10 ∷ rest) 0 0) e)),
  ),
)
otherwise_unknown line (inr e) = (
  no_end line (ap has_end e),
  (
    other_sum line 141 (ap byte_sum e) (λ f. omega (arith, f)) (λ f. omega (arith, f)),
    λ rest x xs is.
        inr (inr (inr (first_of line rest xs x 73 is (ap (λ (l : List ℕ). get_or (l ++ 10 ∷ rest) 0 0) e)))),
  ),
)

pub not_unsatisfiable : (variables : ℕ) (text literals : List ℕ) → variables ≤ 2147483648
    → SpellsModel variables text literals → HasStatus SaysUnsatisfiable variables text → ⊥
not_unsatisfiable variables text literals small spells h =
    no_answer SaysUnsatisfiable otherwise_unsatisfiable variables text literals small spells h

pub not_unknown : (variables : ℕ) (text literals : List ℕ) → variables ≤ 2147483648 → SpellsModel variables text literals
    → HasStatus SaysUnknown variables text → ⊥
not_unknown variables text literals small spells h =
    no_answer SaysUnknown otherwise_unknown variables text literals small spells h

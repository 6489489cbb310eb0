-- Where a text is refused, no model goes on.
use Rattle.std.proofs.Common.{◌≡◌, ◌≢◌, inl, inr, ℕ, zero, suc, ◌+◌, ◌-◌, ◌<◌, ◌≤◌, Bool, false, List, [], ◌∷◌, ◌++◌}
use Rattle.std.proofs.Common.{length, take, drop, Contains, All, Some, slice_get, sym, ap, ◌∙◌, subst, arith}
use Rattle.std.proofs.Common.{append_assoc}
use Rattle.std.specs.Prelude.{IsTrue}
use Rattle.std.proofs.lemmas.Bool.{false≢true}
use Rattle.std.proofs.lemmas.List.{append-nil, append_cancel_left, drop_all, length-drop, length-take-le, length_push}
use Rattle.std.proofs.lemmas.List.{take-append-drop}
use Rattle.std.proofs.lemmas.List.Elements.{All-nil, Contains-append_left, Contains-push}
use Rattle.aig_bytes.proofs.Cuts.{split_at}
use Rattle.aig_parts.specs.Literal.{negation, variable}
use Rattle.aig_parts.specs.declared.ternary.Tern.{Tern}
use Rattle.aig_sat.specs.model.ModelText.{BeginsLine, IsModelOf, SaysSatisfiable, IsSpace, Names, number_text}
use Rattle.aig_sat.specs.model.Named.{AreNamed}
use Rattle.aig_sat.specs.declared.model.reader.Phase.TheVariants.{Before, After}
use Rattle.aig_sat.specs.declared.model.progress.Reader.{Reader}
use Rattle.aig_sat.specs.model.state.Reading.{BeginsLineAt, IsAnswerByte, ReadUpTo}
use Rattle.aig_sat.proofs.models.ModelLemmas.{line_stands}
use Rattle.aig_sat.proofs.models.NamedLemmas.{both_signs}
use Rattle.aig_sat.proofs.models.OneModel.{Goes, Next, ended, next_piece, only_answer, passed, turned}
use Rattle.aig_sat.proofs.models.PieceLemmas.{FirstByte, MayBe, MayStand, Piece, Word, begins, no_space_in_word}
use Rattle.aig_sat.proofs.models.PieceLemmas.{piece_text, with_named, word_text}

-- the first byte that is left stands at the place
there : (xs : List ℕ) (at x : ℕ) (rest : List ℕ) → drop at xs ≡ x ∷ rest → slice_get xs at ≡ Some x
there [] zero x rest e = let no : ⊥ = cc in absurd no
there [] (suc at) x rest e = let no : ⊥ = cc in absurd no
there (y ∷ xs) zero x rest e = let is : y ≡ x = cc in ap Some is
there (y ∷ xs) (suc at) x rest e = there xs at x rest e

-- no line begins there by which a solver answers, and no comment
pub no_line : (reader : Reader) (text : List ℕ) (at x : ℕ) (starts comment answers : Bool)
    → slice_get (text ++ 10 ∷ []) at ≡ Some x → (BeginsLine (take at (text ++ 10 ∷ [])) → IsTrue starts)
    → (IsTrue starts × (x ≡ 99) → IsTrue comment)
    → (IsTrue starts × ((reader.phase ≡ Before) × IsAnswerByte x) → IsTrue answers) → comment ≡ false → answers ≡ false
    → BeginsLineAt reader text at → ⊥
no_line reader text at x starts comment answers is line of_comment of_answer lacks lacks' h =
    let same : h.first ≡ x = let k : Some h.first ≡ Some x = sym h.there ∙ is in cc in
    elim h.is [
      | inl e ↦ false≢true (sym lacks ∙ of_comment (line h.begins, sym same ∙ e))
      | inr e ↦ false≢true (sym lacks' ∙ of_answer (line h.begins, (e.0, subst IsAnswerByte same e.1)))
    ]

module _ (variables : ℕ) (reader : Reader) (text : List ℕ) (at : ℕ) (values : List Tern) (small : variables ≤ 2147483648)
    (count : length reader.values ≡ variables) (before : ReadUpTo reader text at) (model : IsModelOf variables text values) where
  left : Goes variables model.0 (take at (text ++ 10 ∷ [])) reader.phase before.1.0 (drop at (text ++ 10 ∷ []))
  left =
      passed (subst (λ (n : ℕ). Names n (take at (text ++ 10 ∷ [])) reader.phase before.1.0) count before.1.1.names) small
      model.0 (drop at (text ++ 10 ∷ []))
      (subst (Goes variables model.0 [] Before [])
      (append-nil (text ++ 10 ∷ []) ∙ sym (take-append-drop at (text ++ 10 ∷ [])))
      (turned model.1 model.0 [] Goes.done))

  -- where all was read, the 0 was
  pub has_ended : length text < at → reader.phase ≡ After
  has_ended over = (ended small left (drop_all at (text ++ 10 ∷ []) (omega (arith, over, length_push text 10)))).0

  next : at ≤ length text
      → Next variables model.0 (take at (text ++ 10 ∷ [])) before.1.0 (drop at (text ++ 10 ∷ [])) reader.phase
  next bound = next_piece left (omega (arith, bound, length-drop at (text ++ 10 ∷ []), length_push text 10))

  named : AreNamed before.1.0 variables reader.values
  named = subst (λ (n : ℕ). AreNamed before.1.0 n reader.values) count before.1.1.named

  -- the bytes from the place to one after it, and the rest
  module _ (end b : ℕ) (after : at ≤ end) (bound : end ≤ length text) (ends : slice_get (text ++ 10 ∷ []) end ≡ Some b) where
    rest : List ℕ
    rest = drop (end + 1) (text ++ 10 ∷ [])

    piece_there : drop at (text ++ 10 ∷ []) ≡ take (end - at) (drop at text) ++ b ∷ drop (end + 1) (text ++ 10 ∷ [])
    piece_there =
        append_cancel_left (take at (text ++ 10 ∷ [])) _ _
        (take-append-drop at (text ++ 10 ∷ []) ∙ line_stands text at end b after bound ends)

    -- a line that may be an answer, and says no model
    pub line_refused : b ≡ 10 → All (λ z. z ≢ 10) (take (end - at) (drop at text))
        → ((x : ℕ) → slice_get (text ++ 10 ∷ []) at ≡ Some x → IsAnswerByte x)
        → (SaysSatisfiable (take (end - at) (drop at text)) → ⊥) → ⊥
    line_refused lf inside answer not =
        not (only_answer variables model.0 (take at (text ++ 10 ∷ [])) before.1.0 (take (end - at) (drop at text))
        (drop (end + 1) (text ++ 10 ∷ [])) reader.phase small inside
        (λ x xs e. answer x (there (text ++ 10 ∷ []) at x xs (line_there ∙ e)))
        (subst (λ (whole : List ℕ). Next variables model.0 (take at (text ++ 10 ∷ [])) before.1.0 whole reader.phase)
        line_there (next (omega (arith, after, bound)))))
      where
        line_there : drop at (text ++ 10 ∷ []) ≡ take (end - at) (drop at text) ++ 10 ∷ drop (end + 1) (text ++ 10 ∷ [])
        line_there =
            piece_there
            ∙ ap (λ (z : ℕ). take (end - at) (drop at text) ++ z ∷ drop (end + 1) (text ++ 10 ∷ [])) lf

    -- a word that may not stand there
    pub word_refused : at < end → IsSpace b → All (λ z. IsSpace z → ⊥) (take (end - at) (drop at text)) → (begins' : Bool)
        → (BeginsLine (take at (text ++ 10 ∷ [])) → IsTrue begins')
        → (reader.phase ≢ After → IsTrue begins' → take (end - at) (drop at text) ≢ 118 ∷ [])
        → (reader.phase ≢ After → take (end - at) (drop at text) ≢ 48 ∷ [])
        → (reader.phase ≢ After → (l : ℕ) → variable l < variables → take (end - at) (drop at text) ≡ number_text l
        → (literals : List ℕ) → AreNamed literals variables reader.values → Contains literals (negation l))
        → BeginsLineAt reader text at
    word_refused some space inside begins' line no_mark no_end no_literal =
        let n = next (omega (arith, after, bound)) in
        let k = begins variables (take at (text ++ 10 ∷ [])) reader.phase n.piece n.rest small n.stands in
        by n.piece n.rest n.text_is n.stands n.more n.all_is k.first k.is
        (there (text ++ 10 ∷ []) at k.first k.rest (n.text_is ∙ k.text_is))
      where
        has_bytes : length (take (end - at) (drop at text)) ≡ end - at
        has_bytes = length-take-le (end - at) (drop at text) (omega (arith, length-drop at text, after, bound))

        of_word : (w : Word) → reader.phase ≢ After → MayBe variables (take at (text ++ 10 ∷ [])) w
            → (more : List ℕ) → with_named before.1.0 (Piece.word w 32) ++ more ≡ model.0
            → take (end - at) (drop at text) ≡ word_text w → ⊥
        of_word Word.mark within may more all e = no_mark within (line may) e
        of_word Word.end within may more all e = no_end within e
        of_word (Word.literal l) within may more all e =
            both_signs model.0 variables values l model.2 may
            (subst (λ (xs : List ℕ). Contains xs l) all
            (Contains-append_left (before.1.0 ++ l ∷ []) more l (Contains-push before.1.0 l)))
            (subst (λ (xs : List ℕ). Contains xs (negation l)) all
            (Contains-append_left (before.1.0 ++ l ∷ []) more (negation l)
            (Contains-append_left before.1.0 (l ∷ []) (negation l) (no_literal within l may e before.1.0 named))))

        by : (p : Piece) (rest : List ℕ) → drop at (text ++ 10 ∷ []) ≡ piece_text p ++ rest
            → MayStand variables (take at (text ++ 10 ∷ [])) reader.phase p → (more : List ℕ)
            → with_named before.1.0 p ++ more ≡ model.0 → (x : ℕ) → FirstByte p x
            → slice_get (text ++ 10 ∷ []) at ≡ Some x → BeginsLineAt reader text at
        by (Piece.space c) rest e s more all x f is =
            let r = split_at IsSpace [] (take (end - at) (drop at text)) rest (drop (end + 1) (text ++ 10 ∷ [])) c b
            (All-nil (λ z. IsSpace z → ⊥)) inside s space (sym e ∙ piece_there) in
            let none : 0 ≡ length (take (end - at) (drop at text)) = ap length r.0 in
            absurd (omega (arith, none, has_bytes, some))
        by (Piece.comment line') rest e s more all x f is = record { begins = s.1; first = x; there = is; is = inl f }
        by (Piece.status line') rest e s more all x f is = record {
          begins = s.1.0;
          first = x;
          there = is;
          is = inr (s.1.1, elim f [ inl e ↦ inl e | inr e ↦ inr (inl e) ]);
        }
        by (Piece.word w c) rest e s more all x f is =
            let r = split_at IsSpace (word_text w) (take (end - at) (drop at text)) rest (drop (end + 1) (text ++ 10 ∷ [])) c b
            (no_space_in_word variables (take at (text ++ 10 ∷ [])) w small s.1.1) inside s.0 space
            (sym (append_assoc (word_text w) (c ∷ []) rest) ∙ sym e ∙ piece_there) in
            absurd (of_word w s.1.0 s.1.1 more (same w c more all) (sym r.0))
          where
            same : (w : Word) (c : ℕ) (more : List ℕ) → with_named before.1.0 (Piece.word w c) ++ more ≡ model.0
                → with_named before.1.0 (Piece.word w 32) ++ more ≡ model.0
            same Word.mark c more e = e
            same (Word.literal l) c more e = e
            same Word.end c more e = e

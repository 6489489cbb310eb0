-- A text of cuts, as far as it was read.
use Rattle.std.proofs.Common.{◌≡◌, ◌≢◌, ℕ, zero, suc, ◌+◌, ◌<◌, ◌≤◌, List, [], ◌∷◌, ◌++◌, length, flat_map, All, refl, sym, ◌∙◌}
use Rattle.std.proofs.Common.{ap, subst, arith, append_assoc, length-append}
use Rattle.std.proofs.lemmas.Grind.{flat_map-append}
use Rattle.std.proofs.lemmas.List.{append-nil}
use Rattle.std.proofs.lemmas.List.Elements.{All-nil, All-push}
use Rattle.aig_parts.specs.declared.raw.Raw.{Raw}
use Rattle.aig_cut.specs.declared.line.Cut.{Cut}
use Rattle.aig_cut.specs.declared.marks.Marks.{Marks}
use Rattle.aig_cut.specs.Cuts.{IsCutIn}
use Rattle.aig_cut.specs.Lines.{AreCuts, IsFirstWrong, cut_line, cuts_text}
use Rattle.aig_cut.specs.state.Marks.{AreMarks}

-- these marks are set, this is left, and this is the number of the next line
pub record HasRead (raw : Raw) (text : List ℕ) (marks : Marks) (rest : List ℕ) (line : ℕ) : Type 0 where
  pub cuts : List Cut
  pub spelled : text ≡ cuts_text cuts ++ rest
  pub each : All (IsCutIn raw) cuts
  pub marks_are : AreMarks raw cuts marks
  pub number : line ≡ length cuts + 1

module _ (raw : Raw) (text : List ℕ) where
  pub read_more : (old new : Marks) (rest after : List ℕ) (line : ℕ) (c : Cut) → rest ≡ cut_line c ++ 10 ∷ after
      → IsCutIn raw c → ((cuts : List Cut) → AreMarks raw cuts old → AreMarks raw (cuts ++ c ∷ []) new)
      → HasRead raw text old rest line → HasRead raw text new after (line + 1)
  read_more old new rest after line c is here marked h =
      let one : cuts_text (c ∷ []) ≡ cut_line c ++ 10 ∷ [] = append-nil (cut_line c ++ 10 ∷ []) in
      let more : cuts_text (h.cuts ++ c ∷ []) ≡ cuts_text h.cuts ++ (cut_line c ++ 10 ∷ []) =
      flat_map-append (λ (d : Cut). cut_line d ++ 10 ∷ []) h.cuts (c ∷ []) ∙ ap (λ (xs : List ℕ). cuts_text h.cuts ++ xs) one in
      let split : rest ≡ (cut_line c ++ 10 ∷ []) ++ after = is ∙ sym (append_assoc (cut_line c) (10 ∷ []) after) in
      record {
        cuts = h.cuts ++ c ∷ [];
        spelled = h.spelled ∙ ap (λ (xs : List ℕ). cuts_text h.cuts ++ xs) split
            ∙ sym (append_assoc (cuts_text h.cuts) (cut_line c ++ 10 ∷ []) after)
            ∙ ap (λ (xs : List ℕ). xs ++ after) (sym more);
        each = All-push (IsCutIn raw) h.cuts c h.each here;
        marks_are = marked h.cuts h.marks_are;
        number = omega (arith, h.number, length-append h.cuts (c ∷ []));
      }

  pub read_all : (marks : Marks) (rest : List ℕ) (line : ℕ) → rest ≡ [] → HasRead raw text marks rest line
      → (cuts : List Cut) × AreCuts raw text cuts × AreMarks raw cuts marks
  read_all marks rest line end h = (
    h.cuts,
    record {
      spelled = h.spelled ∙ ap (λ (xs : List ℕ). cuts_text h.cuts ++ xs) end ∙ append-nil (cuts_text h.cuts);
      each = h.each;
    },
    h.marks_are,
  )

  -- each line has at least one byte
  lines_long : (cuts : List Cut) → length cuts ≤ length (cuts_text cuts)
  lines_long [] = omega arith
  lines_long (c ∷ cuts) =
      let first = length-append (cut_line c ++ 10 ∷ []) (cuts_text cuts) in
      let last = length-append (cut_line c) (10 ∷ []) in
      let others = lines_long cuts in
      omega (arith, first, last, others)

  pub few_lines : (marks : Marks) (rest : List ℕ) (line : ℕ) → HasRead raw text marks rest line
      → line + length rest ≤ length text + 1
  few_lines marks rest line h =
      let all : length text ≡ length (cuts_text h.cuts) + length rest =
      ap length h.spelled ∙ length-append (cuts_text h.cuts) rest in
      omega (arith, all, lines_long h.cuts, h.number)

  nothing_left : (rest : List ℕ) → length rest ≡ 0 → rest ≡ []
  nothing_left [] none = refl
  nothing_left (b ∷ rest) none = absurd (omega (arith, none))

  -- after as many lines as there are bytes nothing is left
  pub read_end : (marks : Marks) (rest : List ℕ) (line : ℕ) → length text < line → HasRead raw text marks rest line
      → (cuts : List Cut) × AreCuts raw text cuts × AreMarks raw cuts marks
  read_end marks rest line past h =
      let few = few_lines marks rest line h in
      read_all marks rest line (nothing_left rest (omega (arith, few, past))) h

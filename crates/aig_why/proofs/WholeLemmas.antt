-- The whole text: the first line, the frames, and the last lines.
use Rattle.std.proofs.Common.{◌≡◌, ◌↔◌, ℕ, ◌+◌, ◌<◌, ◌≤◌, Bool, true, false, List, [], ◌∷◌, ◌++◌, length, All, Contains}
use Rattle.std.proofs.Common.{IsTrue, refl, sym, ap, ◌∙◌, subst, arith, append_assoc, append-nil}
use Rattle.aig_parts.specs.declared.raw.Raw.{Raw}
use Rattle.aig_base.specs.Sections.{IsLatchLiteral}
use Rattle.aig_bench.specs.BenchState.{CircuitAndRows}
use Rattle.aig_causes.specs.Causes.{Moment, Sources, moment}
use Rattle.aig_causes.specs.Explanation.{ExplanationState, HasCome, IsNamed, LineState, named_at}
use Rattle.aig_base.specs.Resets.{HasOtherResets}
use Rattle.aig_base.proofs.values.Resets.{other_resets_back}
use Rattle.aig_signals.specs.declared.form.Form.{Form}
use Rattle.aig_why.specs.Lines.{AreFrameTexts, AreLastTexts, AreLineTexts, IsAskedText}
use Rattle.aig_why.specs.Why.{IsExplanation, run_of}
use Rattle.aig_why.specs.state.Naming.{Adds}
use Rattle.aig_why.proofs.FrameLemmas.{frame_more, none_there}
use Rattle.aig_why.proofs.OtherResets.{comes_down_in}
use Rattle.aig_why.proofs.TextLemmas.{latch_literals}

-- ---- the first line

latches_asked : (raw other : Raw) → HasOtherResets raw other → (literals : List ℕ) → All (IsLatchLiteral raw) literals
    → All (IsLatchLiteral other) literals
latches_asked raw other r literals h =
    subst (λ (ls : List ℕ). All (λ l. Contains ls l) literals) (sym (latch_literals raw.latches other.latches r.latches)) h

-- the text of the first line, empty where latches alone are asked for
pub record FirstLine (form : Form) (raw : Raw) (m : Moment) (name literals : List ℕ) (asked : Sources) (text : List ℕ) : Type 0 where
  pub alone : All (IsLatchLiteral raw) literals → text ≡ []
  pub line : (All (IsLatchLiteral raw) literals → ⊥) → IsAskedText form raw m name literals asked text

pub first_line : (form : Form) (raw : Raw) (pair : CircuitAndRows) (m : Moment) (name literals : List ℕ) (asked : Sources) (alone : Bool)
    (text : List ℕ) → HasOtherResets raw pair.circuit → (IsTrue alone ↔ All (IsLatchLiteral pair.circuit) literals)
    → (IsTrue alone → text ≡ []) → ((IsTrue alone → ⊥) → Adds (IsAskedText form raw m name literals asked) [] text)
    → FirstLine form raw m name literals asked text
first_line form raw pair m name literals asked true text r is none line = record {
  alone = λ all. none refl;
  line = λ other. absurd (other (latches_asked pair.circuit raw (other_resets_back raw pair.circuit r) literals (is.0 refl)));
}
first_line form raw pair m name literals asked false text r is none line = record {
  alone = λ all. none (is.1 (latches_asked raw pair.circuit r literals all));
  line = λ other.
      let (added, is_added, e) = line (λ (h : IsTrue false). cc) in
      subst (IsAskedText form raw m name literals asked) (sym e) is_added;
}

-- ---- the frames

pub no_frames : (form : Form) (raw : Raw) (m : Moment) (text : List ℕ) → Adds (AreFrameTexts form raw m []) text text
unfolding AreFrameTexts
no_frames form raw m text = ([], refl, sym (append-nil text))

pub frame_added : (form : Form) (raw : Raw) (pair : CircuitAndRows) (f below : ℕ) (lines : List LineState) (frames : List (List LineState))
    (old middle new : List ℕ) → below + 1 ≡ f → Adds (AreFrameTexts form raw (moment pair f) frames) old middle
    → Adds (AreLineTexts form raw (moment pair below) lines) middle new
    → Adds (AreFrameTexts form raw (moment pair below) (lines ∷ frames)) old new
frame_added form raw pair f below lines frames old middle new up h k =
    let (above, is_above, e) = h in
    let (here, is_here, d) = k in (
      above ++ here,
      frame_more form raw pair f below lines frames above here up is_above is_here,
      d ∙ ap (λ (t : List ℕ). t ++ here) e ∙ append_assoc old above here,
    )

-- ---- all together

pub explanation : (form : Form) (raw : Raw) (pair : CircuitAndRows) (e : ExplanationState) (name literals : List ℕ) (t least : ℕ)
    (frames : List (List LineState)) (first middle text : List ℕ) → HasOtherResets raw pair.circuit
    → HasCome pair literals e frames [] → e.frame + length frames ≡ t → least ≤ e.frame
    → (least < e.frame → (q : ℕ) → IsNamed e.named q → ⊥) → FirstLine form raw (moment pair t) name literals e.asked first
    → Adds (AreFrameTexts form raw (moment pair e.frame) frames) first middle
    → Adds (AreLastTexts form raw (moment pair e.frame) (named_at e.asked frames).latches) middle text
    → IsExplanation form raw (run_of pair) name literals t least text
explanation form raw pair e name literals t least frames first middle text r come down le none asked h k =
    let (lines, are_lines, is_middle) = h in
    let (last, are_last, is_text) = k in
    record {
      asked = e.asked;
      frames = frames;
      f = e.frame;
      down = down;
      explains = comes_down_in raw pair.circuit r literals e.asked (moment pair e.frame) frames come.down;
      ends = (
        le,
        λ other.
            none_there (named_at e.asked frames).latches
            (λ q has. none (omega (arith, le, other)) q ((come.named q).1 has)),
      );
      first = first;
      lines = lines;
      last = last;
      first_alone = asked.alone;
      first_is = asked.line;
      lines_are = are_lines;
      last_are = are_last;
      text_is = is_text ∙ ap (λ (s : List ℕ). s ++ last) is_middle ∙ append_assoc first lines last;
    }

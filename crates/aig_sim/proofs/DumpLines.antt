-- The lines of a dump's text, and those of its header.
use Rattle.std.proofs.Common.{◌≡◌, ◌≢◌, ℕ, eqb, Bool, false, List, [], ◌∷◌, ◌++◌, slice_get, Some, All, refl, sym, ap}
use Rattle.std.proofs.Common.{◌∙◌, subst, arith, append_assoc}
use Rattle.std.specs.Prelude.{◌==◌, ◌||◌}
use Rattle.std.specs.List.{flat_map}
use Rattle.std.proofs.lemmas.Bool.{ne_eqb, eqb-false, or_parts}
use Rattle.std.proofs.lemmas.List.{append-nil}
use Rattle.std.proofs.lemmas.List.Elements.{All-nil, All-cons, All-head, All-tail, All-append}
use Rattle.aig_parts.specs.declared.raw.Raw.{Raw}
use Rattle.aig_sim.specs.DumpHeader.{signal_counts, header}
use Rattle.aig_sim.specs.DumpRead.{lines_after, lines}
use Rattle.aig_names.proofs.Codes.{IsVisible}
use Rattle.aig_names.proofs.HeaderLines.{lines_of_header}

-- ---- one line
abbrev pub HasNoEnd : List ℕ → Type 0
HasNoEnd bytes = All (λ b. b ≢ 10) bytes

abbrev pub has_end : List ℕ → Bool
has_end [] = false
has_end (b ∷ bytes) = b == 10 || has_end bytes

pub no_end_by_test : (bytes : List ℕ) → has_end bytes ≡ false → HasNoEnd bytes
no_end_by_test [] e = All-nil (λ b. b ≢ 10)
no_end_by_test (b ∷ bytes) e =
    let parts = or_parts (b == 10) (has_end bytes) e in
    All-cons (λ b. b ≢ 10) b bytes (eqb-false b 10 parts.0) (no_end_by_test bytes parts.1)

pub no_end_visible : (bytes : List ℕ) → All IsVisible bytes → HasNoEnd bytes
no_end_visible bytes h = λ k d lt e. let v = h k d lt in omega (arith, v.0, e)

line_after : (start line more : List ℕ) → HasNoEnd line
    → lines_after start (line ++ (10 ∷ more)) ≡ (start ++ line) ∷ lines more
unfolding lines_after
line_after start [] more h = ap (λ (l : List ℕ). l ∷ lines_after [] more) (sym (append-nil start))
line_after start (b ∷ line) more h =
    let other : eqb b 10 ≡ false = ne_eqb b 10 (All-head (λ b. b ≢ 10) b line h) in
    rw other
    (line_after (start ++ b ∷ []) line more (All-tail (λ b. b ≢ 10) b line h)
    ∙ ap (λ (l : List ℕ). l ∷ lines_after [] more) (append_assoc start (b ∷ []) line))

pub first_line : (line more : List ℕ) → HasNoEnd line → lines (line ++ (10 ∷ more)) ≡ line ∷ lines more
first_line line more h = line_after [] line more h

-- ---- lines that begin with `$`
abbrev pub IsDirective : List ℕ → Type 0
IsDirective line = slice_get line 0 ≡ Some 36

-- a text of whole lines, each of which begins with `$`
pub record AreDirectives (text : List ℕ) : Type 0 where
  pub each : List (List ℕ)
  pub cut : (more : List ℕ) → lines (text ++ more) ≡ each ++ lines more
  pub directives : All IsDirective each

pub no_directive : AreDirectives []
no_directive = record { each = []; cut = λ more. refl; directives = All-nil IsDirective }

pub directive_then : (line rest : List ℕ) → IsDirective line → HasNoEnd line → AreDirectives rest
    → AreDirectives (line ++ (10 ∷ rest))
directive_then line rest is no_end h = record {
  each = line ∷ h.each;
  cut = λ more. ap lines (append_assoc line (10 ∷ rest) more) ∙ first_line line (rest ++ more) no_end
      ∙ ap (λ (ls : List (List ℕ)). line ∷ ls) (h.cut more);
  directives = All-cons IsDirective line h.each is h.directives;
}

-- ---- the header
lines_directives : (each : List (List ℕ)) → All (λ line. HasNoEnd line × IsDirective line) each
    → AreDirectives (flat_map (λ line. line ++ 10 ∷ []) each)
lines_directives [] h = no_directive
lines_directives (line ∷ each) h =
    let (no_end, is) = All-head (λ line. HasNoEnd line × IsDirective line) line each h in
    subst AreDirectives (sym (append_assoc line (10 ∷ []) (flat_map (λ line. line ++ 10 ∷ []) each)))
    (directive_then line (flat_map (λ line. line ++ 10 ∷ []) each) is no_end
    (lines_directives each (All-tail (λ line. HasNoEnd line × IsDirective line) line each h)))

pub header_directives : (raw : Raw) → AreDirectives (header raw)
unfolding header
header_directives raw =
    let (each, text_is, all) = lines_of_header raw.symbols (signal_counts raw) in
    subst AreDirectives (sym text_is) (lines_directives each all)

pub header_lines : (raw : Raw) → All IsDirective (lines (header raw))
unfolding lines_after
header_lines raw =
    let h = header_directives raw in
    let same : lines (header raw) ≡ h.each =
    ap lines (sym (append-nil (header raw))) ∙ h.cut [] ∙ append-nil h.each in
    subst (λ (ls : List (List ℕ)). All IsDirective ls) (sym same) h.directives

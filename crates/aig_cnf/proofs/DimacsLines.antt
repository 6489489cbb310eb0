-- Lines of a text, as a reader of DIMACS has them.
use Rattle.std.proofs.Common.{◌≡◌, ◌≢◌, ℕ, true, false, not, List, [], ◌∷◌, ◌++◌}
use Rattle.std.proofs.Common.{filter, All, refl, sym, ap, ◌∙◌, arith, append_assoc}
use Rattle.std.specs.Prelude.{◌==◌, nat_lt, slice_index}
use Rattle.std.specs.Fmt.{decimal}
use Rattle.std.specs.List.{list_all, slice_split}
use Rattle.std.proofs.lemmas.Bool.{and_parts, ltb-true, ne_eqb}
use Rattle.std.proofs.lemmas.List.Elements.{All-nil, All-cons, All-append}
use Rattle.std.proofs.lemmas.List.Splits.{slice_split_at}
use Rattle.aig_bytes.proofs.Decimals.{decimal_lacks}
use Rattle.aig_cnf.specs.DimacsRead.{lines}

-- ---- lines

abbrev pub HasNoEnd : List ℕ → Type 0
HasNoEnd bytes = All (λ b. b ≢ 10) bytes

pub decimal_no_end : (n : ℕ) → HasNoEnd (decimal n)
decimal_no_end n = decimal_lacks 10 (λ h. omega (arith, h.0)) n

pub no_end_by_test : (bytes : List ℕ) → list_all (nat_lt 10) bytes ≡ true → HasNoEnd bytes
no_end_by_test [] e = All-nil (λ b. b ≢ 10)
no_end_by_test (b ∷ bytes) e =
    let parts = and_parts (nat_lt 10 b) (list_all (nat_lt 10) bytes) e in
    let above = ltb-true 10 b parts.0 in
    All-cons (λ b. b ≢ 10) b bytes (λ e. omega (arith, above, e)) (no_end_by_test bytes parts.1)

-- a text that is a line
pub record IsLine (text : List ℕ) : Type 0 where
  pub line : List ℕ
  pub no_end : HasNoEnd line
  pub is : text ≡ line ++ 10 ∷ []

abbrev pub line_end : IsLine (10 ∷ [])
line_end = record { line = []; no_end = All-nil (λ b. b ≢ 10); is = refl }

abbrev pub line_more : (bytes text : List ℕ) → HasNoEnd bytes → IsLine text → IsLine (bytes ++ text)
line_more bytes text h l = record {
  line = bytes ++ l.line;
  no_end = All-append (λ b. b ≢ 10) bytes l.line h l.no_end;
  is = ap (λ (xs : List ℕ). bytes ++ xs) l.is ∙ sym (append_assoc bytes l.line (10 ∷ []));
}

abbrev pub line_byte : (b : ℕ) (text : List ℕ) → b ≢ 10 → IsLine text → IsLine (b ∷ text)
line_byte b text ne l = line_more (b ∷ []) text (All-cons (λ b. b ≢ 10) b [] ne (All-nil (λ b. b ≢ 10))) l

-- a reader has these lines of a text, whatever follows
pub record HasLines (text : List ℕ) (each : List (List ℕ)) : Type 0 where
  pub at : (more : List ℕ) → lines (text ++ more) ≡ each ++ lines more

pub lines_none : HasLines [] []
lines_none = record { at = λ more. refl }

pub lines_then : (a b : List ℕ) (ls ms : List (List ℕ)) → HasLines a ls → HasLines b ms → HasLines (a ++ b) (ls ++ ms)
lines_then a b ls ms h k = record {
  at = λ more. ap lines (append_assoc a b more) ∙ h.at (b ++ more)
      ∙ ap (λ (xs : List (List ℕ)). ls ++ xs) (k.at more) ∙ sym (append_assoc ls ms (lines more));
}

no_cut : (line : List ℕ) → HasNoEnd line → All (λ b. (b == 10) ≡ false) line
no_cut line h = λ k d lt. ne_eqb _ 10 (h k d lt)

cut_line : (line more : List ℕ) → HasNoEnd line
    → slice_split (λ b. b == 10) ((line ++ 10 ∷ []) ++ more) ≡ line ∷ slice_split (λ b. b == 10) more
cut_line line more h =
    ap (slice_split (λ b. b == 10)) (append_assoc line (10 ∷ []) more)
    ∙ slice_split_at (λ b. b == 10) line 10 more (no_cut line h) refl

abbrev kept : List (List ℕ) → List (List ℕ)
kept ls = filter (λ line. not (slice_index line 0 == 99)) ls

-- a line that begins with `c`
pub comment_line : (text : List ℕ) → IsLine text → HasLines (99 ∷ text) []
comment_line text l = record {
  at = λ more.
      let whole : IsLine (99 ∷ text) = line_byte 99 text (λ e. omega (arith, e)) l in
      ap lines (ap (λ (xs : List ℕ). xs ++ more) whole.is)
      ∙ ap kept (cut_line whole.line more whole.no_end);
}

-- another one
pub other_line : (text : List ℕ) (l : IsLine text) → slice_index l.line 0 ≢ 99 → HasLines text (l.line ∷ [])
other_line text l other = record {
  at = λ more.
      ap lines (ap (λ (xs : List ℕ). xs ++ more) l.is) ∙ ap kept (cut_line l.line more l.no_end)
      ∙ (let is = ap not (ne_eqb (slice_index l.line 0) 99 other) in rw is refl);
}

-- The lines of an explanation, and those of them that are shown.
use Rattle.std.proofs.Common.{◌≡◌, ◌≢◌, ◌⊎◌, ℕ, zero, suc, ◌+◌, ◌-◌, ◌<◌, ◌≤◌, Bool, true, false, List, [], ◌∷◌, ◌++◌}
use Rattle.std.proofs.Common.{length, take, drop, All, Some, slice_get, cond, inl, inr, refl, sym, ap, subst, ◌∙◌}
use Rattle.std.proofs.Common.{arith, append_assoc}
use Rattle.std.specs.Prelude.{◌==◌, count_by}
use Rattle.std.proofs.lemmas.Bool.{cases_eq, cases_lt}
use Rattle.std.proofs.lemmas.Bool.Decides.{eqb_tells}
use Rattle.std.proofs.lemmas.Grind.{flat_map-append}
use Rattle.std.proofs.lemmas.List.{append-nil, length-append, nil_from_length}
use Rattle.std.proofs.lemmas.List.Elements.{All-cons, All-head, All-nil, All-tail}
use Rattle.std.proofs.lemmas.List.Sums.{sum_by-cons}
use Rattle.std.proofs.lemmas.Option.{same_Some}
use Rattle.aig_parts.specs.declared.raw.Raw.{Raw}
use Rattle.aig_base.specs.Sections.{IsLatchLiteral}
use Rattle.aig_causes.specs.Causes.{Moment}
use Rattle.aig_causes.specs.Explanation.{LineState, named_at}
use Rattle.aig_causes.specs.Lines.{next}
use Rattle.aig_signals.specs.declared.text.Naming.{Naming}
use Rattle.aig_signals.specs.declared.text.Origin.{Origin}
use Rattle.aig_signals.specs.declared.text.Origin.TheVariants as origin
use Rattle.aig_signals.specs.Text.{line, named_words}
use Rattle.aig_signals.specs.declared.form.Form.TheVariants.{Text}
use Rattle.aig_why.specs.Lines.{AreFrameTexts, AreLastTexts, AreLineTexts, IsOriginText, ShowsLine}
use Rattle.aig_why.specs.Why.{IsExplanation, Run, at}
use Rattle.aig_prompt.specs.Folded.{Folds, text_words}
use Rattle.aig_shell.specs.Explained.{AddsLines, AreFolded, AreLines, Explains, ShowsLines, ended, more_text}

-- ---- texts of whole lines

-- no byte, or an LF as the last
abbrev pub EndsWell : List ℕ → Type 0
EndsWell [] = Unit {0}
EndsWell (x ∷ []) = x ≡ 10
EndsWell (x ∷ (y ∷ ys)) = EndsWell (y ∷ ys)

ends_joined : (a b : List ℕ) → EndsWell a → EndsWell b → EndsWell (a ++ b)
ends_joined [] b h k = k
ends_joined (x ∷ []) [] h k = h
ends_joined (x ∷ []) (y ∷ b) h k = k
ends_joined (x ∷ (y ∷ a)) b h k = ends_joined (y ∷ a) b h k

ends_rest : (a b : List ℕ) → EndsWell (a ++ b) → EndsWell b
ends_rest [] b h = h
ends_rest (x ∷ []) [] h = tt
ends_rest (x ∷ []) (y ∷ b) h = h
ends_rest (x ∷ (y ∷ a)) b h = ends_rest (y ∷ a) b h

ends_last : (a : List ℕ) → EndsWell (a ++ 10 ∷ [])
ends_last [] = refl
ends_last (x ∷ []) = refl
ends_last (x ∷ (y ∷ a)) = ends_last (y ∷ a)

ends_or_not : (a : List ℕ) → EndsWell a ⊎ (EndsWell a → ⊥)
ends_or_not [] = inl tt
ends_or_not (x ∷ []) = cases_eq x 10
ends_or_not (x ∷ (y ∷ a)) = ends_or_not (y ∷ a)

-- ---- an explanation is a text of whole lines

line_ends : (head text : List ℕ) (n : Naming) → text ≡ line head n → EndsWell text
line_ends head text n is =
    subst EndsWell (append_assoc head (58 ∷ named_words n) (10 ∷ []) ∙ sym is) (ends_last (head ++ (58 ∷ named_words n)))

origin_ends : (raw : Raw) (m : Moment) (o : Origin) (latches text : List ℕ) → IsOriginText Text raw m o latches text → EndsWell text
origin_ends raw m o [] text is = subst EndsWell (sym is) tt
origin_ends raw m o (p ∷ more) text (n, names, is) = line_ends _ text n is

shown_ends : (kept : Bool) (raw : Raw) (m : Moment) (x : LineState) (text : List ℕ) → ShowsLine kept Text raw m x text → EndsWell text
shown_ends true raw m x text is = subst EndsWell (sym is) tt
shown_ends false raw m x text h = line_ends _ text h.right h.text_is

lines_end : (raw : Raw) (m : Moment) (xs : List LineState) (text : List ℕ) → AreLineTexts Text raw m xs text → EndsWell text
unfolding AreLineTexts
lines_end raw m [] text is = subst EndsWell (sym is) tt
lines_end raw m (x ∷ xs) text (here, rest, shows, are, is) =
    subst EndsWell (sym is) (ends_joined here rest (shown_ends x.kept raw m x here shows) (lines_end raw m xs rest are))

frames_end : (raw : Raw) (m : Moment) (frames : List (List LineState)) (text : List ℕ) → AreFrameTexts Text raw m frames text → EndsWell text
unfolding AreFrameTexts
frames_end raw m [] text is = subst EndsWell (sym is) tt
frames_end raw m (lines ∷ frames) text (above, here, are, shows, is) =
    subst EndsWell (sym is) (ends_joined above here (frames_end raw (next m) frames above are) (lines_end raw m lines here shows))

last_ends : (raw : Raw) (m : Moment) (latches text : List ℕ) (frame : ℕ) → m.frame ≡ frame → AreLastTexts Text raw m latches text
    → EndsWell text
last_ends raw m latches text zero e h =
    let (reset, other, first, second, starts, others, is_first, is_second, is) = h.at_start e in
    subst EndsWell (sym is)
    (ends_joined first second (origin_ends raw m origin.Reset reset first is_first) (origin_ends raw m origin.Start other second is_second))
last_ends raw m latches text (suc frame) e h =
    origin_ends raw m (origin.NotExplained m.frame) latches text (h.unexplained (omega (arith, e)))

pub explanation_ends : (raw : Raw) (run : Run) (name literals : List ℕ) (t least : ℕ) (text : List ℕ)
    → IsExplanation Text raw run name literals t least text → EndsWell text
explanation_ends raw run name literals t least text h =
    subst EndsWell (sym h.text_is) (ends_joined h.first (h.lines ++ h.last) first_ends
    (ends_joined h.lines h.last (frames_end raw (at run h.f) h.frames h.lines h.lines_are)
    (last_ends raw (at run h.f) (named_at h.asked h.frames).latches h.last h.f refl h.last_are)))
  where
    first_ends : EndsWell h.first
    first_ends = elim (ends_or_not h.first) [
      | inl ends ↦ ends
      | inr unended ↦ (
          let some : All (IsLatchLiteral raw) literals → ⊥ = λ alone. unended (subst EndsWell (sym (h.first_alone alone)) tt) in
          let is = h.first_is some in
          line_ends _ h.first is.named is.text_is
          )
    ]

-- ---- how many lines there are

ends_count : (b : Bool) (x n : ℕ) (xs : List ℕ) → (x == 10) ≡ b → count_by (λ y. y == 10) xs ≡ n
    → count_by (λ y. y == 10) (x ∷ xs) ≡ cond b 1 0 + n
ends_count b x n xs e f =
    sum_by-cons (λ (y : ℕ). cond (y == 10) 1 0) x xs ∙ ap (λ (c : Bool). cond c 1 0 + count_by (λ y. y == 10) xs) e
    ∙ ap (λ (m : ℕ). cond b 1 0 + m) f

-- a text of whole lines is cut into its lines
abbrev pub IsCut : List ℕ → Type 0
IsCut text =
    (lines : List (List ℕ)) × (text ≡ ended lines) × AreLines lines × (length lines ≡ count_by (λ y. y == 10) text)

cut_longer : (x : ℕ) (text : List ℕ) → (x ≢ 10) → (x == 10) ≡ false → (text ≢ []) → IsCut text → IsCut (x ∷ text)
cut_longer x text other e some ([], is, are, size) = absurd (some is)
cut_longer x text other e some (l ∷ lines, is, are, size) = (
  (x ∷ l) ∷ lines,
  ap (λ (t : List ℕ). x ∷ t) is,
  All-cons (λ line. All (λ b. b ≢ 10) line) (x ∷ l) lines
      (All-cons (λ b. b ≢ 10) x l other (All-head (λ line. All (λ b. b ≢ 10) line) l lines are))
      (All-tail (λ line. All (λ b. b ≢ 10) line) l lines are),
  omega (arith, ends_count false x (length (l ∷ lines)) text e (sym size)),
)

cut_next : (x : ℕ) (text : List ℕ) → (x == 10) ≡ true → x ≡ 10 → IsCut text → IsCut (x ∷ text)
cut_next x text e here (lines, is, are, size) = (
  [] ∷ lines,
  ap (λ (t : List ℕ). x ∷ t) is ∙ ap (λ (b : ℕ). b ∷ ended lines) here,
  All-cons (λ line. All (λ b. b ≢ 10) line) [] lines (All-nil (λ b. b ≢ 10)) are,
  omega (arith, size, ends_count true x (count_by (λ y. y == 10) text) text e refl),
)

cut_more : (x : ℕ) (text : List ℕ) → (text ≡ [] → x ≡ 10) → IsCut text → IsCut (x ∷ text)
cut_more x text last cut = elim (eqb_tells x 10) [
  | inl e ↦ cut_next x text e.0 e.1 cut
  | inr e ↦ cut_longer x text e.1 e.0 (λ none. e.1 (last none)) cut
]

pub cut_lines : (text : List ℕ) → EndsWell text → IsCut text
cut_lines [] h = ([], refl, All-nil (λ line. All (λ b. b ≢ 10) line), refl)
cut_lines (x ∷ []) h = cut_more x [] (λ none. h) (cut_lines [] tt)
cut_lines (x ∷ (y ∷ text)) h = cut_more x (y ∷ text) (λ none. let no : ⊥ = cc in absurd no) (cut_lines (y ∷ text) h)

count_joined : (a b : List ℕ) → count_by (λ y. y == 10) (a ++ b) ≡ count_by (λ y. y == 10) a + count_by (λ y. y == 10) b
count_joined [] b = let none : (n : ℕ) → n ≡ 0 + n = λ n. omega arith in none (count_by (λ y. y == 10) b)
count_joined (x ∷ a) b =
    ends_count (x == 10) x _ (a ++ b) refl (count_joined a b)
    ∙ omega (arith, ends_count (x == 10) x _ a refl refl)

no_ends_counted : (line : List ℕ) → All (λ b. b ≢ 10) line → count_by (λ y. y == 10) line ≡ 0
no_ends_counted [] h = refl
no_ends_counted (x ∷ line) h = elim (eqb_tells x 10) [
  | inl e ↦ absurd (All-head (λ b. b ≢ 10) x line h e.1)
  | inr e ↦ ends_count false x 0 line e.0 (no_ends_counted line (All-tail (λ b. b ≢ 10) x line h))
]

lines_counted : (lines : List (List ℕ)) → AreLines lines → count_by (λ y. y == 10) (ended lines) ≡ length lines
lines_counted [] h = refl
lines_counted (l ∷ lines) h =
    let here = no_ends_counted l (All-head (λ line. All (λ b. b ≢ 10) line) l lines h) in
    let more = lines_counted lines (All-tail (λ line. All (λ b. b ≢ 10) line) l lines h) in
    let one : count_by (λ y. y == 10) (10 ∷ []) ≡ 1 = refl in
    count_joined (l ++ 10 ∷ []) (ended lines) ∙ omega (arith, count_joined l (10 ∷ []), here, more, one)

lines_joined : (a b : List (List ℕ)) → AreLines a → AreLines b → AreLines (a ++ b)
lines_joined [] b h k = k
lines_joined (l ∷ a) b h k =
    All-cons (λ line. All (λ c. c ≢ 10) line) l (a ++ b) (All-head (λ line. All (λ c. c ≢ 10) line) l a h)
    (lines_joined a b (All-tail (λ line. All (λ c. c ≢ 10) line) l a h) k)

-- ---- what is shown

pub shows_lines : (last : ℕ) (full middle new : List ℕ) (count : ℕ) → EndsWell full → AddsLines full [] middle
    → count ≡ count_by (λ y. y == 10) full → (last ≡ 0) ⊎ (41 < count) → new ≡ middle ++ more_text last (count - 40)
    → ShowsLines last full new
shows_lines last full middle new count whole adds is enough e =
    let shown = adds.shown in
    let (left, rest_is, are, size) = cut_lines adds.rest (ends_rest (ended shown) adds.rest (subst EndsWell adds.full_is whole)) in
    let total : count ≡ length shown + length left =
    is ∙ ap (count_by (λ y. y == 10)) adds.full_is ∙ count_joined (ended shown) adds.rest
    ∙ omega (arith, lines_counted shown adds.lines, size) in
    let few : length shown < 40 → length left ≡ 0 = λ lt. size ∙ no_ends_counted adds.rest (adds.all lt) in
    let most = adds.most in
    record {
      shown = shown;
      left = left;
      full_is = adds.full_is ∙ ap (λ (rest : List ℕ). ended shown ++ rest) rest_is
          ∙ sym (flat_map-append (λ (l : List ℕ). l ++ 10 ∷ []) shown left);
      lines = lines_joined shown left adds.lines are;
      some = λ some. elim (cases_lt (length shown) 40) [
        | inl lt ↦ absurd (some (nil_from_length left (few lt)))
        | inr le ↦ omega (arith, le, most)
      ];
      all = λ none. elim enough [
        | inl whole_run ↦ whole_run
        | inr many ↦ absurd (omega (arith, many, total, most, ap length none))
      ];
      folded = adds.folded;
      words = adds.words;
      text_is = e ∙ ap (λ (front : List ℕ). front ++ more_text last (count - 40)) adds.text_is
          ∙ ap (λ (n : ℕ). ended adds.folded ++ more_text last n) (elim (cases_lt (length shown) 40) [
            | inl lt ↦ omega (arith, few lt, total, lt)
            | inr le ↦ omega (arith, total, le, most)
          ]);
    }

-- ---- lines that are added one by one

-- so many lines of the text are added, but for a rest
pub record LinesSoFar (full rest : List ℕ) (n : ℕ) (old new : List ℕ) : Type 0 where
  pub shown : List (List ℕ)
  pub size : length shown ≡ n
  pub full_is : full ≡ ended shown ++ rest
  pub lines : AreLines shown
  pub folded : List (List ℕ)
  pub words : AreFolded shown folded
  pub text_is : new ≡ old ++ ended folded

pub no_lines : (full text : List ℕ) → LinesSoFar full full 0 text text
no_lines full text = record {
  shown = [];
  size = refl;
  full_is = refl;
  lines = All-nil (λ line. All (λ b. b ≢ 10) line);
  folded = [];
  words = tt;
  text_is = sym (append-nil text);
}

cut_at_end : (text : List ℕ) (end : ℕ) → slice_get text end ≡ Some 10 → text ≡ take end text ++ 10 ∷ drop (end + 1) text
cut_at_end [] end here = let no : ⊥ = cc in absurd no
cut_at_end (x ∷ text) zero here = ap (λ (y : ℕ). y ∷ text) (same_Some x 10 here)
cut_at_end (x ∷ text) (suc end) here =
    let next_one : suc (end + 1) ≡ suc end + 1 = omega arith in
    ap (λ (t : List ℕ). x ∷ t) (cut_at_end text end here)
    ∙ ap (λ (k : ℕ). take (suc end) (x ∷ text) ++ 10 ∷ drop k (x ∷ text)) next_one

folded_more : (lines folded : List (List ℕ)) (line text : List ℕ) → AreFolded lines folded → text_words text ≡ text_words line
    → AreFolded (lines ++ line ∷ []) (folded ++ text ∷ [])
folded_more [] [] line text h e = (e, tt)
folded_more [] (f ∷ folded) line text h e = absurd h
folded_more (l ∷ lines) [] line text h e = absurd h
folded_more (l ∷ lines) (f ∷ folded) line text h e = (h.0, folded_more lines folded line text h.1 e)

ended_more : (lines : List (List ℕ)) (line : List ℕ) → ended (lines ++ line ∷ []) ≡ ended lines ++ (line ++ 10 ∷ [])
ended_more lines line =
    flat_map-append (λ (l : List ℕ). l ++ 10 ∷ []) lines (line ∷ [])
    ∙ ap (λ (t : List ℕ). ended lines ++ t) (append-nil (line ++ 10 ∷ []))

pub lines_more : (full rest after old middle new : List ℕ) (n end : ℕ) → slice_get rest end ≡ Some 10
    → All (λ b. b ≢ 10) (take end rest) → after ≡ drop (end + 1) rest → LinesSoFar full rest n old middle
    → Folds (take end rest) middle new → LinesSoFar full after (n + 1) old new
lines_more full rest after old middle new n end here whole is h (text, words, e) = record {
  shown = h.shown ++ take end rest ∷ [];
  size = length-append h.shown (take end rest ∷ []) ∙ ap (λ (m : ℕ). m + 1) h.size;
  full_is = h.full_is ∙ ap (λ (t : List ℕ). ended h.shown ++ t)
      (cut_at_end rest end here ∙ sym (append_assoc (take end rest) (10 ∷ []) (drop (end + 1) rest)))
      ∙ sym (append_assoc (ended h.shown) (take end rest ++ 10 ∷ []) (drop (end + 1) rest))
      ∙ ap (λ (t : List ℕ). t ++ drop (end + 1) rest) (sym (ended_more h.shown (take end rest)))
      ∙ ap (λ (t : List ℕ). ended (h.shown ++ take end rest ∷ []) ++ t) (sym is);
  lines = lines_joined h.shown (take end rest ∷ []) h.lines
      (All-cons (λ line. All (λ b. b ≢ 10) line) (take end rest) [] whole (All-nil (λ line. All (λ b. b ≢ 10) line)));
  folded = h.folded ++ text ∷ [];
  words = folded_more h.shown h.folded (take end rest) text h.words words;
  text_is = e ∙ ap (λ (t : List ℕ). t ++ (text ++ 10 ∷ [])) h.text_is ∙ append_assoc old (ended h.folded) (text ++ 10 ∷ [])
      ∙ ap (λ (t : List ℕ). old ++ t) (sym (ended_more h.folded text));
}

-- the text has no more lines, or 40 are added
pub lines_added : (full rest old new : List ℕ) (n : ℕ) → LinesSoFar full rest n old new → n ≤ 40
    → (n < 40 → All (λ b. b ≢ 10) rest) → AddsLines full old new
lines_added full rest old new n h most all = record {
  shown = h.shown;
  rest = rest;
  full_is = h.full_is;
  lines = h.lines;
  most = omega (arith, h.size, most);
  all = λ lt. all (omega (arith, h.size, lt));
  folded = h.folded;
  words = h.words;
  text_is = h.text_is;
}

-- the lines of an explanation that are shown explain
pub explains_lines : (raw : Raw) (run : Run) (name literals : List ℕ) (t last : ℕ) (full old middle new : List ℕ) (count : ℕ)
    → IsExplanation Text raw run name literals t last full → old ≡ [] → AddsLines full old middle → count ≡ count_by (λ y. y == 10) full
    → (last ≡ 0) ⊎ (41 < count) → new ≡ middle ++ more_text last (count - 40) → Explains raw run name literals t new
explains_lines raw run name literals t last full old middle new count h empty adds is enough e = (
  last,
  full,
  h,
  shows_lines last full middle new count (explanation_ends raw run name literals t last full h)
      (subst (λ (text : List ℕ). AddsLines full text middle) empty adds) is enough e,
)

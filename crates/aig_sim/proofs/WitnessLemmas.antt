-- The text of a witness, line by line.
use Rattle.std.proofs.Common.{true, false, ◌≡◌, ◌≢◌, inl, inr, ℕ, zero, suc, ◌+◌, ◌-◌, ◌*◌, ◌<◌, List, [], ◌∷◌}
use Rattle.std.proofs.Common.{◌++◌, length, map, take, drop, get_or, All, refl, sym, ap, ◌∙◌, subst, arith}
use Rattle.std.proofs.Common.{append_assoc}
use Rattle.std.specs.List.{flat_map}
use Rattle.std.specs.Prelude.{min, Some}
use Rattle.std.proofs.lemmas.List.{length-append, length-map, length_push, take-append-drop, take_more, drop_more}
use Rattle.std.proofs.lemmas.List.{get_or_append_left}
use Rattle.std.proofs.lemmas.List.Elements.{All-head, All-tail, All-push, All-nil}
use Rattle.aig_bytes.proofs.Decimals.{IsDigit}
use Rattle.aig_parts.specs.declared.ternary.Tern.{Tern}
use Rattle.aig_parts.specs.declared.ternary.Tern.TheVariants.{Zero, One, X}
use Rattle.aig_parts.specs.declared.raw.Raw.{Raw}
use Rattle.aig_sim.specs.declared.witness.text.WitnessParts.{WitnessParts}
use Rattle.aig_sim.specs.state.Checking.{BeginsWithRow, SpellsFrames, ArePartsOf}
use Rattle.aig_values.specs.Characters.{character}
use Rattle.aig_values.specs.InputRows.{HaveWidth}
use Rattle.aig_sim.specs.StimulusText.{row_line, IsCharacter}
use Rattle.aig_sim.specs.WitnessText.{Witness, SpellsWitness, IsDecimal, witness_rows_text}
use Rattle.std.proofs.lemmas.Bool.{cases_eq}
use Rattle.std.proofs.lemmas.Bool.Decides.{Decides-eqb}
use Rattle.std.proofs.lemmas.Slice.Eq.{strip_prefix_is}
use Rattle.std.specs.Cmp.Lexicographic.{pointwise}
use Rattle.std.specs.Option.{MatchOption}
use Rattle.aig_bytes.proofs.Cuts.{split_once, no_split}
use denote.Ref.{Bor}
use lib.Dec.{eqb}
use Rattle.aig_sim.proofs.LineLemmas.{characters, flat_map_push}
use Rattle.aig_sim.proofs.OneText.{rows_twice, row_ends, no_end_in_row, same_row}

-- ---- a line of values

-- characters spell values
pub values_of : (line : List ℕ) → All IsCharacter line → (row : List Tern) × (length row ≡ length line) × (line ≡ map character row)
values_of [] h = ([], refl, refl)
values_of (b ∷ line) h =
    let (row, e, is) = values_of line (All-tail IsCharacter b line h) in
    elim (All-head IsCharacter b line h) [
      | inl k ↦ (Zero ∷ row, omega (arith, e), ap (λ (c : ℕ). c ∷ line) k ∙ ap (λ (t : List ℕ). 48 ∷ t) is)
      | inr k ↦ elim k [
        | inl k ↦ (One ∷ row, omega (arith, e), ap (λ (c : ℕ). c ∷ line) k ∙ ap (λ (t : List ℕ). 49 ∷ t) is)
        | inr k ↦ (X ∷ row, omega (arith, e), ap (λ (c : ℕ). c ∷ line) k ∙ ap (λ (t : List ℕ). 120 ∷ t) is)
      ]
    ]

front : (a rest : List ℕ) → take (length a) (a ++ rest) ≡ a
front [] rest = refl
front (y ∷ a) rest = ap (λ (t : List ℕ). y ∷ t) (front a rest)

row_length : (row : List Tern) → length (map character row) ≡ length row
row_length row = length-map row character

pub row_is_characters : (width : ℕ) (text : List ℕ) → BeginsWithRow width text → All IsCharacter (take width text)
row_is_characters width text (row, rest, len, is) =
    let e : length (map character row) ≡ width = row_length row ∙ len in
    subst (All IsCharacter)
    (sym (ap (take width) is ∙ ap (λ (n : ℕ). take n (map character row ++ (10 ∷ rest))) (sym e)
    ∙ front (map character row) (10 ∷ rest))) (characters row)

pub row_is : (width : ℕ) (text : List ℕ) → width < length text → get_or text width 0 ≡ 10
    → All IsCharacter (take width text) → length (take width text) ≡ width
    → (row : List Tern) × (length row ≡ width) × (text ≡ map character row ++ (10 ∷ drop (width + 1) text))
row_is width text lt end h len =
    let (row, e, is) = values_of (take width text) h in (
      row,
      e ∙ len,
      sym (take-append-drop width text) ∙ ap (λ (t : List ℕ). take width text ++ t) (drop_more text width 0 lt)
          ∙ ap (λ (b : ℕ). take width text ++ (b ∷ drop (width + 1) text)) end
          ∙ ap (λ (t : List ℕ). t ++ (10 ∷ drop (width + 1) text)) is,
    )

-- ---- a number

pub some_digits : {digits : List ℕ} {n : ℕ} → IsDecimal digits n → 0 < length digits
some_digits (IsDecimal.digit d lt) = omega arith
some_digits (IsDecimal.more digits n d pos lt h) = omega (arith, length_push digits (48 + d))

pub digits_are : {digits : List ℕ} {n : ℕ} → IsDecimal digits n → All IsDigit digits
digits_are (IsDecimal.digit d lt) = All-push IsDigit [] (48 + d) (All-nil IsDigit) (omega arith, omega (arith, lt))
digits_are (IsDecimal.more digits n d pos lt h) =
    All-push IsDigit digits (48 + d) (digits_are h) (omega arith, omega (arith, lt))

pub zero_is_alone : {digits : List ℕ} {n : ℕ} → IsDecimal digits n → get_or digits 0 0 ≡ 48 → (n ≡ 0) × (length digits ≡ 1)
zero_is_alone (IsDecimal.digit d lt) e = (omega (arith, e), refl)
zero_is_alone (IsDecimal.more digits n d pos lt h) e =
    let r = zero_is_alone h (sym (get_or_append_left digits ((48 + d) ∷ []) 0 0 (some_digits h)) ∙ e) in
    absurd (omega (arith, r.0, pos))

-- one digit more
pub number_more : (xs : List ℕ) (i d p p' : ℕ) → i < length xs → get_or xs i 0 ≡ 48 + d → d < 10
    → ((1 < length xs) × (get_or xs 0 0 ≡ 48) → ⊥) → (i ≡ 0 → p ≡ 0)
    → (0 < i → (n : ℕ) × IsDecimal (take i xs) n × (p ≡ min n 4194304) × (get_or xs 0 0 ≢ 48 → 0 < n))
    → p' ≡ min (p * 10 + d) 4194304
    → (n : ℕ) × IsDecimal (take (i + 1) xs) n × (p' ≡ min n 4194304) × (get_or xs 0 0 ≢ 48 → 0 < n)
number_more xs zero d p p' lt is low alone start before e =
    let first : take 1 xs ≡ (48 + d) ∷ [] = take_more xs 0 0 lt ∙ ap (λ (b : ℕ). b ∷ []) is in (
      d,
      subst (λ (t : List ℕ). IsDecimal t d) (sym first) (IsDecimal.digit d low),
      omega (arith, e, start refl),
      λ ne. elim (cases_eq d 0) [ inl z ↦ absurd (ne (omega (arith, is, z))) | inr k ↦ omega (arith, k) ],
    )
number_more xs (suc i) d p p' lt is low alone start before e =
    let (n, h, at, pos) = before (omega arith) in
    let some = pos (λ z. alone (omega (arith, lt), z)) in
    let next : take (suc i + 1) xs ≡ take (suc i) xs ++ (48 + d) ∷ [] =
    take_more xs (suc i) 0 lt ∙ ap (λ (b : ℕ). take (suc i) xs ++ b ∷ []) is in (
      n * 10 + d,
      subst (λ (t : List ℕ). IsDecimal t (n * 10 + d)) (sym next) (IsDecimal.more (take (suc i) xs) n d some low h),
      omega (arith, e, at),
      λ ne. omega (arith, some),
    )

-- ---- rows

-- what begins with a character is no end
no_character : (w : Tern) → 46 ≢ character w
no_character Zero = λ e. omega (arith, e)
no_character One = λ e. omega (arith, e)
no_character X = λ e. omega (arith, e)

first_same : {a b : ℕ} {s t : List ℕ} → a ∷ s ≡ b ∷ t → a ≡ b
first_same {a} {b} {s} {t} e = ap (λ (xs : List ℕ). get_or xs 0 0) e

no_row_at_end : (width : ℕ) → BeginsWithRow width (46 ∷ (10 ∷ [])) → ⊥
no_row_at_end width ([], rest, len, is) = omega (arith, first_same is)
no_row_at_end width (w ∷ row, rest, len, is) = no_character w (first_same is)

-- a text is rows in one way
pub one_rows : (width : ℕ) (text : List ℕ) (rows rows' : List (List Tern)) → SpellsFrames width text rows
    → SpellsFrames width text rows' → rows ≡ rows'
one_rows width text rows rows' h k =
    elim (rows_twice width rows rows' (46 ∷ (10 ∷ [])) (46 ∷ (10 ∷ [])) h.widths k.widths (sym h.text_is ∙ k.text_is)) [
      | inl e ↦ e.0
      | inr o ↦ elim o [ inl b ↦ absurd (no_row_at_end width b.1) | inr b ↦ absurd (no_row_at_end width b.1) ]
    ]

-- after rows neither another nor the end
pub no_frames : (width : ℕ) (text rest : List ℕ) (rows rows' : List (List Tern)) → HaveWidth width rows
    → text ≡ flat_map row_line rows ++ rest → rest ≢ (46 ∷ (10 ∷ [])) → (BeginsWithRow width rest → ⊥)
    → SpellsFrames width text rows' → ⊥
no_frames width text rest rows rows' widths is end none h =
    elim (rows_twice width rows rows' rest (46 ∷ (10 ∷ [])) widths h.widths (sym is ∙ h.text_is)) [
      | inl e ↦ end e.1
      | inr o ↦ elim o [ inl b ↦ none b.1 | inr b ↦ no_row_at_end width b.1 ]
    ]

-- one row more
pub rows_more : (width : ℕ) (text rest rest' : List ℕ) (rows : List (List Tern)) (row : List Tern) (n : ℕ)
    → HaveWidth width rows → length rows ≡ n → text ≡ flat_map row_line rows ++ rest → length row ≡ width
    → rest ≡ map character row ++ (10 ∷ rest')
    → (rows : List (List Tern)) × (length rows ≡ n + 1) × HaveWidth width rows × (text ≡ flat_map row_line rows ++ rest')
rows_more width text rest rest' rows row n widths len is wide begins = (
  rows ++ row ∷ [],
  omega (arith, length_push rows row, len),
  All-push (λ row. length row ≡ width) rows row widths wide,
  is ∙ ap (λ (t : List ℕ). flat_map row_line rows ++ t) (begins ∙ sym (row_ends row rest'))
      ∙ sym (append_assoc (flat_map row_line rows) (row_line row) rest')
      ∙ ap (λ (t : List ℕ). t ++ rest') (sym (flat_map_push rows row)),
)

-- ---- the body

-- a line of values is one line only
pub same_line : (text : List ℕ) (row start : List Tern) (rest more : List ℕ) → text ≡ map character row ++ (10 ∷ rest)
    → text ≡ row_line start ++ more → (row ≡ start) × (rest ≡ more)
same_line text row start rest more e f =
    let (line, same) = split_once 10 (map character row) (map character start) rest more (no_end_in_row row) (no_end_in_row start)
    (sym e ∙ f ∙ row_ends start more) in
    (same_row row start line, same)

-- ---- the whole text

no_end_in_digits : {digits : List ℕ} {n : ℕ} → IsDecimal digits n → All (λ b. b ≢ 10) digits
no_end_in_digits h = λ i d lt. λ e. omega (arith, (digits_are h i d lt).0, e)

-- the text after `1`, LF and `b`
pub head_is : (text : List ℕ) (position : Bor (List ℕ)) → MatchOption (Some position)
    (pointwise eqb (take 3 text) (49 ∷ (10 ∷ (98 ∷ []))) ≡ false)
    (λ x. (pointwise eqb (take 3 text) (49 ∷ (10 ∷ (98 ∷ []))) ≡ true) × (x.now ≡ drop 3 text) × (length x.now + 3 ≡ length text))
    → text ≡ 49 ∷ (10 ∷ (98 ∷ position.now))
head_is text position h = strip_prefix_is Decides-eqb text (49 ∷ (10 ∷ (98 ∷ []))) (Some position) h

after_head : {a b : List ℕ} → 49 ∷ (10 ∷ (98 ∷ a)) ≡ 49 ∷ (10 ∷ (98 ∷ b)) → a ≡ b
after_head e = ap (drop 3) e

module _ (raw : Raw) (text position : List ℕ) (head : text ≡ 49 ∷ (10 ∷ (98 ∷ position))) where
  position_is : (w : Witness) (h : SpellsWitness raw text w)
      → position ≡ h.digits ++ (10 ∷ (row_line w.start ++ witness_rows_text w.rows))
  position_is w h = after_head (sym head ∙ h.text_is)

  -- the position's line has to end
  pub no_line : All (λ b. b ≢ 10) position → (w : Witness) → SpellsWitness raw text w → ⊥
  no_line none w h = no_split 10 h.digits position (row_line w.start ++ witness_rows_text w.rows) none (sym (position_is w h))

  module _ (size : ℕ) (lt : size < length position) (end : get_or position size 0 ≡ 10)
      (none : All (λ b. b ≢ 10) (take size position)) where
    line_is : position ≡ take size position ++ (10 ∷ drop (size + 1) position)
    line_is =
        sym (take-append-drop size position) ∙ ap (λ (t : List ℕ). take size position ++ t) (drop_more position size 0 lt)
        ∙ ap (λ (b : ℕ). take size position ++ (b ∷ drop (size + 1) position)) end

    -- how a witness is spelled
    pub spelled_by : (w : Witness) (h : SpellsWitness raw text w) → (take size position ≡ h.digits)
        × (drop (size + 1) position ≡ row_line w.start ++ witness_rows_text w.rows)
    spelled_by w h =
        split_once 10 (take size position) h.digits (drop (size + 1) position) (row_line w.start ++ witness_rows_text w.rows) none
        (no_end_in_digits h.position) (sym line_is ∙ position_is w h)

    pub no_position : ((n : ℕ) → IsDecimal (take size position) n → ⊥) → (w : Witness) → SpellsWitness raw text w → ⊥
    no_position other w h =
        other w.property (subst (λ (t : List ℕ). IsDecimal t w.property) (sym (spelled_by w h).0) h.position)

    pub no_body : (body : List ℕ) (latches inputs : ℕ) → body ≡ drop (size + 1) position → latches ≡ length raw.latches
        → inputs ≡ length raw.inputs
        → ((start : List Tern) (rows : List (List Tern)) → length start ≡ latches → rows ≢ [] → HaveWidth inputs rows
        → body ≡ row_line start ++ witness_rows_text rows → ⊥)
        → (w : Witness) → SpellsWitness raw text w → ⊥
    no_body body latches inputs is l i other w h =
        other w.start w.rows (h.start_is ∙ sym l) h.some
        (subst (λ (n : ℕ). HaveWidth n w.rows) (sym i) h.widths) (is ∙ (spelled_by w h).1)

    pub parts_are : (parts : WitnessParts) (body : List ℕ) (latches inputs n : ℕ) (start : List Tern) (rows : List (List Tern))
        → body ≡ drop (size + 1) position → latches ≡ length raw.latches → inputs ≡ length raw.inputs
        → IsDecimal (take size position) n → parts.property ≡ min n 4194304 → parts.start.now ≡ body
        → length start ≡ latches → rows ≢ [] → length rows ≡ parts.frames
        → body ≡ map character start ++ (10 ∷ parts.rows.now) → SpellsFrames inputs parts.rows.now rows
        → (w : Witness) × SpellsWitness raw text w × ArePartsOf raw parts w
    parts_are parts body latches inputs n start rows is l i decimal prop from len some count begins frames =
        let frames' = subst (λ (k : ℕ). SpellsFrames k parts.rows.now rows) i frames in
        let line : body ≡ row_line start ++ witness_rows_text rows = begins
        ∙ ap (λ (t : List ℕ). map character start ++ (10 ∷ t)) frames.text_is ∙ sym (row_ends start (witness_rows_text rows)) in (
          record { property = n; start = start; rows = rows },
          record {
            start_is = len ∙ l;
            widths = frames'.widths;
            some = some;
            digits = take size position;
            position = decimal;
            text_is = head ∙ ap (λ (t : List ℕ). 49 ∷ (10 ∷ (98 ∷ t)))
                (line_is ∙ ap (λ (t : List ℕ). take size position ++ (10 ∷ t)) (sym is ∙ line));
          },
          record {
            latches = len ∙ l;
            some = some;
            property_is = prop;
            frames_are = sym count;
            start_is = from ∙ begins;
            rows_are = frames';
          },
        )

pub row_is_long : (width : ℕ) (text : List ℕ) → BeginsWithRow width text → width < length text
row_is_long width text (row, rest, len, is) =
    omega (arith, len, ap length is ∙ length-append (map character row) (10 ∷ rest), row_length row)

-- ---- one witness a text

value_on : ℕ → List ℕ → ℕ
value_on acc [] = acc
value_on acc (b ∷ bs) = value_on (acc * 10 + (b - 48)) bs

value_push : (acc b : ℕ) (bs : List ℕ) → value_on acc (bs ++ b ∷ []) ≡ value_on acc bs * 10 + (b - 48)
unfolding value_on
value_push acc b [] = refl
value_push acc b (x ∷ bs) = value_push (acc * 10 + (x - 48)) b bs

decimal_value : {digits : List ℕ} {n : ℕ} → IsDecimal digits n → value_on 0 digits ≡ n
unfolding value_on
decimal_value (IsDecimal.digit d lt) = omega arith
decimal_value (IsDecimal.more digits n d pos lt h) =
    omega (arith, value_push 0 (48 + d) digits, decimal_value h)

-- digits are one number
pub one_number : (digits : List ℕ) (m n : ℕ) → IsDecimal digits m → IsDecimal digits n → m ≡ n
one_number digits m n h k = sym (decimal_value h) ∙ decimal_value k

-- a text is one witness
pub one_witness : (raw : Raw) (text : List ℕ) (w v : Witness) → SpellsWitness raw text w → SpellsWitness raw text v → w ≡ v
one_witness raw text w v h k =
    let (digits, body) = split_once 10 h.digits k.digits (row_line w.start ++ witness_rows_text w.rows) (row_line v.start ++ witness_rows_text v.rows)
    (no_end_in_digits h.position) (no_end_in_digits k.position) (after_head (sym h.text_is ∙ k.text_is)) in
    let (start, rows) = same_line (row_line w.start ++ witness_rows_text w.rows) w.start v.start (witness_rows_text w.rows) (witness_rows_text v.rows)
    (row_ends w.start (witness_rows_text w.rows)) body in
    let number : w.property ≡ v.property = one_number h.digits w.property v.property h.position
    (subst (λ (ds : List ℕ). IsDecimal ds v.property) (sym digits) k.position) in
    let frames : w.rows ≡ v.rows = one_rows (length raw.inputs) (witness_rows_text w.rows) w.rows v.rows
    (record { widths = h.widths; text_is = refl }) (record { widths = k.widths; text_is = rows }) in
    ap (λ (n : ℕ). record { property = n; start = w.start; rows = w.rows }) number
    ∙ ap (λ (s : List Tern). record { property = v.property; start = s; rows = w.rows }) start
    ∙ ap (λ (r : List (List Tern)). record { property = v.property; start = v.start; rows = r }) frames

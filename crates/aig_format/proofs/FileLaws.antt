-- The file that is read is spelled so, and what is spelled so is read.
use Rattle.std.proofs.Common.{◌≡◌, ℕ, ◌+◌, Bool, true, false, cond, not, eqb, eq-eqb}
use Rattle.std.proofs.Common.{subst, List, [], ◌++◌, length, Result, Ok, Err, refl, sym, ap, ◌∙◌, arith}
use Rattle.std.proofs.lemmas.Bool.{ltb-false, le-ltb, eqb-true, not-false}
use Rattle.aig_parts.specs.declared.raw.Raw.{Raw}
use Rattle.aig_format.specs.declared.reader.header.Format.{Format}
use Rattle.aig_format.specs.declared.reader.header.Format.TheVariants.{Ascii, Binary}
use Rattle.aig_format.specs.declared.reader.header.Counts.{Counts}
use Rattle.aig_format.specs.Header.{are_wrong, header_line}
use Rattle.aig_format.specs.state.HeaderCounts.{counted, in_line}
use Rattle.aig_format.specs.Spelling.{WrittenZeros, ascii, binary, literal_line, latch_line, implicit_latch_line}
use Rattle.aig_format.specs.Spelling.{gate_line}
use Rattle.aig_format.specs.Spelling.{gate_deltas, lines, properties_of, names_text}
use Rattle.aig_format.specs.Spells.{IsTextIn, Spells, HasWrongCounts}
use Rattle.aig_format.specs.Formats.{IsInFormat}
use Rattle.aig_format.specs.state.Reading.{Refusal}
use Rattle.aig_format.specs.state.ReadingSections.{header_at}
use Rattle.aig_format.specs.state.ReadingFile.{body_at, FileRefusal, token, counts, and_then, file_at}
use Rattle.aig_format.proofs.Steps.{done}
use Rattle.aig_format.proofs.Joins.{apart5, apart6}
use Rattle.aig_format.proofs.HeaderLaws.{HeaderRead, header_takes, header_again, all_within, nine_counts}
use Rattle.aig_format.proofs.SmallNumbers.{in_all}
use Rattle.aig_format.proofs.Parts.{within_from, formed_from}
use Rattle.aig_format.proofs.AsciiLaws.{AsciiRead, ascii_take, ascii_rest, ascii_again}
use Rattle.aig_format.proofs.BinaryLaws.{BinaryRead, binary_take, binary_numbers, binary_rest, binary_again, exact_from}
use Rattle.std.specs.List.{flat_map}
use Rattle.std.proofs.lemmas.List.{append-nil}

-- ---- steps

and_then_ok : {A B : Type 0} (r : Result A Refusal) (f : A → Result B FileRefusal) (y : B) → and_then r f ≡ Ok y
    → (x : A) × (r ≡ Ok x) × (f x ≡ Ok y)
and_then_ok (Ok x) f y e = (x, refl, e)
and_then_ok (Err d) f y e = absurd cc

and_then_counts : {A B : Type 0} (r : Result A Refusal) (f : A → Result B FileRefusal) → and_then r f ≡ Err counts
    → (x : A) × (r ≡ Ok x) × (f x ≡ Err counts)
and_then_counts {B = B} (Ok x) f e = (x, refl, e)
and_then_counts {B = B} (Err d) f e = absurd (apart d e)
  where
    refused : FileRefusal → Result B FileRefusal
    refused r = Err r

    apart : (d : Refusal) → refused (token d) ≡ refused counts → ⊥
    apart d e = cc

abbrev pub is_read : Raw → Result Raw FileRefusal
is_read raw = Ok raw

ok_is : (p q : Raw) → is_read p ≡ is_read q → p ≡ q
ok_is p q e = cc

-- ---- what is read

-- the counts of the parts in place of those of the header
ascii_spells : (bytes : List ℕ) (c : Counts) (left : List ℕ) (raw : Raw) → HeaderRead bytes Ascii c left
    → are_wrong Ascii (in_line c) ≡ false → AsciiRead c left raw → IsInFormat Ascii bytes raw
unfolding ascii
ascii_spells bytes c left raw h fine r =
    let is : c ≡ counted raw = sym r.counted in
    let h2 : HeaderRead bytes Ascii (counted raw) left = subst (λ (k : Counts). HeaderRead bytes Ascii k left) is h in
    let fine2 : are_wrong Ascii (in_line (counted raw)) ≡ false = subst (λ (k : Counts). are_wrong Ascii (in_line k) ≡ false) is fine in
    let r2 : AsciiRead (counted raw) left raw = subst (λ (k : Counts). AsciiRead k left raw) is r in (
      record {
        formed = formed_from raw h2.within r2.sum r2.entries r2.once;
        numbers = in_all raw r2.numbers;
        room = ltb-false _ _ fine2;
      },
      (
        record { counts = h2.least; resets = r2.resets },
        r2.spelled bytes (header_line Ascii h2.least (in_line (counted raw))) h2.spelled,
      ),
    )

binary_spells : (bytes : List ℕ) (c : Counts) (left : List ℕ) (raw : Raw) → HeaderRead bytes Binary c left
    → are_wrong Binary (in_line c) ≡ false → BinaryRead c left raw → IsInFormat Binary bytes raw
unfolding binary
binary_spells bytes c left raw h fine r =
    let is : c ≡ counted raw = sym r.counted in
    let h2 : HeaderRead bytes Binary (counted raw) left =
    subst (λ (k : Counts). HeaderRead bytes Binary k left) is h in
    let fine2 : are_wrong Binary (in_line (counted raw)) ≡ false = subst (λ (k : Counts). are_wrong Binary (in_line k) ≡ false) is fine in
    let r2 : BinaryRead (counted raw) left raw = subst (λ (k : Counts). BinaryRead k left raw) is r in
    let exact : raw.max_var ≡ length raw.inputs + length raw.latches + length raw.gates =
    eqb-true _ _ (not-false _ fine2) in
    let both = binary_numbers left raw r2 h2.within exact in (
      record {
        formed = formed_from raw h2.within r2.fits.within r2.entries r2.once;
        numbers = in_all raw both.0;
        room = omega (arith, exact);
      },
      (
        record { counts = h2.least; resets = r2.resets },
        both.1,
        r2.spelled bytes (header_line Binary h2.least (in_line (counted raw))) h2.spelled,
      ),
    )

pub file_takes : (bytes : List ℕ) (raw : Raw) → file_at bytes ≡ Ok raw → Spells bytes raw
unfolding file_at
file_takes bytes raw e =
    let h = and_then_ok (header_at bytes)
    (λ h. cond (are_wrong h.0.0 (in_line h.0.1)) (Err counts) (and_then (body_at h.0.0 h.0.1 h.1) (λ raw. Ok raw.0))) raw e in
    by_wrong h.0.0.0 h.0.0.1 h.0.1 h.1 (are_wrong h.0.0.0 (in_line h.0.0.1)) refl h.2
  where
    by_body : (f : Format) (c : Counts) (left : List ℕ) (rest : List ℕ) → HeaderRead bytes f c left
        → are_wrong f (in_line c) ≡ false → body_at f c left ≡ Ok (raw, rest) → Spells bytes raw
    by_body Ascii c left rest h fine b =
        let s = ascii_spells bytes c left raw h fine (ascii_take c left raw rest b) in (s.0, (Ascii, s.1))
    by_body Binary c left rest h fine b =
        let s = binary_spells bytes c left raw h fine (binary_take c left raw rest b) in (s.0, (Binary, s.1))

    by_wrong : (f : Format) (c : Counts) (left : List ℕ) → header_at bytes ≡ Ok ((f, c), left) → (b : Bool)
        → are_wrong f (in_line c) ≡ b
        → cond b (Err counts) (and_then (body_at f c left) (λ raw. Ok raw.0)) ≡ Ok raw → Spells bytes raw
    by_wrong f c left e true w g = absurd cc
    by_wrong f c left e false w g =
        let b = and_then_ok (body_at f c left) (λ raw. Ok raw.0) raw g in
        let same : b.0.0 ≡ raw = ok_is b.0.0 raw b.2 in
        by_body f c left b.0.1 (header_takes bytes (f, c) left e) w (b.1 ∙ ap (λ (r : Raw). done r b.0.1) same)

-- ---- what is spelled

ascii_pieces : (zeros : WrittenZeros) (raw : Raw)
    → ascii zeros raw ≡ header_line Ascii zeros.counts (in_line (counted raw)) ++ ascii_rest zeros.resets raw
unfolding ascii
ascii_pieces zeros raw =
    sym (append-nil (ascii zeros raw))
    ∙ apart6 (header_line Ascii zeros.counts (in_line (counted raw))) (flat_map literal_line raw.inputs)
    (lines latch_line zeros.resets raw.latches) (properties_of raw) (flat_map gate_line raw.gates)
    (names_text raw.symbols raw.comment) []
    ∙ ap (λ (t : List ℕ). header_line Ascii zeros.counts (in_line (counted raw)) ++
    (flat_map literal_line raw.inputs ++
    (lines latch_line zeros.resets raw.latches ++ (properties_of raw ++ (flat_map gate_line raw.gates ++ t)))))
    (append-nil (names_text raw.symbols raw.comment))

binary_pieces : (zeros : WrittenZeros) (raw : Raw)
    → binary zeros raw ≡ header_line Binary zeros.counts (in_line (counted raw)) ++ binary_rest zeros.resets raw
unfolding binary
binary_pieces zeros raw =
    sym (append-nil (binary zeros raw))
    ∙ apart5 (header_line Binary zeros.counts (in_line (counted raw))) (lines implicit_latch_line zeros.resets raw.latches)
    (properties_of raw) (flat_map gate_deltas raw.gates) (names_text raw.symbols raw.comment) []
    ∙ ap (λ (t : List ℕ). header_line Binary zeros.counts (in_line (counted raw)) ++
    (lines implicit_latch_line zeros.resets raw.latches ++
    (properties_of raw ++ (flat_map gate_deltas raw.gates ++ t)))) (append-nil (names_text raw.symbols raw.comment))

ascii_is_read : (bytes : List ℕ) (raw : Raw) → IsInFormat Ascii bytes raw → file_at bytes ≡ is_read raw
unfolding file_at
ascii_is_read bytes raw s =
    let parts = s.0 in
    let z = s.1.0 in
    let fine : are_wrong Ascii (in_line (counted raw)) ≡ false = le-ltb _ _ parts.room in
    ap file_at (s.1.1 ∙ ascii_pieces z raw)
    ∙ rw (
      header_again Ascii z.counts (counted raw) (ascii_rest z.resets raw) (within_from raw parts.formed),
      fine,
      ascii_again z.resets raw parts,
    ) refl

binary_is_read : (bytes : List ℕ) (raw : Raw) → IsInFormat Binary bytes raw → file_at bytes ≡ is_read raw
unfolding file_at
binary_is_read bytes raw s =
    let parts = s.0 in
    let z = s.1.0 in
    let ready = s.1.1 in
    let same : eqb raw.max_var (length raw.inputs + length raw.latches + length raw.gates) ≡ true =
    eq-eqb _ _ (exact_from raw ready) in
    let fine : are_wrong Binary (in_line (counted raw)) ≡ false = ap not same in
    ap file_at (s.1.2 ∙ binary_pieces z raw)
    ∙ rw (
      header_again Binary z.counts (counted raw) (binary_rest z.resets raw) (within_from raw parts.formed),
      fine,
      binary_again z.resets raw parts ready,
    ) refl

pub file_again : (bytes : List ℕ) (raw : Raw) → Spells bytes raw → file_at bytes ≡ is_read raw
file_again bytes raw s = by_format s.1.0 s.1.1
  where
    by_format : (format : Format) → IsTextIn format bytes raw → file_at bytes ≡ is_read raw
    by_format Ascii text = ascii_is_read bytes raw (s.0, text)
    by_format Binary text = binary_is_read bytes raw (s.0, text)

-- ---- wrong counts

pub wrong_takes : (bytes : List ℕ) → file_at bytes ≡ Err counts → HasWrongCounts bytes
unfolding file_at
wrong_takes bytes e =
    let h = and_then_counts (header_at bytes)
    (λ h. cond (are_wrong h.0.0 (in_line h.0.1)) (Err counts) (and_then (body_at h.0.0 h.0.1 h.1) (λ raw. Ok raw.0))) e in
    by_wrong h.0.0.0 h.0.0.1 h.0.1 h.1 (are_wrong h.0.0.0 (in_line h.0.0.1)) refl h.2
  where
    no_counts : (raw : Raw) → is_read raw ≡ Err counts → ⊥
    no_counts raw e = cc

    by_wrong : (f : Format) (c : Counts) (left : List ℕ) → header_at bytes ≡ Ok ((f, c), left) → (b : Bool)
        → are_wrong f (in_line c) ≡ b
        → cond b (Err counts) (and_then (body_at f c left) (λ raw. is_read raw.0)) ≡ Err counts → HasWrongCounts bytes
    by_wrong f c left e true w g =
        let h = header_takes bytes (f, c) left e in
        record {
          format = f;
          counts = in_line c;
          nine = refl;
          within = all_within c h.within;
          least = h.least;
          rest = left;
          spelled = h.spelled;
          wrong =
              w;
        }
    by_wrong f c left e false w g =
        let b = and_then_counts (body_at f c left) (λ raw. is_read raw.0) g in
        absurd (no_counts b.0.0 b.2)

pub wrong_again : (bytes : List ℕ) → HasWrongCounts bytes → file_at bytes ≡ Err counts
unfolding file_at
wrong_again bytes w =
    let n = nine_counts w.counts w.nine w.within in
    let wrong : are_wrong w.format (in_line n.counts) ≡ true = ap (are_wrong w.format) (sym n.same) ∙ w.wrong in
    ap file_at (w.spelled ∙ ap (λ (ns : List ℕ). header_line w.format w.least ns ++ w.rest) n.same)
    ∙ rw (header_again w.format w.least n.counts w.rest n.within, wrong) refl

-- ---- one reading

pub one_reading : (bytes : List ℕ) (p q : Raw) → Spells bytes p → Spells bytes q → p ≡ q
one_reading bytes p q s t = ok_is p q (sym (file_again bytes p s) ∙ file_again bytes q t)

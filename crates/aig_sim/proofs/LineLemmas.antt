-- A stimulus text, byte by byte.
use Rattle.std.proofs.Common.{◌≡◌, ◌≢◌, ℕ, ◌+◌, ◌<◌, ◌≤◌, List, [], ◌∷◌, ◌++◌, length, map, All, inl, inr, refl, sym}
use Rattle.std.proofs.Common.{ap, ◌∙◌, subst, arith, append_assoc, ◌-◌, take, drop, length-drop, get_or, Some}
use Rattle.std.proofs.Common.{slice_get}
use Rattle.std.specs.List.{flat_map}
use Rattle.std.specs.Prelude.{Result, Err, Bool, true, false, ◌&&◌, ◌↔◌, IsTrue}
use Rattle.std.specs.Result.{IsErrAnd}
use Rattle.std.proofs.Math.Seq.{take-add, get_or-drop}
use Rattle.std.proofs.lemmas.Option.{get_or_from_slice_get}
use Rattle.std.proofs.lemmas.List.{take_all, append-nil, length-append, length-map, length_push, get_or_append_left}
use Rattle.std.proofs.lemmas.List.{get_or-append-add}
use Rattle.std.proofs.lemmas.Bool.{false≢true}
use Rattle.std.proofs.lemmas.Result.{err_from_is_err_and}
use Rattle.std.proofs.lemmas.List.Concat.{flat_map-append}
use Rattle.std.proofs.lemmas.List.Elements.{All-nil, All-push, All-map, All-append}
use Rattle.aig_parts.specs.declared.ternary.Tern.{Tern}
use Rattle.aig_parts.specs.declared.ternary.Tern.TheVariants.{Zero, One, X}
use Rattle.aig_sim.specs.declared.stimulus.fault.StimFault.{StimFault}
use Rattle.aig_sim.specs.declared.stimulus.fault.StimFault.TheVariants as fault
use Rattle.aig_sim.specs.declared.stimulus.row_parser.Shape.{Shape}
use Rattle.aig_sim.specs.declared.stimulus.row_parser.Shape.TheVariants.{Row, Long, Wrong}
use Rattle.aig_values.specs.Characters.{character}
use Rattle.aig_sim.specs.StimulusText.{row_line, line_number, IsCharacter, EndsLine, HasFault, HasFaultyLine}
use Rattle.aig_sim.specs.StimulusText.{SpellsRows}
use Rattle.aig_sim.specs.RowParser.{KeepsLine, HasRead}

pub IsCharacter-of_value : (w : Tern) → IsCharacter (character w)
IsCharacter-of_value Zero = inl refl
IsCharacter-of_value One = inr (inl refl)
IsCharacter-of_value X = inr (inr refl)

pub no_end_in_character : (w : Tern) → character w ≢ 10
no_end_in_character Zero = λ h. omega arith
no_end_in_character One = λ h. omega arith
no_end_in_character X = λ h. omega arith

-- a row is spelled by characters
pub characters : (values : List Tern) → All IsCharacter (map character values)
characters values = All-map IsCharacter character values (λ i d h. IsCharacter-of_value _)

-- a character past the width
pub keeps_long : (width : ℕ) (line : List ℕ) (values : List Tern) (w : Tern) (values' : List Tern) → width
    ≤ length values
    → KeepsLine width line Row values → KeepsLine width (line ++ character w ∷ []) Long values'
keeps_long width line values w values' h k =
    let e = k.kept.0 in
    record {
      kept = (
        All-push IsCharacter line (character w) (subst (All IsCharacter) (sym e) (characters values))
            (IsCharacter-of_value w),
        omega (arith, length_push line (character w), ap length e, length-map values character),
      );
    }

-- a character of a line that can be no row any more
pub keeps_more : (width : ℕ) (line : List ℕ) (shape : Shape) (values : List Tern) (w : Tern) → (shape ≡ Row → ⊥)
    → KeepsLine width line shape values → KeepsLine width (line ++ character w ∷ []) shape values
keeps_more width line Row values w other k = absurd (other refl)
keeps_more width line Long values w other k = record {
  kept = (
    All-push IsCharacter line (character w) k.kept.0 (IsCharacter-of_value w),
    omega (arith, length_push line (character w), k.kept.1),
  );
}
keeps_more width line Wrong values w other k =
    record {
      kept = λ h. k.kept
          (λ i d lt. subst IsCharacter (get_or_append_left line _ d i lt)
          (h i d (omega (arith, length_push line (character w)))));
    }

-- one byte more is tested
pub all_more : (P : ℕ → Type 0) (l : List ℕ) (x : ℕ) (b c : Bool) → IsTrue b ↔ All P l → IsTrue c ↔ P x
    → IsTrue (b && c) ↔ All P (l ++ x ∷ [])
all_more P l x true true before here = (λ h. All-push P l x (before.0 refl) (here.0 refl), λ h. refl)
all_more P l x true false before here = (
  λ h. absurd (false≢true h),
  λ h. here.1 (subst P (get_or-append-add l (x ∷ []) 0 0) (h (length l + 0) 0 (omega (arith, length_push l x)))),
)
all_more P l x false c before here = (
  λ h. absurd (false≢true h),
  λ h. before.1 (λ i d lt. subst P (get_or_append_left l (x ∷ []) d i lt) (h i d (omega (arith, lt, length_push l x)))),
)

-- characters past the width
pub keeps_long_pieces : (width : ℕ) (line : List ℕ) (values : List Tern) (bytes : List ℕ) (values' : List Tern)
    → All IsCharacter bytes → width < length values + length bytes
    → KeepsLine width line Row values → KeepsLine width (line ++ bytes) Long values'
keeps_long_pieces width line values bytes values' are lt k =
    let e = k.kept.0 in
    record {
      kept = (
        All-append IsCharacter line bytes (subst (All IsCharacter) (sym e) (characters values)) are,
        omega (arith, length-append line bytes, ap length e, length-map values character),
      );
    }

-- a wrong byte in a line
still_wrong : (line bytes : List ℕ) → (All IsCharacter line → ⊥) → All IsCharacter (line ++ bytes) → ⊥
still_wrong line bytes wrong h =
    wrong (λ i d lt. subst IsCharacter (get_or_append_left line bytes d i lt) (h i d (omega (arith, lt, length-append line bytes))))

-- characters of a line that can be no row any more
pub keeps_more_pieces : (width : ℕ) (line : List ℕ) (shape : Shape) (values : List Tern) (bytes : List ℕ) → (shape ≡ Row → ⊥)
    → All IsCharacter bytes → KeepsLine width line shape values → KeepsLine width (line ++ bytes) shape values
keeps_more_pieces width line Row values bytes other are k = absurd (other refl)
keeps_more_pieces width line Long values bytes other are k = record {
  kept = (All-append IsCharacter line bytes k.kept.0 are, omega (arith, length-append line bytes, k.kept.1));
}
keeps_more_pieces width line Wrong values bytes other are k = record { kept = still_wrong line bytes k.kept }

-- bytes of which one is no character
pub keeps_wrong_pieces : (width : ℕ) (line : List ℕ) (shape : Shape) (values values' : List Tern) (bytes : List ℕ)
    → (All IsCharacter bytes → ⊥) → KeepsLine width line shape values → KeepsLine width (line ++ bytes) Wrong values'
keeps_wrong_pieces width line shape values values' bytes wrong k = record {
  kept = λ h. wrong (λ i d lt. subst IsCharacter (get_or-append-add line bytes i d)
      (h (length line + i) d (omega (arith, lt, length-append line bytes))));
}

-- a line that has no wrong byte and is no row has a wrong length
pub length_is_wrong : (width number before : ℕ) (line rest : List ℕ) (shape : Shape) (values : List Tern)
    → (shape ≡ Wrong → ⊥) → (shape ≡ Row → length values ≢ width) → number ≡ line_number before
    → KeepsLine width line shape values → EndsLine rest → HasFault width before line rest (fault.Length number)
length_is_wrong width number before line rest Row values other ne e k ends = (
  e,
  ends,
  subst (All IsCharacter) (sym k.kept.0) (characters values),
  λ h. ne refl (sym (length-map values character) ∙ ap length (sym k.kept.0) ∙ h),
)
length_is_wrong width number before line rest Long values other ne e k ends =
    (e, ends, k.kept.0, λ h. omega (arith, h, k.kept.1))
length_is_wrong width number before line rest Wrong values other ne e k ends = absurd (other refl)

-- nothing was read
pub read_none : (width : ℕ) → HasRead width [] [] Row []
read_none width = record {
  widths = All-nil (λ row. length row ≡ width);
  line = [];
  no_end = All-nil (λ b. b ≢ 10);
  text_is = refl;
  keeps = record { kept = (refl, omega arith) };
}

-- a piece more of a line
pub read_piece : {width : ℕ} {text : List ℕ} {rows : List (List Tern)} {shape : Shape} {values : List Tern}
    (shape' : Shape) (values' : List Tern) (piece : List ℕ)
    → HasRead width text rows shape values → All (λ b. b ≢ 10) piece
    → ((line : List ℕ) → KeepsLine width line shape values → KeepsLine width (line ++ piece) shape' values')
    → HasRead width (text ++ piece) rows shape' values'
read_piece {rows} shape' values' piece h ne step = record {
  widths = h.widths;
  line = h.line ++ piece;
  no_end = All-append (λ b. b ≢ 10) h.line piece h.no_end ne;
  text_is = ap (λ (t : List ℕ). t ++ piece) h.text_is ∙ append_assoc (flat_map row_line rows) h.line piece;
  keeps = step h.line h.keeps;
}

-- a piece more of a line, of the bytes after a place
pub read_more : {width n : ℕ} {rows : List (List Tern)} {shape : Shape} {values : List Tern} (xs : List ℕ) (i m : ℕ)
    (shape' : Shape) (values' : List Tern) → n ≡ width → HasRead width (take i xs) rows shape values
    → All (λ b. b ≢ 10) (take m (take (length xs - i) (drop i xs)))
    → ((line : List ℕ) → KeepsLine n line shape values → KeepsLine n (line ++ take (i + m - i) (drop i xs)) shape' values')
    → HasRead width (take (i + m) xs) rows shape' values'
read_more {width} {n} {rows} {shape} {values} xs i m shape' values' e h none step =
    let size : i + m - i ≡ m = omega arith in
    let rest : take (length xs - i) (drop i xs) ≡ drop i xs =
    take_all (length xs - i) (drop i xs) (omega (arith, length-drop i xs)) in
    let no_end : All (λ b. b ≢ 10) (take m (drop i xs)) =
    subst (λ (t : List ℕ). All (λ b. b ≢ 10) (take m t)) rest none in
    let same : (line : List ℕ) → KeepsLine width line shape values
    → KeepsLine width (line ++ take (i + m - i) (drop i xs)) shape' values' =
    subst (λ (w : ℕ). (line : List ℕ) → KeepsLine w line shape values
    → KeepsLine w (line ++ take (i + m - i) (drop i xs)) shape' values') e step in
    let taken : (line : List ℕ) → KeepsLine width line shape values
    → KeepsLine width (line ++ take m (drop i xs)) shape' values' =
    subst (λ (k : ℕ). (line : List ℕ) → KeepsLine width line shape values
    → KeepsLine width (line ++ take k (drop i xs)) shape' values') size same in
    subst (λ (t : List ℕ). HasRead width t rows shape' values') (sym (take-add i m xs))
    (read_piece shape' values' (take m (drop i xs)) h no_end taken)

-- the end of a line in the bytes after a place
pub end_after : (xs : List ℕ) (i n : ℕ) → i + n < length xs
    → (n < length (take (length xs - i) (drop i xs)) → slice_get (take (length xs - i) (drop i xs)) n ≡ Some 10)
    → get_or xs (i + n) 0 ≡ 10
end_after xs i n lt ended =
    let rest : take (length xs - i) (drop i xs) ≡ drop i xs =
    take_all (length xs - i) (drop i xs) (omega (arith, length-drop i xs)) in
    let within : n < length (drop i xs) = omega (arith, lt, length-drop i xs) in
    let is : slice_get (drop i xs) n ≡ Some 10 =
    subst (λ (t : List ℕ). n < length t → slice_get t n ≡ Some 10) rest ended within in
    sym (get_or-drop i xs n 0) ∙ get_or_from_slice_get (drop i xs) n 10 0 is

pub flat_map_push : (rows : List (List Tern)) (values : List Tern)
    → flat_map row_line (rows ++ values ∷ []) ≡ flat_map row_line rows ++ (map character values ++ 10 ∷ [])
flat_map_push rows values =
    flat_map-append row_line rows (values ∷ [])
    ∙ ap (λ (t : List ℕ). flat_map row_line rows ++ t) (append-nil (row_line values))

-- the end of a row
pub read_line : {width : ℕ} {text : List ℕ} {rows : List (List Tern)} {values : List Tern}
    → HasRead width text rows Row values → length values ≡ width
    → HasRead width (text ++ 10 ∷ []) (rows ++ values ∷ []) Row []
read_line {width} {rows} {values} h len = record {
  widths = All-push (λ row. length row ≡ width) rows values h.widths len;
  line = [];
  no_end = All-nil (λ b. b ≢ 10);
  text_is =
      ap (λ (t : List ℕ). t ++ 10 ∷ []) (h.text_is ∙ ap (λ (t : List ℕ). flat_map row_line rows ++ t) h.keeps.kept.0)
      ∙ append_assoc (flat_map row_line rows) (map character values) (10 ∷ [])
      ∙ sym (flat_map_push rows values) ∙ sym (append-nil _);
  keeps = record { kept = (refl, omega arith) };
}

-- the end of a line that is no row
pub read_fault : {width : ℕ} {text : List ℕ} {rows : List (List Tern)} {shape : Shape} {values : List Tern}
    {f : StimFault} (more : List ℕ)
    → HasRead width text rows shape values
    → ((line rest : List ℕ) → KeepsLine width line shape values → EndsLine rest → HasFault width (length rows) line rest f)
    → HasFaultyLine width (text ++ (10 ∷ more)) rows f
read_fault {rows} more h is = record {
  widths = h.widths;
  line = h.line;
  rest = 10 ∷ more;
  no_end = h.no_end;
  text_is = ap (λ (t : List ℕ). t ++ (10 ∷ more)) h.text_is ∙ append_assoc (flat_map row_line rows) h.line (10 ∷ more);
  fault_is = is h.line (10 ∷ more) h.keeps (more, refl);
}

-- the end of a text that no LF ends
pub read_unfinished : {width : ℕ} {text : List ℕ} {rows : List (List Tern)} {shape : Shape} {values : List Tern}
    → HasRead width text rows shape values → ((line : List ℕ) → KeepsLine width line shape values → line ≢ [])
    → HasFaultyLine width text rows fault.Unfinished
read_unfinished {rows} h some = record {
  widths = h.widths;
  line = h.line;
  rest = [];
  no_end = h.no_end;
  text_is = h.text_is ∙ ap (λ (t : List ℕ). flat_map row_line rows ++ t) (sym (append-nil h.line));
  fault_is = (refl, some h.line h.keeps);
}

-- the end of a text after an LF
pub read_end : {width : ℕ} {text : List ℕ} {rows : List (List Tern)} {shape : Shape} {values : List Tern}
    → HasRead width text rows shape values → ((line : List ℕ) → KeepsLine width line shape values → line ≡ [])
    → SpellsRows width text rows
read_end {rows} h none = record {
  widths = h.widths;
  text_is = h.text_is ∙ ap (λ (t : List ℕ). flat_map row_line rows ++ t) (none h.line h.keeps)
      ∙ append-nil (flat_map row_line rows);
}

-- a row after the last one that is allowed
pub limit_is_passed : (width before : ℕ) (line rest : List ℕ) (shape : Shape) (values : List Tern)
    → shape ≡ Row → length values ≡ width → before ≡ 65536
    → KeepsLine width line shape values → EndsLine rest → HasFault width before line rest fault.Limit
limit_is_passed width before line rest Row values is len e k ends = (
  e,
  ends,
  subst (All IsCharacter) (sym k.kept.0) (characters values),
  ap length k.kept.0 ∙ length-map values character ∙ len,
)
limit_is_passed width before line rest Long values is len e k ends = let different : ⊥ = cc in absurd different
limit_is_passed width before line rest Wrong values is len e k ends = let different : ⊥ = cc in absurd different

pub read_same : {width : ℕ} {text text' : List ℕ} {rows rows' : List (List Tern)} {shape shape' : Shape}
    {values values' : List Tern}
    → HasRead width text rows shape values → text ≡ text' → rows ≡ rows' → shape ≡ shape' → values ≡ values'
    → HasRead width text' rows' shape' values'
read_same {width} {text'} {rows} {rows'} {shape} {shape'} {values} {values'} h t r s v =
    subst (λ (x : List Tern). HasRead width text' rows' shape' x) v
    (subst (λ (x : Shape). HasRead width text' rows' x values) s
    (subst (λ (x : List (List Tern)). HasRead width text' x shape values) r
    (subst (λ (x : List ℕ). HasRead width x rows shape values) t h)))

-- a fault that is returned as it is
-- a fault that is returned as it is
pub forwarded : (P : Result ℕ StimFault → Type 0) (r : Result ℕ StimFault) (e : StimFault) → IsErrAnd r (λ f. f ≡ e)
    → P (Err e) → P r
forwarded P r e h p = let (y, is, same) = err_from_is_err_and r h in subst P (ap Err (sym same) ∙ sym is) p

-- The header line names the format.
use Rattle.std.proofs.Common.{◌≡◌, ℕ, List, ◌++◌, get_or, Ok, refl, sym, ap, subst, ◌∙◌, arith}
use Rattle.aig_parts.specs.declared.raw.Raw.{Raw}
use Rattle.aig_format.specs.declared.reader.header.Format.{Format}
use Rattle.aig_format.specs.declared.reader.header.Format.TheVariants.{Ascii, Binary}
use Rattle.aig_format.specs.declared.reader.header.Counts.{Counts}
use Rattle.aig_format.specs.Formats.{IsInFormat}
use Rattle.aig_format.specs.Header.{header_line}
use Rattle.aig_format.specs.Spelling.{ascii, binary}
use Rattle.aig_format.specs.Spells.{IsTextIn, Spells}
use Rattle.aig_format.specs.state.HeaderCounts.{in_line}
use Rattle.aig_format.specs.state.ReadingSections.{header_at}
use Rattle.aig_format.proofs.HeaderLaws.{header_takes}

-- the second byte of a file in this format
second : Format → ℕ
second Ascii = 97
second Binary = 105

one_format : (f g : Format) → second f ≡ second g → f ≡ g
unfolding second
one_format Ascii Ascii e = refl
one_format Ascii Binary e = absurd (omega (arith, e))
one_format Binary Ascii e = absurd (omega (arith, e))
one_format Binary Binary e = refl

second_of_text : (f : Format) (bytes : List ℕ) (raw : Raw) → IsTextIn f bytes raw → get_or bytes 1 0 ≡ second f
unfolding ascii binary header_line second
second_of_text Ascii bytes raw text = ap (λ (xs : List ℕ). get_or xs 1 0) text.1
second_of_text Binary bytes raw text = ap (λ (xs : List ℕ). get_or xs 1 0) text.2

second_of_line : (f : Format) (least : ℕ) (c : Counts) (rest : List ℕ) → get_or (header_line f least (in_line c) ++ rest) 1 0 ≡ second f
unfolding header_line second
second_of_line Ascii least c rest = refl
second_of_line Binary least c rest = refl

second_read : (bytes : List ℕ) (f : Format) (c : Counts) (rest : List ℕ) → header_at bytes ≡ Ok ((f, c), rest)
    → get_or bytes 1 0 ≡ second f
second_read bytes f c rest e =
    let h = header_takes bytes (f, c) rest e in
    ap (λ (xs : List ℕ). get_or xs 1 0) h.spelled ∙ second_of_line f h.least c rest

-- what is spelled after such a header line is spelled in its format
pub format_read : (bytes : List ℕ) (f : Format) (c : Counts) (rest : List ℕ) → header_at bytes ≡ Ok ((f, c), rest)
    → (raw : Raw) → Spells bytes raw → IsInFormat f bytes raw
format_read bytes f c rest e raw s =
    let same : s.1.0 ≡ f =
    one_format s.1.0 f (sym (second_of_text s.1.0 bytes raw s.1.1) ∙ second_read bytes f c rest e) in
    (s.0, subst (λ (g : Format). IsTextIn g bytes raw) same s.1.1)

-- The first lines of a script are those of a beginning of it.
use Rattle.std.proofs.Common.{◌≡◌, ℕ, ◌≤◌, Bool, true, false, cond, eqb, List, [], ◌∷◌, ◌++◌, map, length}
use Rattle.std.proofs.Common.{length-append, refl, sym, ap, ◌∙◌, arith}
use Rattle.aig_bytes.specs.Bytes.{IsBeginning}
use Rattle.aig_script.specs.Lines.{Line, whole, lines_from, whole_lines, last_piece}

-- with the first bytes of a line, the lines that an LF ends in a beginning of the bytes that follow
pub record Part (line bytes : List ℕ) (first : List Line) : Type 0 where
  pub part : List ℕ
  pub beginning : IsBeginning part bytes
  pub lines : map whole (lines_from line part) ≡ first

head_is : (a b : Line) (more rest : List Line) → a ∷ more ≡ b ∷ rest → a ≡ b
head_is a b more rest e = cc

tail_is : (a b : Line) (more rest : List Line) → a ∷ more ≡ b ∷ rest → more ≡ rest
tail_is a b more rest e = cc

-- ---- by the first byte that follows

module _ (line : List ℕ) (b : ℕ) (bytes : List ℕ) where
  after_end : (p : List ℕ) → eqb b 10 ≡ true → map whole (lines_from line (b ∷ p)) ≡ whole line ∷ whole_lines p
  after_end p h = ap (λ (v : Bool). map whole (cond v (line ∷ lines_from [] p) (lines_from (line ++ b ∷ []) p))) h

  after_byte : (p : List ℕ) → eqb b 10 ≡ false
      → map whole (lines_from line (b ∷ p)) ≡ map whole (lines_from (line ++ b ∷ []) p)
  after_byte p h = ap (λ (v : Bool). map whole (cond v (line ∷ lines_from [] p) (lines_from (line ++ b ∷ []) p))) h

  more_end : (last : Line) (first : List Line) → eqb b 10 ≡ true → whole line ≡ last → Part [] bytes first
      → Part line (b ∷ bytes) (last ∷ first)
  more_end last first h e p = record {
    part = b ∷ p.part;
    beginning = (p.beginning.0, ap (λ (t : List ℕ). b ∷ t) p.beginning.1);
    lines = after_end p.part h ∙ (λ i. e i ∷ p.lines i);
  }

  more_byte : (first : List Line) → eqb b 10 ≡ false → Part (line ++ b ∷ []) bytes first → Part line (b ∷ bytes) first
  more_byte first h p = record {
    part = b ∷ p.part;
    beginning = (p.beginning.0, ap (λ (t : List ℕ). b ∷ t) p.beginning.1);
    lines = after_byte p.part h ∙ p.lines;
  }

none_or_more : (bytes : List ℕ) (first more : List Line)
    → ((l : Line) (first more : List Line) → whole_lines bytes ≡ l ∷ (first ++ more) → Part [] bytes (l ∷ first))
    → whole_lines bytes ≡ first ++ more → Part [] bytes first
none_or_more bytes [] more some e = record { part = []; beginning = (bytes, refl); lines = refl }
none_or_more bytes (l ∷ first) more some e = some l first more e

-- one line or more
some_lines : (line bytes : List ℕ) (l : Line) (first more : List Line)
    → map whole (lines_from line bytes) ≡ l ∷ (first ++ more) → Part line bytes (l ∷ first)
some_lines line [] l first more e = let no : ⊥ = cc in absurd no
some_lines line (b ∷ bytes) l first more e =
    (elim (eqb b 10) as (λ v. eqb b 10 ≡ v → Part line (b ∷ bytes) (l ∷ first)) [
      | true ↦ λ h.
          let same : whole line ∷ whole_lines bytes ≡ l ∷ (first ++ more) = sym (after_end line b bytes bytes h) ∙ e in
          more_end line b bytes l first h (head_is (whole line) l (whole_lines bytes) (first ++ more) same)
          (none_or_more bytes first more (some_lines [] bytes) (tail_is (whole line) l (whole_lines bytes) (first ++ more) same))
      | false ↦ λ h.
          more_byte line b bytes (l ∷ first) h
          (some_lines (line ++ b ∷ []) bytes l first more (sym (after_byte line b bytes bytes h) ∙ e))
    ]) refl

-- the lines of a script up to one that an LF ends
pub part_of : (script : List ℕ) (first more : List Line) → whole_lines script ≡ first ++ more → Part [] script first
part_of script first more e = none_or_more script first more (some_lines [] script) e

-- ---- a line that another one follows is ended by an LF

short : (piece : List ℕ) → length (last_piece piece) ≤ 1
short [] = omega arith
short (b ∷ bytes) = omega arith

pub ended_before : (lines : List Line) (piece : List ℕ) (first : List Line) (last next : Line) (more : List Line)
    → lines ++ last_piece piece ≡ first ++ (last ∷ (next ∷ more)) → (rest : List Line) × (lines ≡ first ++ (last ∷ rest))
ended_before [] piece first last next more e =
    absurd (let no : ⊥ = omega (arith, ap length e, short piece, length-append first (last ∷ (next ∷ more))) in no)
ended_before (l ∷ lines) piece [] last next more e =
    (lines, ap (λ (a : Line). a ∷ lines) (head_is l last (lines ++ last_piece piece) (next ∷ more) e))
ended_before (l ∷ lines) piece (f ∷ first) last next more e =
    let tail = tail_is l f (lines ++ last_piece piece) (first ++ (last ∷ (next ∷ more))) e in
    let (rest, is) = ended_before lines piece first last next more tail in
    (rest, λ i. head_is l f (lines ++ last_piece piece) (first ++ (last ∷ (next ∷ more))) e i ∷ is i)

-- The mapping in a comment, and its pairs.
use Rattle.std.proofs.Common.{◌≡◌, ◌≢◌, ℕ, ◌^◌, ◌<◌, List, [], ◌∷◌, ◌++◌, length, map, codes, decimal, All}
use Rattle.std.proofs.Common.{sym, ap, ap₂, subst, ◌∙◌, arith}
use Rattle.std.proofs.lemmas.Fmt.{decimal_injective}
use Rattle.std.proofs.lemmas.List.{append_cancel_left}
use Rattle.aig_parts.specs.declared.raw.Raw.{Raw}
use Rattle.aig_base.specs.Sound.{StandsTwice}
use Rattle.aig_certificate.specs.declared.fault.StrengthenFault.{StrengthenFault}
use Rattle.aig_certificate.specs.declared.fault.StrengthenFault.TheVariants as faults
use Rattle.aig_certificate.specs.declared.mapping.Pair.{Pair}
use Rattle.aig_certificate.specs.Mapping.{ArePairs, IsMapping, IsPair, heading, mapping_lines, pair_line}
use Rattle.aig_certificate.specs.Shared.{IsNamed, IsWrongMapping}
use Rattle.aig_certificate.specs.state.Lines.{AreLinesOf, RefusesPairs}
use Rattle.aig_certificate.specs.state.Said.{RefusesSaid, RefusesSharing, own_variables}
use Rattle.aig_certificate.proofs.MappingLines.{Known, same_pairs}

-- a heading has one number
pub same_count : (m n : ℕ) → m < 2 ^ 32 → n < 2 ^ 32 → heading m ≡ heading n → m ≡ n
same_count m n a b e =
    decimal_injective m n (omega (arith, a)) (omega (arith, b))
    (append_cancel_left (codes "MAPPING ") (decimal m) (decimal n) e)

module _ (model certificate : Raw) (first : List ℕ) (left : List (List ℕ)) (quiet : IsNamed certificate → ⊥)
    (lines : mapping_lines certificate.comment ≡ first ∷ left) where
  first_is : (ps : List Pair) → IsMapping certificate ps → first ≡ heading (length ps)
  first_is ps m =
      let both : first ∷ left ≡ heading (length ps) ∷ (map pair_line ps ++ m.after) = sym lines ∙ m.lines_are in cc

  left_is : (ps : List Pair) (m : IsMapping certificate ps) → left ≡ map pair_line ps ++ m.after
  left_is ps m =
      let both : first ∷ left ≡ heading (length ps) ∷ (map pair_line ps ++ m.after) = sym lines ∙ m.lines_are in cc

  wrong_by : ((ps : List Pair) → IsMapping certificate ps → ArePairs model certificate ps → ⊥)
      → IsWrongMapping model certificate
  wrong_by never = (quiet, some, never)
    where
      some : mapping_lines certificate.comment ≢ []
      some e = let both : first ∷ left ≡ [] = sym lines ∙ e in cc

  -- the lines behind it are no pairs
  pub wrong_pairs : (n : ℕ) → n < 2 ^ 32 → first ≡ heading n → (fault : StrengthenFault)
      → RefusesPairs model certificate left n fault → RefusesSharing model certificate fault
  wrong_pairs n few is faults.Memory h = tt
  wrong_pairs n few is faults.Comment h = wrong_by (λ ps m are.
      h ps (same_count (length ps) n m.few few (sym (first_is ps m) ∙ is)) are.each (m.after, left_is ps m))
  wrong_pairs n few is (faults.Symbol k p) h = absurd h
  wrong_pairs n few is faults.Property h = absurd h
  wrong_pairs n few is faults.Limit h = absurd h
  wrong_pairs n few is (faults.Circuit f) h = absurd h

  -- two pairs are of one entry
  pub wrong_said : Known model certificate → (n : ℕ) → n < 2 ^ 32 → first ≡ heading n → (pairs : List Pair)
      → length pairs ≡ n → All (IsPair model certificate) pairs → AreLinesOf left pairs → (fault : StrengthenFault)
      → RefusesSaid pairs fault → RefusesSharing model certificate fault
  wrong_said known n few is pairs size each (after, lines_are) faults.Memory h = tt
  wrong_said known n few is pairs size each (after, lines_are) faults.Comment (v, twice) = wrong_by (λ ps m are.
      let count : length pairs ≡ length ps =
      size ∙ sym (same_count (length ps) n m.few few (sym (first_is ps m) ∙ is)) in
      let same : pairs ≡ ps =
      same_pairs model certificate known pairs ps after m.after (sym lines_are ∙ left_is ps m) count each are.each in
      are.once v (subst (λ (qs : List Pair). StandsTwice (own_variables qs) v) same twice))
  wrong_said known n few is pairs size each lines_are (faults.Symbol k p) h = absurd h
  wrong_said known n few is pairs size each lines_are faults.Property h = absurd h
  wrong_said known n few is pairs size each lines_are faults.Limit h = absurd h
  wrong_said known n few is pairs size each lines_are (faults.Circuit f) h = absurd h

  -- they are pairs
  pub is_mapping : (n : ℕ) → n < 2 ^ 32 → first ≡ heading n → (pairs : List Pair) → length pairs ≡ n
      → AreLinesOf left pairs → IsMapping certificate pairs
  is_mapping n few is pairs size (after, lines_are) = record {
    after = after;
    lines_are = lines ∙ ap₂ (λ (x : List ℕ) (xs : List (List ℕ)). x ∷ xs) (is ∙ ap heading (sym size)) lines_are;
    few = subst (λ k. k < 2 ^ 32) (sym size) few;
  }

-- The lines of cuts: each names one cut, and where a line ends is seen.
use Rattle.std.proofs.Common.{◌≡◌, ◌≢◌, ◌⊎◌, inl, inr, ℕ, ◌+◌, ◌^◌, ◌<◌, ◌==◌, false, List, [], ◌∷◌, ◌++◌, decimal, All}
use Rattle.std.proofs.Common.{length, refl, sym, ◌∙◌, ap, subst, arith}
use Rattle.std.proofs.lemmas.Bool.{ne_eqb}
use Rattle.std.proofs.lemmas.Fmt.{decimal_injective}
use Rattle.std.proofs.lemmas.List.Elements.{All-cons, All-weaker}
use Rattle.aig_bytes.proofs.Decimals.{IsDigit, decimal_lacks}
use Rattle.aig_parts.specs.declared.raw.Raw.{Raw}
use Rattle.aig_base.specs.Circuit.{IsCircuit}
use Rattle.aig_certificate.proofs.MappingLines.{no_cut, same_cut}
use Rattle.aig_cut.specs.declared.line.Cut.{Cut}
use Rattle.aig_cut.specs.declared.line.Cut.TheVariants as cut
use Rattle.aig_cut.specs.Cuts.{IsCutIn}
use Rattle.aig_cut.specs.Lines.{cut_line}
use Rattle.aig_cut.specs.state.Marks.{number_in}
use Rattle.aig_cut.proofs.Marking.{of_either, of_latch}

-- ---- what a line is made of

abbrev pub letter : Cut → ℕ
letter (cut.Free l) = 102
letter (cut.Start l) = 114
letter (cut.Constraint p) = 99

pub line_is : (c : Cut) → cut_line c ≡ letter c ∷ 32 ∷ decimal (number_in c)
line_is (cut.Free l) = refl
line_is (cut.Start l) = refl
line_is (cut.Constraint p) = refl

-- what a circuit has is named by a small number
pub small_number : (raw : Raw) → IsCircuit raw → (c : Cut) → IsCutIn raw c → number_in c < 2 ^ 32
small_number raw circuit (cut.Free l) here =
    let known = of_either raw circuit.sound l here in
    let few = circuit.formed.counts.max_var in
    omega (arith, known.range, few)
small_number raw circuit (cut.Start l) here =
    let known = of_latch raw circuit.sound l here in
    let few = circuit.formed.counts.max_var in
    omega (arith, known.range, few)
small_number raw circuit (cut.Constraint p) here =
    let few = circuit.formed.counts.constraints in
    omega (arith, here, few)

-- ---- two lines that are the same

heads_same : (a b : ℕ) (xs ys : List ℕ) → a ∷ xs ≡ b ∷ ys → a ≡ b
heads_same a b xs ys e = cc

tails_same : (a b : ℕ) (xs ys : List ℕ) → a ∷ xs ≡ b ∷ ys → xs ≡ ys
tails_same a b xs ys e = cc

-- a line has the letter and the number of its cut
pub parts_same : (c : Cut) (a b : ℕ) (word : List ℕ) → a ∷ b ∷ word ≡ cut_line c
    → (a ≡ letter c) × (b ≡ 32) × (word ≡ decimal (number_in c))
parts_same c a b word e =
    let f : a ∷ b ∷ word ≡ letter c ∷ 32 ∷ decimal (number_in c) = e ∙ line_is c in
    let g : b ∷ word ≡ 32 ∷ decimal (number_in c) = tails_same a (letter c) (b ∷ word) (32 ∷ decimal (number_in c)) f in (
      heads_same a (letter c) (b ∷ word) (32 ∷ decimal (number_in c)) f,
      heads_same b 32 word (decimal (number_in c)) g,
      tails_same b 32 word (decimal (number_in c)) g,
    )

-- cuts with one letter and one number are one
pub same_kind : (c d : Cut) → letter c ≡ letter d → number_in c ≡ number_in d → c ≡ d
same_kind (cut.Free l) (cut.Free m) a b = ap (λ n. cut.Free n) b
same_kind (cut.Free l) (cut.Start m) a b = absurd (omega (arith, a))
same_kind (cut.Free l) (cut.Constraint m) a b = absurd (omega (arith, a))
same_kind (cut.Start l) (cut.Free m) a b = absurd (omega (arith, a))
same_kind (cut.Start l) (cut.Start m) a b = ap (λ n. cut.Start n) b
same_kind (cut.Start l) (cut.Constraint m) a b = absurd (omega (arith, a))
same_kind (cut.Constraint l) (cut.Free m) a b = absurd (omega (arith, a))
same_kind (cut.Constraint l) (cut.Start m) a b = absurd (omega (arith, a))
same_kind (cut.Constraint l) (cut.Constraint m) a b = ap (λ n. cut.Constraint n) b

pub same_line : (c d : Cut) → number_in c < 2 ^ 32 → number_in d < 2 ^ 32 → cut_line c ≡ cut_line d → c ≡ d
same_line c d small few e =
    let (first, blank, word) = parts_same d (letter c) 32 (decimal (number_in c)) (sym (line_is c) ∙ e) in
    same_kind c d first (decimal_injective (number_in c) (number_in d) (omega (arith, small)) (omega (arith, few)) word)

-- ---- where a line ends

not_line_feed : IsDigit 10 → ⊥
not_line_feed (ge, le) = absurd (omega (arith, ge))

abbrev IsOther : ℕ → Type 0
IsOther b = (b == 10) ≡ false

pub as_others : (xs : List ℕ) → All (λ b. b ≢ 10) xs → All IsOther xs
as_others xs all = All-weaker (λ b. b ≢ 10) IsOther (λ b other. ne_eqb b 10 other) xs all

line_lacks : (c : Cut) → All IsOther (cut_line c)
line_lacks c =
    subst (λ (xs : List ℕ). All IsOther xs) (sym (line_is c))
    (All-cons IsOther (letter c) (32 ∷ decimal (number_in c)) (first c)
    (All-cons IsOther 32 (decimal (number_in c)) refl (as_others (decimal (number_in c)) (decimal_lacks 10 not_line_feed (number_in c)))))
  where
    first : (d : Cut) → IsOther (letter d)
    first (cut.Free l) = refl
    first (cut.Start l) = refl
    first (cut.Constraint p) = refl

-- a text without LF begins with no line
pub no_end : (text : List ℕ) → All (λ b. b ≢ 10) text → (c : Cut) (after : List ℕ) → text ≢ cut_line c ++ 10 ∷ after
no_end text none c after e = no_cut 10 text (cut_line c) after (as_others text none) e

-- a text that begins with a line is cut after it
pub first_line : (text line rest : List ℕ) → All (λ b. b ≢ 10) line → text ≡ line ++ 10 ∷ rest → (c : Cut) (after : List ℕ)
    → text ≡ cut_line c ++ 10 ∷ after → line ≡ cut_line c
first_line text line rest none is c after e =
    (same_cut 10 line rest (cut_line c) after (as_others line none) (line_lacks c) (sym is ∙ e)).0

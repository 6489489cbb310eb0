-- What is no step of a text.
use Rattle.std.proofs.Common.{◌≡◌, ◌≢◌, ◌⊎◌, inl, inr, ℕ, ◌+◌, ◌-◌, ◌*◌, ◌/◌, ◌%◌, ◌<◌, ◌≤◌, ◌^◌, Bool, true, false}
use Rattle.std.proofs.Common.{if◌then◌else◌, List, [], ◌∷◌, ◌++◌, length, All, codes, Option, Some, None, slice_get}
use Rattle.std.proofs.Common.{refl, sym, ap, ◌∙◌, subst, arith, append_assoc, length-append}
use Rattle.std.specs.Prelude.{IfSome}
use Rattle.std.specs.Option.{IsSomeAnd}
use Rattle.std.specs.Fmt.{decimal}
use Rattle.std.proofs.lemmas.Bool.Decides.{eqb_tells}
use Rattle.std.proofs.lemmas.Bool.{cases_lt}
use Rattle.std.proofs.lemmas.Fmt.{decimal_digit, decimal_injective, decimal_step}
use Rattle.std.proofs.lemmas.List.{append-nil, length_push}
use Rattle.std.proofs.lemmas.List.Elements.{All-cons, All-head, All-nil, All-push, All-tail}
use Rattle.aig_bytes.proofs.Cuts.{split_at}
use Rattle.aig_bytes.specs.Bytes.{before}
use Rattle.aig_bytes.specs.Term.{minus}
use Rattle.aig_parts.specs.Literal.{variable}
use Rattle.aig_sat.specs.model.ModelText.{IsSpace, number_text}
use Rattle.aig_sat.specs.declared.proof.step.StepKind.{StepKind}
use Rattle.aig_sat.specs.proof.ProofText.{EndsStep, Gap, IsBlank, SpellsClause, SpellsStep, last_byte}
use Rattle.aig_sat.specs.proof.Steps.{StepToCome}
use Rattle.aig_sat.specs.proof.state.Taking.{BeginsGap, BeginsNot, ClauseToCome, EndsToCome, EndsUnfinished, IsDigit}
use Rattle.aig_sat.specs.proof.state.Taking.{IsNumber, IsUnfinished, LeadsWord, LineToCome, WordToCome}
use Rattle.aig_sat.proofs.reading.TakingLemmas.{after, before_none, digits_more}
use Rattle.aig_sat.proofs.models.DigitLemmas.{decimal_head}
use Rattle.aig_bytes.proofs.Decimals.{digit_joins, digits-decimal}
use Rattle.aig_sat.proofs.models.PieceLemmas.{Word, no_space_in_word}

-- ---- lists

pub span : (P : ℕ → Type 0) (a c b d : List ℕ) → All P a → All P c → BeginsNot P b → BeginsNot P d → a ++ b ≡ c ++ d
    → (a ≡ c) × (b ≡ d)
span P [] [] b d s t p q e = (refl, e)
span P [] (z ∷ c) b d s t p q e = absurd (p z (c ++ d) e (All-head P z c t))
span P (z ∷ a) [] b d s t p q e = absurd (q z (a ++ b) (sym e) (All-head P z a s))
span P (z ∷ a) (u ∷ c) b d s t p q e =
    let same : z ≡ u = cc in
    let more : a ++ b ≡ c ++ d = cc in
    let r = span P a c b d (All-tail P z a s) (All-tail P u c t) p q more in
    (ap (λ (v : ℕ). v ∷ a) same ∙ ap (λ (vs : List ℕ). u ∷ vs) r.0, r.1)

lf_inside : (xs ys : List ℕ) → All (λ b. b ≢ 10) (xs ++ 10 ∷ ys) → ⊥
lf_inside [] ys all = All-head (λ b. b ≢ 10) 10 ys all refl
lf_inside (x ∷ xs) ys all = lf_inside xs ys (All-tail (λ b. b ≢ 10) x (xs ++ 10 ∷ ys) all)

last_line : (x : ℕ) (line rest : List ℕ) → last_byte x (line ++ 10 ∷ rest) ≡ last_byte 10 rest
last_line x [] rest = refl
last_line x (y ∷ line) rest = last_line y line rest

pub no_space : (b : ℕ) → 32 < b → IsSpace b → ⊥
no_space b lt (inl e) = omega (arith, lt, e)
no_space b lt (inr (inl e)) = omega (arith, lt, e)
no_space b lt (inr (inr e)) = omega (arith, lt, e)

pub space_below : (b : ℕ) → IsSpace b → b ≤ 32
space_below b (inl e) = omega (arith, e)
space_below b (inr (inl e)) = omega (arith, e)
space_below b (inr (inr e)) = omega (arith, e)

-- ---- what separates

-- this goes on with no space and no comment
abbrev pub Stops : List ℕ → Type 0
Stops bytes = BeginsNot (λ b. IsSpace b ⊎ (b ≡ 99)) bytes

-- what separates goes on where other bytes that separate end
pub peel : {p : ℕ} {h g : List ℕ} (t u : List ℕ) → Gap p h → Gap p g → g ++ t ≡ h ++ u → Stops t
    → (more : List ℕ) × Gap (last_byte p h) more × (u ≡ more ++ t)
peel {p} {h} {g} t u Gap.nothing of_g e stops = (g, of_g, sym e)
peel t u (Gap.space {rest = h} b space of_h) Gap.nothing e stops = absurd (stops b (h ++ u) e (inl space))
peel t u (Gap.space {rest = h} b space of_h) (Gap.space {rest = g} c space' of_g) e stops =
    let same : c ≡ b = cc in
    let tails : g ++ t ≡ h ++ u = cc in
    peel t u of_h (subst (λ (n : ℕ). Gap n g) same of_g) tails stops
peel t u (Gap.space {rest = h} b space of_h) (Gap.comment {rest = g} line inside of_g) e stops =
    let same : 99 ≡ b = cc in absurd (no_space b (omega (arith, same)) space)
peel t u (Gap.comment {rest = h} line inside of_h) Gap.nothing e stops =
    absurd (stops 99 ((line ++ 10 ∷ h) ++ u) e (inr refl))
peel t u (Gap.comment {rest = h} line inside of_h) (Gap.space {rest = g} c space of_g) e stops =
    let same : c ≡ 99 = cc in absurd (no_space c (omega (arith, same)) space)
peel t u (Gap.comment {rest = h} line inside of_h) (Gap.comment {rest = g} line' inside' of_g) e stops =
    let lines : (line' ++ 10 ∷ g) ++ t ≡ (line ++ 10 ∷ h) ++ u = cc in
    let r = split_at (λ b. b ≡ 10) line' line (g ++ t) (h ++ u) 10 10 inside' inside refl refl
    (sym (append_assoc line' (10 ∷ g) t) ∙ lines ∙ append_assoc line (10 ∷ h) u) in
    let tails : g ++ t ≡ h ++ u = let both = r.1 in cc in
    let (more, of_more, is) = peel t u of_h of_g tails stops in
    (more, subst (λ (n : ℕ). Gap n more) (sym (last_line 99 line h)) of_more, is)

-- where nothing goes on to separate
pub none_more : {q : ℕ} {more : List ℕ} (t u : List ℕ) → Gap q more → u ≡ more ++ t → BeginsNot (BeginsGap q) u → u ≡ t
none_more t u Gap.nothing e stops = e
none_more t u (Gap.space {rest = rest} b space of) e stops = absurd (stops b (rest ++ t) e (inl space))
none_more t u (Gap.comment {rest = rest} line inside of) e stops =
    absurd (stops 99 ((line ++ 10 ∷ rest) ++ t) e (inr (refl, refl)))

-- and where a comment does not end
no_end : {q : ℕ} {more : List ℕ} (t line : List ℕ) → Gap q more → 99 ∷ line ≡ more ++ t → All (λ b. b ≢ 10) line
    → Stops t → ⊥
no_end t line Gap.nothing e inside stops = stops 99 line (sym e) (inr refl)
no_end t line (Gap.space {rest = rest} b space of) e inside stops =
    let same : 99 ≡ b = cc in no_space b (omega (arith, same)) space
no_end t line (Gap.comment {rest = rest} line' inside' of) e inside stops =
    let tail : line ≡ (line' ++ 10 ∷ rest) ++ t = cc in
    lf_inside line' (rest ++ t)
    (subst (All (λ b. b ≢ 10)) (tail ∙ append_assoc line' (10 ∷ rest) t) inside)

pub unfinished : {p : ℕ} {g : List ℕ} (t bytes : List ℕ) → EndsUnfinished p bytes → Gap p g → bytes ≡ g ++ t → Stops t → ⊥
unfinished t bytes (gap, rest, of, (line, at, inside, is), all) of_g e stops =
    let (more, of_more, is') = peel t rest of of_g (sym e ∙ all) stops in
    no_end t line of_more (sym is ∙ is') inside stops

-- ---- the words of a clause

pub number_space : (l : ℕ) → variable l < 2147483647 → All (λ b. IsSpace b → ⊥) (number_text l)
number_space l below = no_space_in_word 2147483647 [] (Word.literal l) (omega arith) below

-- the number of a literal, by its sign
record Number (l : ℕ) : Type 0 where
  negated : Bool
  is : number_text l ≡ minus negated ++ decimal (variable l + 1)

number : (l : ℕ) → Number l
number l = elim (eqb_tells (l % 2) 0) [
  | inl is ↦ record {
    negated = false;
    is = ap (λ (t : Bool). (if t then [] else codes "-") ++ decimal (variable l + 1)) is.0;
  }
  | inr is ↦ record {
    negated = true;
    is = ap (λ (t : Bool). (if t then [] else codes "-") ++ decimal (variable l + 1)) is.0;
  }
]

-- how it begins
pub record Begins (bytes : List ℕ) : Type 0 where
  pub first : ℕ
  pub rest : List ℕ
  pub is : bytes ≡ first ∷ rest
  pub least : 45 ≤ first
  pub most : first ≤ 57

pub number_begins : (l : ℕ) (more : List ℕ) → variable l < 2147483647 → Begins (number_text l ++ more)
number_begins l more below = by (number l).negated (number l).is
  where
    by : (t : Bool) → number_text l ≡ minus t ++ decimal (variable l + 1) → Begins (number_text l ++ more)
    by true is = record {
      first = 45;
      rest = decimal (variable l + 1) ++ more;
      is = ap (λ (xs : List ℕ). xs ++ more) is;
      least = omega arith;
      most = omega arith;
    }
    by false is =
        let h = decimal_head (variable l + 1) (omega (arith, below)) in
        record {
          first = h.first;
          rest = h.rest ++ more;
          is = ap (λ (xs : List ℕ). xs ++ more) (is ∙ h.is);
          least = omega (arith, h.digit.0);
          most = h.digit.1;
        }

pub word_begins : (f : Bool) (bytes : List ℕ) → WordToCome f bytes → Begins bytes
word_begins f bytes (WordToCome.end {bytes = rest} ends) =
    record { first = 48; rest = rest; is = refl; least = omega arith; most = omega arith }
word_begins f bytes (WordToCome.literal {rest = rest} l b below space clause) = number_begins l (b ∷ rest) below

pub begins_stops : (bytes : List ℕ) → Begins bytes → Stops bytes
begins_stops bytes h = λ b rest e goes.
    let same : h.first ≡ b = let both : h.first ∷ h.rest ≡ b ∷ rest = sym h.is ∙ e in cc in
    elim goes [
      | inl space ↦ no_space b (omega (arith, same, h.least)) space
      | inr is ↦ omega (arith, same, is, h.most)
    ]

-- a clause is what separates, and its first word
pub record FirstWord (f : Bool) (p : ℕ) (bytes : List ℕ) : Type 0 where
  pub gap : List ℕ
  pub rest : List ℕ
  pub of_gap : Gap p gap
  pub is : bytes ≡ gap ++ rest
  pub word : WordToCome f rest

pub clause_word : (f : Bool) (p : ℕ) (bytes text rest clause : List ℕ) → SpellsClause f p text clause → bytes ≡ text ++ rest
    → FirstWord f p bytes
clause_word f p bytes text rest clause (SpellsClause.end {gap = gap} ends of e) is = record {
  gap = gap;
  rest = 48 ∷ (ends ++ rest);
  of_gap = of;
  is = is ∙ append_assoc gap (48 ∷ ends) rest;
  word = WordToCome.end (ends, rest, e, refl);
}
clause_word f p bytes text rest clause
    (SpellsClause.literal {gap = gap} {rest = more} {clause = others} l b of below space next) is = record {
      gap = gap;
      rest = number_text l ++ b ∷ (more ++ rest);
      of_gap = of;
      is =
          is ∙ append_assoc gap (number_text l ++ b ∷ more) rest
          ∙ ap (λ (xs : List ℕ). gap ++ xs) (append_assoc (number_text l) (b ∷ more) rest);
      word = WordToCome.literal l b below space (more, rest, others, next, refl);
    }

word_clause : (f : Bool) (p : ℕ) (bytes : List ℕ) → WordToCome f bytes → ClauseToCome f p bytes
word_clause f p bytes (WordToCome.end {bytes = all} (ends, rest, e, is)) =
    (48 ∷ ends, rest, [], SpellsClause.end ends Gap.nothing e, ap (λ (xs : List ℕ). 48 ∷ xs) is)
word_clause f p bytes (WordToCome.literal {rest = all} l b below space (text, rest, clause, next, is)) = (
  number_text l ++ b ∷ text,
  rest,
  l ∷ clause,
  SpellsClause.literal l b Gap.nothing below space next,
  ap (λ (xs : List ℕ). number_text l ++ b ∷ xs) is ∙ sym (append_assoc (number_text l) (b ∷ text) rest),
)

-- after all that separates a word is to come
clause_after : (f : Bool) (p : ℕ) (xs bytes : List ℕ) → Gap p xs → BeginsNot (BeginsGap (last_byte p xs)) bytes
    → ClauseToCome f p (xs ++ bytes) → WordToCome f bytes
clause_after f p xs bytes of stops (text, rest, clause, spelled, is) =
    let k = clause_word f p (xs ++ bytes) text rest clause spelled is in
    let (more, of_more, e) = peel k.rest bytes of k.of_gap (sym k.is) (begins_stops k.rest (word_begins f k.rest k.word)) in
    subst (WordToCome f) (sym (none_more k.rest bytes of_more e stops)) k.word

clause_unfinished : (f : Bool) (p : ℕ) (bytes : List ℕ) → EndsUnfinished p bytes → ClauseToCome f p bytes → ⊥
clause_unfinished f p bytes open_end (text, rest, clause, spelled, is) =
    let k = clause_word f p bytes text rest clause spelled is in
    unfinished k.rest bytes open_end k.of_gap k.is (begins_stops k.rest (word_begins f k.rest k.word))

-- ---- what a step does

-- the word of a clause, a `d` and its clause, or the end
data KindToCome (f : Bool) : List ℕ → Type 0 where
  at_end : KindToCome f []
  adds : {bytes : List ℕ} → WordToCome f bytes → KindToCome f bytes
  deletes : {rest : List ℕ} (b : ℕ) → IsSpace b → ClauseToCome f b rest → KindToCome f (100 ∷ (b ∷ rest))

kind_stops : (f : Bool) (bytes : List ℕ) → KindToCome f bytes → Stops bytes
kind_stops f bytes KindToCome.at_end = λ b rest e goes. let never : ⊥ = cc in never
kind_stops f bytes (KindToCome.adds word) = begins_stops bytes (word_begins f bytes word)
kind_stops f bytes (KindToCome.deletes {rest = all} b space clause) = λ c rest e goes.
    let same : 100 ≡ c = cc in
    elim goes [ inl space' ↦ no_space c (omega (arith, same)) space' | inr is ↦ omega (arith, same, is) ]

record FirstKind (f : Bool) (p : ℕ) (bytes : List ℕ) : Type 0 where
  gap : List ℕ
  rest : List ℕ
  of_gap : Gap p gap
  is : bytes ≡ gap ++ rest
  kind : KindToCome f rest

step_kind : (f : Bool) (p : ℕ) (bytes : List ℕ) → StepToCome f p bytes → FirstKind f p bytes
step_kind f p bytes (inr gap) =
    record { gap = bytes; rest = []; of_gap = gap; is = sym (append-nil bytes); kind = KindToCome.at_end }
step_kind f p bytes (inl (text, rest, kind, clause, spelled, is)) = by text kind clause spelled is
  where
    by : (text : List ℕ) (kind : StepKind) (clause : List ℕ) → SpellsStep f p text kind clause → bytes ≡ text ++ rest
        → FirstKind f p bytes
    by text kind clause (SpellsStep.add spelled) is =
        let k = clause_word f p bytes text rest clause spelled is in
        record { gap = k.gap; rest = k.rest; of_gap = k.of_gap; is = k.is; kind = KindToCome.adds k.word }
    by text kind clause (SpellsStep.delete {gap = gap} {text = more} b of space spelled) is = record {
      gap = gap;
      rest = 100 ∷ (b ∷ (more ++ rest));
      of_gap = of;
      is = is ∙ append_assoc gap (100 ∷ (b ∷ more)) rest;
      kind = KindToCome.deletes b space (more, rest, clause, spelled, refl);
    }

kind_after : (f : Bool) (p : ℕ) (xs bytes : List ℕ) → Gap p xs → BeginsNot (BeginsGap (last_byte p xs)) bytes
    → StepToCome f p (xs ++ bytes) → KindToCome f bytes
kind_after f p xs bytes of stops step =
    let k = step_kind f p (xs ++ bytes) step in
    let (more, of_more, e) = peel k.rest bytes of k.of_gap (sym k.is) (kind_stops f k.rest k.kind) in
    subst (KindToCome f) (sym (none_more k.rest bytes of_more e stops)) k.kind

step_unfinished : (f : Bool) (p : ℕ) (bytes : List ℕ) → EndsUnfinished p bytes → StepToCome f p bytes → ⊥
step_unfinished f p bytes open_end step =
    let k = step_kind f p bytes step in
    unfinished k.rest bytes open_end k.of_gap k.is (kind_stops f k.rest k.kind)

-- a `d` that no space follows
no_deletion : (f : Bool) (p : ℕ) (xs bytes : List ℕ) → Gap p xs → BeginsNot (BeginsGap (last_byte p xs)) (100 ∷ bytes)
    → BeginsNot IsSpace bytes → StepToCome f p (xs ++ 100 ∷ bytes) → ⊥
no_deletion f p xs bytes of stops lacks step = by (100 ∷ bytes) (kind_after f p xs (100 ∷ bytes) of stops step) refl
  where
    by : (all : List ℕ) → KindToCome f all → all ≡ 100 ∷ bytes → ⊥
    by all KindToCome.at_end e = let never : ⊥ = cc in never
    by all (KindToCome.adds word) e =
        let h = word_begins f all word in
        let same : h.first ≡ 100 = let both : h.first ∷ h.rest ≡ 100 ∷ bytes = sym h.is ∙ e in cc in
        omega (arith, same, h.most)
    by all (KindToCome.deletes {rest = rest} b space clause) e =
        let is : bytes ≡ b ∷ rest = cc in lacks b rest is space

-- what goes on after one that a space follows
deletion_after : (f : Bool) (p b : ℕ) (xs bytes : List ℕ) → Gap p xs
    → BeginsNot (BeginsGap (last_byte p xs)) (100 ∷ (b ∷ bytes)) → StepToCome f p (xs ++ (100 ∷ (b ∷ bytes)))
    → ClauseToCome f b bytes
deletion_after f p b xs bytes of stops step =
    by (100 ∷ (b ∷ bytes)) (kind_after f p xs (100 ∷ (b ∷ bytes)) of stops step) refl
  where
    by : (all : List ℕ) → KindToCome f all → all ≡ 100 ∷ (b ∷ bytes) → ClauseToCome f b bytes
    by all KindToCome.at_end e = let never : ⊥ = cc in absurd never
    by all (KindToCome.adds word) e =
        let h = word_begins f all word in
        let same : h.first ≡ 100 = let both : h.first ∷ h.rest ≡ 100 ∷ (b ∷ bytes) = sym h.is ∙ e in cc in
        absurd (omega (arith, same, h.most))
    by all (KindToCome.deletes {rest = rest} c space clause) e =
        let is : c ≡ b = cc in
        let is' : rest ≡ bytes = cc in
        subst (λ (n : ℕ). ClauseToCome f n bytes) is (subst (ClauseToCome f c) is' clause)

-- and where neither a `d` nor the end is next
addition_after : (f : Bool) (p q x : ℕ) (xs bytes : List ℕ) → Gap p xs → BeginsNot (BeginsGap (last_byte p xs)) bytes
    → slice_get bytes 0 ≡ Some x → x ≢ 100 → StepToCome f p (xs ++ bytes) → ClauseToCome f q bytes
addition_after f p q x xs bytes of stops shown other step = by bytes (kind_after f p xs bytes of stops step) shown
  where
    by : (all : List ℕ) → KindToCome f all → slice_get all 0 ≡ Some x → ClauseToCome f q all
    by all KindToCome.at_end e = let never : ⊥ = cc in absurd never
    by all (KindToCome.adds word) e = word_clause f q all word
    by all (KindToCome.deletes {rest = rest} b space clause) e =
        let is : 100 ≡ x = cc in absurd (other (sym is))

-- ---- words that are none

pub number_after : (l : ℕ) (more rest : List ℕ) (negated : Bool) → variable l < 2147483647
    → number_text l ++ more ≡ minus negated ++ rest → (negated ≡ false → BeginsNot (λ b. b ≡ 45) rest)
    → decimal (variable l + 1) ++ more ≡ rest
number_after l more rest negated below e lacks = by (number l).negated negated (number l).is e lacks
  where
    by : (t s : Bool) → number_text l ≡ minus t ++ decimal (variable l + 1) → number_text l ++ more ≡ minus s ++ rest
        → (s ≡ false → BeginsNot (λ b. b ≡ 45) rest) → decimal (variable l + 1) ++ more ≡ rest
    by true true is e lacks =
        let both : 45 ∷ (decimal (variable l + 1) ++ more) ≡ 45 ∷ rest =
        ap (λ (xs : List ℕ). xs ++ more) (sym is) ∙ e in cc
    by true false is e lacks =
        absurd (lacks refl 45 (decimal (variable l + 1) ++ more) (sym e ∙ ap (λ (xs : List ℕ). xs ++ more) is) refl)
    by false true is e lacks =
        let h = decimal_head (variable l + 1) (omega (arith, below)) in
        let both : h.first ∷ (h.rest ++ more) ≡ 45 ∷ rest =
        ap (λ (xs : List ℕ). xs ++ more) (sym h.is ∙ sym is) ∙ e in
        let same : h.first ≡ 45 = cc in absurd (omega (arith, same, h.digit.0))
    by false false is e lacks = ap (λ (xs : List ℕ). xs ++ more) (sym is) ∙ e

zero_after : (more rest : List ℕ) (negated : Bool) → 48 ∷ more ≡ minus negated ++ rest → 48 ∷ more ≡ rest
zero_after more rest true e = let same : ◌≡◌ {A = ℕ} 48 45 = cc in absurd (omega (arith, same))
zero_after more rest false e = e

-- no digit
no_digit : (f negated : Bool) (bytes rest : List ℕ) → bytes ≡ minus negated ++ rest
    → (negated ≡ false → BeginsNot (λ b. b ≡ 45) rest) → BeginsNot IsDigit rest → WordToCome f bytes → ⊥
no_digit f negated bytes rest e no_minus lacks (WordToCome.end {bytes = more} ends) =
    lacks 48 more (sym (zero_after more rest negated e)) (omega arith, omega arith)
no_digit f negated bytes rest e no_minus lacks (WordToCome.literal {rest = more} l b below space clause) =
    let h = decimal_head (variable l + 1) (omega (arith, below)) in
    lacks h.first (h.rest ++ b ∷ more)
    (sym (number_after l (b ∷ more) rest negated below e no_minus) ∙ ap (λ (xs : List ℕ). xs ++ b ∷ more) h.is) h.digit

-- what follows a 0
ends_after : (f : Bool) (bytes rest : List ℕ) → bytes ≡ 48 ∷ rest → WordToCome f bytes → EndsToCome f rest
ends_after f bytes rest e (WordToCome.end {bytes = more} ends) =
    let is : more ≡ rest = cc in subst (EndsToCome f) is ends
ends_after f bytes rest e (WordToCome.literal {rest = more} l b below space clause) =
    let h = decimal_head (variable l + 1) (omega (arith, below)) in
    let both : h.first ∷ (h.rest ++ b ∷ more) ≡ 48 ∷ rest =
    ap (λ (xs : List ℕ). xs ++ b ∷ more) (sym h.is)
    ∙ number_after l (b ∷ more) (48 ∷ rest) false below e (λ is b' rest' e' is'. let same : 48 ≡ b' = cc in omega (arith, same, is')) in
    let same : h.first ≡ 48 = cc in absurd (h.positive (omega arith) same)

-- a 0 after a minus
no_minus_zero : (f : Bool) (bytes rest : List ℕ) → bytes ≡ 45 ∷ (48 ∷ rest) → WordToCome f bytes → ⊥
no_minus_zero f bytes rest e (WordToCome.end {bytes = more} ends) =
    let same : ◌≡◌ {A = ℕ} 48 45 = cc in omega (arith, same)
no_minus_zero f bytes rest e (WordToCome.literal {rest = more} l b below space clause) =
    let h = decimal_head (variable l + 1) (omega (arith, below)) in
    let never : true ≡ false → BeginsNot (λ b. b ≡ 45) (48 ∷ rest) = λ k. let no : ⊥ = cc in absurd no in
    let both : h.first ∷ (h.rest ++ b ∷ more) ≡ 48 ∷ rest =
    ap (λ (xs : List ℕ). xs ++ b ∷ more) (sym h.is) ∙ number_after l (b ∷ more) (48 ∷ rest) true below e never in
    let same : h.first ≡ 48 = cc in h.positive (omega arith) same

-- the first byte of what follows a 0
ends_begins : (f : Bool) (ends : List ℕ) → EndsStep f ends → (c : ℕ) × (more : List ℕ) × IsSpace c × (ends ≡ c ∷ more)
ends_begins false ends (b, space, is) = (b, [], space, is)
ends_begins true ends ([], all, is) = (10, [], inr (inr refl), is)
ends_begins true ends (b ∷ blanks, all, is) = (b, blanks ++ 10 ∷ [], blank b (All-head IsBlank b blanks all), is)
  where
    blank : (b : ℕ) → IsBlank b → IsSpace b
    blank b (inl e) = inl e
    blank b (inr e) = inr (inl e)

ends_first : (f : Bool) (bytes : List ℕ) → EndsToCome f bytes → (c : ℕ) × (more : List ℕ) × IsSpace c × (bytes ≡ c ∷ more)
ends_first f bytes (ends, rest, e, is) =
    let (c, more, space, k) = ends_begins f ends e in
    (c, more ++ rest, space, is ∙ ap (λ (xs : List ℕ). xs ++ rest) k)

-- all digits of a number that is not 0, where no more follow
record Literal (digits rest : List ℕ) : Type 0 where
  number : ℕ
  most : number ≤ 2147483647
  is : digits ≡ decimal number
  space : ℕ
  more : List ℕ
  is_space : IsSpace space
  rest_is : rest ≡ space ∷ more

all_digits : (f negated : Bool) (n : ℕ) (bytes digits rest : List ℕ) → bytes ≡ minus negated ++ (digits ++ rest)
    → (negated ≡ false → BeginsNot (λ b. b ≡ 45) (digits ++ rest)) → 0 < n → IsNumber n digits → BeginsNot IsDigit rest
    → WordToCome f bytes → Literal digits rest
all_digits f negated n bytes digits rest e no_minus some is lacks (WordToCome.end {bytes = more} ends) =
    absurd (elim (cases_lt 2147483647 n) [ inl lt ↦ is.over lt 0 (omega arith) zero | inr le ↦ omega (arith, same le, some) ])
  where
    not_digit : BeginsNot IsDigit more
    not_digit = λ b xs k digit.
        let (c, ys, space, k') = ends_first f more ends in
        let one : b ≡ c = let both : b ∷ xs ≡ c ∷ ys = sym k ∙ k' in cc in
        no_space c (omega (arith, one, digit.0)) space

    zero : digits ≡ decimal 0
    zero =
        (span IsDigit digits (48 ∷ []) rest more is.all (All-cons IsDigit 48 [] (omega arith, omega arith) (All-nil IsDigit))
        lacks not_digit (sym (zero_after more (digits ++ rest) negated e))).0
        ∙ sym (decimal_digit 0 (omega arith))

    same : n ≤ 2147483647 → n ≡ 0
    same le = decimal_injective n 0 (omega (arith, le)) (omega arith) (sym (is.within le) ∙ zero)
all_digits f negated n bytes digits rest e no_minus some is lacks (WordToCome.literal {rest = more} l b below space clause) =
    let r = span IsDigit digits (decimal (variable l + 1)) rest (b ∷ more) is.all
    (digits-decimal (variable l + 1)) lacks
    (λ c xs k digit. let one : b ≡ c = cc in omega (arith, one, digit.0, space_below b space))
    (sym (number_after l (b ∷ more) (digits ++ rest) negated below e no_minus)) in
    record {
      number = variable l + 1;
      most = omega (arith, below);
      is = r.0;
      space = b;
      more = more;
      is_space = space;
      rest_is = r.1;
    }

-- no space after them
no_space_after : (f negated : Bool) (n : ℕ) (bytes digits rest : List ℕ) → bytes ≡ minus negated ++ (digits ++ rest)
    → (negated ≡ false → BeginsNot (λ b. b ≡ 45) (digits ++ rest)) → 0 < n → IsNumber n digits → BeginsNot IsDigit rest
    → BeginsNot IsSpace rest → WordToCome f bytes → ⊥
no_space_after f negated n bytes digits rest e no_minus some is lacks lacks' word =
    let k = all_digits f negated n bytes digits rest e no_minus some is lacks word in
    lacks' k.space k.more k.rest_is k.is_space

-- a number over the limit
no_literal : (f negated : Bool) (n : ℕ) (bytes digits rest : List ℕ) → bytes ≡ minus negated ++ (digits ++ rest)
    → (negated ≡ false → BeginsNot (λ b. b ≡ 45) (digits ++ rest)) → 2147483647 < n → IsNumber n digits
    → BeginsNot IsDigit rest → WordToCome f bytes → ⊥
no_literal f negated n bytes digits rest e no_minus over is lacks word =
    let k = all_digits f negated n bytes digits rest e no_minus (omega (arith, over)) is lacks word in
    is.over over k.number k.most k.is

-- the rest of a clause, after a literal
word_after : (f : Bool) (q l : ℕ) (bytes rest : List ℕ) → bytes ≡ number_text l ++ q ∷ rest → variable l < 2147483647
    → IsSpace q → WordToCome f bytes → ClauseToCome f q rest
word_after f q l bytes rest e below space (WordToCome.end {bytes = more} ends) =
    let h = decimal_head (variable l + 1) (omega (arith, below)) in
    let both : h.first ∷ (h.rest ++ q ∷ rest) ≡ 48 ∷ more =
    ap (λ (xs : List ℕ). xs ++ q ∷ rest) (sym h.is)
    ∙ number_after l (q ∷ rest) (48 ∷ more) false below (sym e)
    (λ is b' rest' e' is'. let same : 48 ≡ b' = cc in omega (arith, same, is')) in
    let same : h.first ≡ 48 = cc in absurd (h.positive (omega arith) same)
word_after f q l bytes rest e below space (WordToCome.literal {rest = more} k b below' space' clause) =
    let r = split_at IsSpace (number_text k) (number_text l) more rest b q (number_space k below') (number_space l below)
    space' space e in
    let same : b ≡ q = let both = r.1 in cc in
    let is : more ≡ rest = let both = r.1 in cc in
    subst (λ (n : ℕ). ClauseToCome f n rest) same (subst (ClauseToCome f b) is clause)

-- ---- what follows the 0 of a step

no_space_ends : (f : Bool) (bytes : List ℕ) → BeginsNot IsSpace bytes → EndsToCome f bytes → ⊥
no_space_ends f bytes lacks ends = let (c, more, space, is) = ends_first f bytes ends in lacks c more is space

line_after : (f : Bool) (q : ℕ) (rest : List ℕ) → f ≡ true → q ≢ 10 → EndsToCome f (q ∷ rest) → LineToCome rest
line_after false q rest is other ends = let never : ⊥ = cc in absurd never
line_after true q rest is other (ends, more, ([], all, e), k) =
    let both : q ∷ rest ≡ 10 ∷ more = k ∙ ap (λ (xs : List ℕ). xs ++ more) e in
    let same : q ≡ 10 = cc in absurd (other same)
line_after true q rest is other (ends, more, (b ∷ blanks, all, e), k) =
    let both : q ∷ rest ≡ b ∷ ((blanks ++ 10 ∷ []) ++ more) = k ∙ ap (λ (xs : List ℕ). xs ++ more) e in
    let tail : rest ≡ (blanks ++ 10 ∷ []) ++ more = cc in
    (blanks, more, All-tail IsBlank b blanks all, tail ∙ append_assoc blanks (10 ∷ []) more)

no_line : (blanks rest : List ℕ) → All IsBlank blanks → BeginsNot IsBlank rest → BeginsNot (λ b. b ≡ 10) rest
    → LineToCome (blanks ++ rest) → ⊥
no_line blanks rest all lacks lacks' (blanks', more, all', is) =
    let r = span IsBlank blanks blanks' rest (10 ∷ more) all all' lacks
    (λ b xs k blank. let same : 10 ≡ b = cc in never b same blank) is in
    lacks' 10 more r.1 refl
  where
    never : (b : ℕ) → 10 ≡ b → IsBlank b → ⊥
    never b same (inl e) = omega (arith, same, e)
    never b same (inr e) = omega (arith, same, e)

-- ---- digits

is_digit : (d : ℕ) → d ≤ 9 → IsDigit (48 + d)
is_digit d le = (omega arith, omega (arith, le))

one_digit : (d : ℕ) → d ≤ 9 → All IsDigit ((48 + d) ∷ [])
one_digit d le = All-cons IsDigit (48 + d) [] (is_digit d le) (All-nil IsDigit)

push_same : (xs ys : List ℕ) (x y : ℕ) → xs ++ x ∷ [] ≡ ys ++ y ∷ [] → xs ≡ ys
push_same [] [] x y e = refl
push_same [] (z ∷ ys) x y e = let never : [] ≡ ys ++ y ∷ [] = cc in absurd (omega (arith, ap length never, length_push ys y))
push_same (z ∷ xs) [] x y e = let never : xs ++ x ∷ [] ≡ [] = cc in absurd (omega (arith, ap length never, length_push xs x))
push_same (z ∷ xs) (w ∷ ys) x y e =
    let same : z ≡ w = cc in
    let tails : xs ++ x ∷ [] ≡ ys ++ y ∷ [] = cc in
    ap (λ (v : ℕ). v ∷ xs) same ∙ ap (λ (vs : List ℕ). w ∷ vs) (push_same xs ys x y tails)

-- digits over the limit stay so with one more
still_over : (all : List ℕ) (x m : ℕ) → 0 < length all → ((k : ℕ) → k ≤ 2147483647 → all ≡ decimal k → ⊥)
    → m ≤ 2147483647 → all ++ x ∷ [] ≡ decimal m → ⊥
still_over all x m some over small e = elim (cases_lt m 10) [
  | inl lt ↦
      let k : all ++ x ∷ [] ≡ [] ++ (48 + m) ∷ [] = e ∙ decimal_digit m lt in
      let none : all ≡ [] = push_same all [] x (48 + m) k in omega (arith, ap length none, some)
  | inr ge ↦
      over (m / 10) (omega (arith, small))
      (push_same all (decimal (m / 10)) x (48 + m % 10) (e ∙ decimal_step m ge (omega (arith, small))))
]

digits_over : (first n m d : ℕ) (digits : List ℕ) → 0 < n → d ≤ 9
    → (n ≤ 2147483647 → decimal first ++ digits ≡ decimal n)
    → (2147483647 < n → (k : ℕ) → k ≤ 2147483647 → decimal first ++ digits ≡ decimal k → ⊥) → 0 < first → first ≤ 9
    → (2147483647 < n) ⊎ (m ≡ n * 10 + d) → m < 2 ^ 64 → 2147483647 < m → (k : ℕ) → k ≤ 2147483647
    → decimal first ++ (digits ++ (48 + d) ∷ []) ≡ decimal k → ⊥
digits_over first n m d digits some digit within over first_some first_digit more bound large k small e =
    elim (cases_lt 2147483647 n) [
      | inl lt ↦ still_over (decimal first ++ digits) (48 + d) k long (over lt) small e'
      | inr le ↦ elim more [
        | inl lt ↦ omega (arith, lt, le)
        | inr is ↦
            let back : 48 + d - 48 ≡ d = omega arith in
            let joined : decimal n ++ (48 + d) ∷ [] ≡ decimal (n * 10 + (48 + d - 48)) =
            digit_joins n (48 + d) some (omega arith) (omega (arith, digit)) (omega (arith, le, digit, back)) in
            let whole : decimal m ≡ decimal k =
            ap decimal (is ∙ ap (λ (x : ℕ). n * 10 + x) (sym back)) ∙ sym joined
            ∙ ap (λ (xs : List ℕ). xs ++ (48 + d) ∷ []) (sym (within le)) ∙ e' in
            let same : m ≡ k = decimal_injective m k bound (omega (arith, small)) whole in
            omega (arith, same, large, small)
      ]
    ]
  where
    e' : (decimal first ++ digits) ++ (48 + d) ∷ [] ≡ decimal k
    e' = append_assoc (decimal first) digits ((48 + d) ∷ []) ∙ e

    long : 0 < length (decimal first ++ digits)
    long = omega (arith, length-append (decimal first) digits, ap length (decimal_digit first (omega (arith, first_digit))))

pub first_number : (first : ℕ) → first ≤ 9 → IsNumber first ((48 + first) ∷ [])
first_number first le = record {
  all = one_digit first le;
  within = λ small. sym (decimal_digit first (omega (arith, le)));
  over = λ large. absurd (omega (arith, large, le));
}

pub number_more : (first n m d : ℕ) (digits : List ℕ) → IsNumber n (decimal first ++ digits) → 0 < n → d ≤ 9 → 0 < first
    → first ≤ 9 → (m ≤ 2147483647 → (n ≤ 2147483647) × (m ≡ n * 10 + d)) → (2147483647 < n) ⊎ (m ≡ n * 10 + d) → m < 2 ^ 40
    → IsNumber m (decimal first ++ (digits ++ (48 + d) ∷ []))
number_more first n m d digits is some digit first_some first_digit within over bound = record {
  all =
      subst (All IsDigit) (append_assoc (decimal first) digits ((48 + d) ∷ []))
      (All-push IsDigit (decimal first ++ digits) (48 + d) is.all (is_digit d digit));
  within = digits_more first n m d digits is.within some digit within;
  over = digits_over first n m d digits some digit is.within is.over first_some first_digit over (omega (arith, bound));
}

-- ---- calls

pub gap_unfinished : (o n : Option (List ℕ)) (p q : ℕ) (gap : List ℕ) → o ≡ before gap n → q ≡ last_byte p gap → Gap p gap
    → IfSome n (IsUnfinished q) → IfSome o (EndsUnfinished p)
gap_unfinished None n p q gap e last of h = tt
gap_unfinished (Some bytes) None p q gap e last of h = let never : ⊥ = cc in absurd never
gap_unfinished (Some bytes) (Some rest) p q gap e last of h =
    let is : bytes ≡ gap ++ rest = cc in (gap, rest, of, subst (λ (n : ℕ). IsUnfinished n rest) last h, is)

pub no_clause : (o : Option (List ℕ)) (f : Bool) (p : ℕ) → IfSome o (EndsUnfinished p) → IsSomeAnd o (ClauseToCome f p) → ⊥
no_clause None f p h clause = clause
no_clause (Some bytes) f p h clause = clause_unfinished f p bytes h clause

pub no_step : (o : Option (List ℕ)) (f : Bool) (p : ℕ) → IfSome o (EndsUnfinished p) → IsSomeAnd o (StepToCome f p) → ⊥
no_step None f p h step = step
no_step (Some bytes) f p h step = step_unfinished f p bytes h step

pub line_refused : (o n : Option (List ℕ)) (blanks : List ℕ) → o ≡ before blanks n → All IsBlank blanks
    → IfSome n (BeginsNot IsBlank) → IfSome n (BeginsNot (λ b. b ≡ 10)) → IsSomeAnd o LineToCome → ⊥
line_refused None n blanks e all lacks lacks' h = h
line_refused (Some bytes) None blanks e all lacks lacks' h = let never : ⊥ = cc in never
line_refused (Some bytes) (Some rest) blanks e all lacks lacks' h =
    let is : bytes ≡ blanks ++ rest = cc in no_line blanks rest all lacks lacks' (subst LineToCome is h)

pub ends_refused : (o : Option (List ℕ)) (f : Bool) → IfSome o (BeginsNot IsSpace) → IsSomeAnd o (EndsToCome f) → ⊥
ends_refused None f lacks h = h
ends_refused (Some bytes) f lacks h = no_space_ends f bytes lacks h

pub rest_refused : (o n : Option (List ℕ)) (f : Bool) (q : ℕ) → o ≡ before (q ∷ []) n → f ≡ true → q ≢ 10
    → (IsSomeAnd n LineToCome → ⊥) → IsSomeAnd o (EndsToCome f) → ⊥
rest_refused o n f q e is other lacks h = lacks (after (EndsToCome f) LineToCome o n (q ∷ []) e (λ rest h. line_after f q rest is other h) h)

-- of a word: no digit; no space after it; a number that is none; no end of a step after 0
pub digit_refused : (o n : Option (List ℕ)) (f negated : Bool) → o ≡ before (minus negated) n
    → (negated ≡ false → IfSome n (BeginsNot (λ b. b ≡ 45))) → IfSome n (BeginsNot IsDigit) → IsSomeAnd o (WordToCome f) → ⊥
digit_refused None n f negated e no_minus lacks h = h
digit_refused (Some bytes) None f negated e no_minus lacks h = let never : ⊥ = cc in never
digit_refused (Some bytes) (Some rest) f negated e no_minus lacks h =
    let is : bytes ≡ minus negated ++ rest = cc in no_digit f negated bytes rest is no_minus lacks h

pub zero_refused : (o a n : Option (List ℕ)) (f negated : Bool) (count : ℕ) (digits : List ℕ) → o ≡ before (minus negated) a
    → a ≡ before digits n → negated ≡ false → count ≡ 0 → IsNumber count digits → (IsSomeAnd n (EndsToCome f) → ⊥)
    → IsSomeAnd o (WordToCome f) → ⊥
zero_refused o a n f true count digits e e' plain none is lacks h = let never : ⊥ = cc in never
zero_refused o a n f false count digits e e' plain none is lacks h =
    lacks (after (WordToCome f) (EndsToCome f) a n digits e'
    (λ rest w. ends_after f (digits ++ rest) rest (ap (λ (xs : List ℕ). xs ++ rest) one) w)
    (subst (λ (k : Option (List ℕ)). IsSomeAnd k (WordToCome f)) (e ∙ before_none a) h))
  where
    one : digits ≡ 48 ∷ []
    one = is.within (omega (arith, none)) ∙ ap decimal none ∙ decimal_digit 0 (omega arith)

pub word_refused : (o a n : Option (List ℕ)) (f negated : Bool) (count : ℕ) (digits : List ℕ) → o ≡ before (minus negated) a
    → a ≡ before digits n → (negated ≡ false → IfSome a (BeginsNot (λ b. b ≡ 45))) → IsNumber count digits
    → (0 < count → IfSome n (BeginsNot IsDigit)) → (count ≡ 0 → negated ≡ true)
    → IfSome n (BeginsNot IsSpace) ⊎ ((count ≡ 0) ⊎ (2147483647 < count)) → IsSomeAnd o (WordToCome f) → ⊥
word_refused None a n f negated count digits e e' no_minus is ends minus_zero why h = h
word_refused (Some bytes) None n f negated count digits e e' no_minus is ends minus_zero why h = let never : ⊥ = cc in never
word_refused (Some bytes) (Some more) None f negated count digits e e' no_minus is ends minus_zero why h =
    let never : ⊥ = cc in never
word_refused (Some bytes) (Some more) (Some rest) f negated count digits e e' no_minus is ends minus_zero why h =
    elim (cases_lt 0 count) [
      | inr le ↦
          let none : count ≡ 0 = omega (arith, le) in
          let one : digits ≡ 48 ∷ [] = is.within (omega (arith, le)) ∙ ap decimal none ∙ decimal_digit 0 (omega arith) in
          no_minus_zero f bytes rest
          (whole ∙ ap (λ (t : Bool). minus t ++ (digits ++ rest)) (minus_zero none)
          ∙ ap (λ (xs : List ℕ). 45 ∷ (xs ++ rest)) one) h
      | inl some ↦ by some why
    ]
  where
    tail : more ≡ digits ++ rest
    tail = cc

    whole : bytes ≡ minus negated ++ (digits ++ rest)
    whole = let first : bytes ≡ minus negated ++ more = cc in first ∙ ap (λ (xs : List ℕ). minus negated ++ xs) tail

    no_minus' : negated ≡ false → BeginsNot (λ b. b ≡ 45) (digits ++ rest)
    no_minus' plain = subst (BeginsNot (λ b. b ≡ 45)) tail (no_minus plain)

    by : 0 < count → BeginsNot IsSpace rest ⊎ ((count ≡ 0) ⊎ (2147483647 < count)) → ⊥
    by some (inl space) = no_space_after f negated count bytes digits rest whole no_minus' some is (ends some) space h
    by some (inr (inl none)) = omega (arith, none, some)
    by some (inr (inr over)) = no_literal f negated count bytes digits rest whole no_minus' over is (ends some) h

-- a word after a gap
pub word_lacks : (o n : Option (List ℕ)) (f : Bool) (p q : ℕ) (gap : List ℕ) → o ≡ before gap n → q ≡ last_byte p gap → Gap p gap
    → IfSome n (BeginsNot (BeginsGap q)) → IsSomeAnd o (ClauseToCome f p) → IsSomeAnd n (WordToCome f)
word_lacks None n f p q gap e last of stops h = absurd h
word_lacks (Some bytes) None f p q gap e last of stops h = let never : ⊥ = cc in absurd never
word_lacks (Some bytes) (Some rest) f p q gap e last of stops h =
    let is : bytes ≡ gap ++ rest = cc in
    clause_after f p gap rest of (subst (λ (k : ℕ). BeginsNot (BeginsGap k) rest) last stops) (subst (ClauseToCome f p) is h)

clause_goes_on : (o n : Option (List ℕ)) (f : Bool) (q l : ℕ) (word : List ℕ) → o ≡ before word n
    → LeadsWord f q word (Some l) → IsSomeAnd o (WordToCome f) → IsSomeAnd n (ClauseToCome f q)
clause_goes_on o n f q l word e (below, space, is) =
    after (WordToCome f) (ClauseToCome f q) o n word e
    (λ rest h. word_after f q l (word ++ rest) rest
    (ap (λ (xs : List ℕ). xs ++ rest) is ∙ append_assoc (number_text l) (q ∷ []) rest) below space h)

pub goes_on_if : (a n : Option (List ℕ)) (f : Bool) (q : ℕ) (word : List ℕ) (next : Option ℕ) (o : Option (List ℕ)) (p : ℕ)
    → a ≡ before word n → LeadsWord f q word next → (IsSomeAnd o (ClauseToCome f p) → IsSomeAnd a (WordToCome f))
    → IfSome next (λ l. IsSomeAnd o (ClauseToCome f p) → IsSomeAnd n (ClauseToCome f q))
goes_on_if a n f q word None o p e is on = tt
goes_on_if a n f q word (Some l) o p e is on = λ h. clause_goes_on a n f q l word e is (on h)

-- the kind of a step
module _ (o g : Option (List ℕ)) (f : Bool) (p q : ℕ) (gap : List ℕ) (e : o ≡ before gap g) (last : q ≡ last_byte p gap)
    (of : Gap p gap) (stops : IfSome g (BeginsNot (BeginsGap q))) where
  stops' : IfSome g (BeginsNot (BeginsGap (last_byte p gap)))
  stops' = subst (λ (k : ℕ). IfSome g (BeginsNot (BeginsGap k))) last stops

  pub deletion_refused : (n : Option (List ℕ)) → g ≡ before (100 ∷ []) n → IfSome n (BeginsNot IsSpace)
      → IsSomeAnd o (StepToCome f p) → ⊥
  deletion_refused n e' lacks step = by o g n e e' stops' lacks step
    where
      by : (o g n : Option (List ℕ)) → o ≡ before gap g → g ≡ before (100 ∷ []) n
          → IfSome g (BeginsNot (BeginsGap (last_byte p gap))) → IfSome n (BeginsNot IsSpace) → IsSomeAnd o (StepToCome f p) → ⊥
      by None g n e e' stops lacks step = step
      by (Some bytes) None n e e' stops lacks step = let never : ⊥ = cc in never
      by (Some bytes) (Some more) None e e' stops lacks step = let never : ⊥ = cc in never
      by (Some bytes) (Some more) (Some rest) e e' stops lacks step =
          let tail : more ≡ 100 ∷ rest = cc in
          let all : bytes ≡ gap ++ more = cc in
          no_deletion f p gap rest of (subst (BeginsNot (BeginsGap (last_byte p gap))) tail stops) lacks
          (subst (StepToCome f p) (all ∙ ap (λ (xs : List ℕ). gap ++ xs) tail) step)

  pub deletion_goes_on : (n : Option (List ℕ)) (b : ℕ) → g ≡ before (100 ∷ (b ∷ [])) n → IsSomeAnd o (StepToCome f p)
      → IsSomeAnd n (ClauseToCome f b)
  deletion_goes_on n b e' step = by o g n e e' stops' step
    where
      by : (o g n : Option (List ℕ)) → o ≡ before gap g → g ≡ before (100 ∷ (b ∷ [])) n
          → IfSome g (BeginsNot (BeginsGap (last_byte p gap))) → IsSomeAnd o (StepToCome f p) → IsSomeAnd n (ClauseToCome f b)
      by None g n e e' stops step = absurd step
      by (Some bytes) None n e e' stops step = let never : ⊥ = cc in absurd never
      by (Some bytes) (Some more) None e e' stops step = let never : ⊥ = cc in absurd never
      by (Some bytes) (Some more) (Some rest) e e' stops step =
          let tail : more ≡ 100 ∷ (b ∷ rest) = cc in
          let all : bytes ≡ gap ++ more = cc in
          deletion_after f p b gap rest of (subst (BeginsNot (BeginsGap (last_byte p gap))) tail stops)
          (subst (StepToCome f p) (all ∙ ap (λ (xs : List ℕ). gap ++ xs) tail) step)

  pub addition_goes_on : (n : Option (List ℕ)) (r x : ℕ) → g ≡ before [] n → IfSome g (λ bytes. slice_get bytes 0 ≡ Some x)
      → x ≢ 100 → IsSomeAnd o (StepToCome f p) → IsSomeAnd n (ClauseToCome f r)
  addition_goes_on n r x e' shown other step =
      subst (λ (k : Option (List ℕ)). IsSomeAnd k (ClauseToCome f r)) (e' ∙ before_none n) (by o g e stops' shown step)
    where
      by : (o g : Option (List ℕ)) → o ≡ before gap g → IfSome g (BeginsNot (BeginsGap (last_byte p gap)))
          → IfSome g (λ bytes. slice_get bytes 0 ≡ Some x) → IsSomeAnd o (StepToCome f p) → IsSomeAnd g (ClauseToCome f r)
      by None g e stops shown step = absurd step
      by (Some bytes) None e stops shown step = let never : ⊥ = cc in absurd never
      by (Some bytes) (Some more) e stops shown step =
          let all : bytes ≡ gap ++ more = cc in
          addition_after f p r x gap more of stops shown other (subst (StepToCome f p) all step)

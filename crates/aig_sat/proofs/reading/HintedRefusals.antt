-- What is no step of a proof with hints. A text spells a step in one way: so what was taken is what a step begins with.
use Rattle.std.proofs.Common.{◌≡◌, ◌⊎◌, inl, inr, ℕ, ◌+◌, ◌<◌, ◌≤◌, ◌%◌, List, [], ◌∷◌, ◌++◌, length, All, Option, Some, None}
use Rattle.std.proofs.Common.{slice_get, refl, sym, ap, ◌∙◌, subst, arith, append_assoc, length-append}
use Rattle.std.specs.Prelude.{Bool, false, IfSome}
use Rattle.std.specs.Option.{IsSomeAnd}
use Rattle.std.specs.Fmt.{decimal}
use Rattle.std.proofs.lemmas.Bool.{cases_lt}
use Rattle.std.proofs.lemmas.Fmt.{decimal_digit, decimal_injective}
use Rattle.std.proofs.lemmas.List.{append-nil, append_cancel_right}
use Rattle.std.proofs.lemmas.List.Elements.{All-weaker}
use Rattle.aig_bytes.specs.Bytes.{before, IsAtEnd}
use Rattle.aig_bytes.proofs.Cuts.{split_at}
use Rattle.aig_bytes.proofs.Decimals.{digits-decimal}
use Rattle.aig_parts.specs.Literal.{variable}
use Rattle.aig_sat.specs.declared.proof.step.StepKind.{StepKind}
use Rattle.aig_sat.specs.declared.proof.step.StepKind.TheVariants.{Add, Delete}
use Rattle.aig_sat.specs.model.ModelText.{IsSpace, number_text}
use Rattle.aig_sat.specs.proof.HintedText.{ArePositive, HintedStep, SpellsHinted}
use Rattle.aig_sat.specs.proof.ProofText.{Gap, SpellsClause, SpellsStep, last_byte}
use Rattle.aig_sat.specs.proof.Steps.{HintedStepToCome, StepToCome}
use Rattle.aig_sat.specs.proof.state.Taking.{AdditionToCome, BeginsGap, BeginsNot, BodyToCome, ClauseToCome, EndsUnfinished}
use Rattle.aig_sat.specs.proof.state.Taking.{IsDigit, IsNumber, LeadsNumber, LeadsStep, NumbersToCome, NumberWordToCome}
use Rattle.aig_sat.specs.proof.state.Taking.{RestToCome}
use Rattle.aig_sat.proofs.models.DigitLemmas.{decimal_head}
use Rattle.aig_sat.proofs.models.PieceLemmas.{one_number}
use Rattle.aig_sat.proofs.reading.TakingLemmas.{after, last_then, mapped, none_after}
use Rattle.aig_sat.proofs.reading.TextRefusals.{Begins, Stops, begins_stops, clause_word, no_space, none_more, number_after}
use Rattle.aig_sat.proofs.reading.TextRefusals.{number_begins, number_space, peel, space_below, span, unfinished, word_begins}

pub none_to_come : (P : List ℕ → Type 0) (o : Option (List ℕ)) → (IsSomeAnd o P → ⊥) → IfSome o (λ bytes. P bytes → ⊥)
none_to_come P None never = tt
none_to_come P (Some bytes) never = never

-- ---- what separates, and what does not

gap_stops : (q : ℕ) (bytes : List ℕ) → Stops bytes → BeginsNot (BeginsGap q) bytes
gap_stops q bytes stops = λ b rest e goes. elim goes [ inl space ↦ stops b rest e (inl space) | inr both ↦ stops b rest e (inr both.1) ]

one_gap : {p : ℕ} {g h : List ℕ} (t u : List ℕ) → Gap p g → Gap p h → g ++ t ≡ h ++ u → Stops t → Stops u
    → (g ≡ h) × (t ≡ u)
one_gap {p} {g} {h} t u of_g of_h e stops stops' =
    let (more, of_more, is) = peel t u of_h of_g e stops in
    let same : u ≡ t = none_more t u of_more is (gap_stops (last_byte p h) u stops') in
    (append_cancel_right g h t (e ∙ ap (λ (xs : List ℕ). h ++ xs) same), sym same)

-- what separates has no word
all_gap : {p : ℕ} {g bytes : List ℕ} (x : ℕ) (xs t : List ℕ) → Gap p bytes → Gap p g → bytes ≡ g ++ t → t ≡ x ∷ xs → Stops t
    → ⊥
all_gap {p} {g} {bytes} x xs t of_bytes of_g e is stops =
    let (more, of_more, none) = peel t [] of_bytes of_g (sym e ∙ sym (append-nil bytes)) stops in
    omega (arith, ap length none, length-append more t, ap length is)

zero_begins : (rest : List ℕ) → Begins (48 ∷ rest)
zero_begins rest = record { first = 48; rest = rest; is = refl; least = omega arith; most = omega arith }

d_stops : (rest : List ℕ) → Stops (100 ∷ rest)
d_stops rest = λ b xs e goes.
    let same : 100 ≡ b = cc in
    elim goes [ inl space ↦ no_space b (omega (arith, same)) space | inr is ↦ omega (arith, same, is) ]

-- ---- a clause is spelled in one way

zero_no_literal : (l : ℕ) (more rest : List ℕ) → variable l < 2147483647 → number_text l ++ more ≡ 48 ∷ rest → ⊥
zero_no_literal l more rest below e =
    let h = decimal_head (variable l + 1) (omega (arith, below)) in
    let both : h.first ∷ (h.rest ++ more) ≡ 48 ∷ rest =
    ap (λ (xs : List ℕ). xs ++ more) (sym h.is)
    ∙ number_after l more (48 ∷ rest) false below e
    (λ is b' rest' e' is'. let same : 48 ≡ b' = cc in omega (arith, same, is')) in
    let same : h.first ≡ 48 = cc in h.positive (omega arith) same

-- a literal, and the rest
literal_parts : (gap word xs t : List ℕ) (b : ℕ) → (gap ++ (word ++ b ∷ xs)) ++ t ≡ gap ++ (word ++ b ∷ (xs ++ t))
literal_parts gap word xs t b =
    append_assoc gap (word ++ b ∷ xs) t ∙ ap (λ (ys : List ℕ). gap ++ ys) (append_assoc word (b ∷ xs) t)

one_clause : {p : ℕ} {xs ys c d : List ℕ} (t u : List ℕ) → SpellsClause false p xs c → SpellsClause false p ys d
    → xs ++ t ≡ ys ++ u → (c ≡ d) × (t ≡ u)
one_clause t u (SpellsClause.end {gap = g} ends of_g (b, space, is)) (SpellsClause.end {gap = h} ends' of_h (b', space', is')) e =
    let r = one_gap (48 ∷ (ends ++ t)) (48 ∷ (ends' ++ u)) of_g of_h
    (sym (append_assoc g (48 ∷ ends) t) ∙ e ∙ append_assoc h (48 ∷ ends') u)
    (begins_stops (48 ∷ (ends ++ t)) (zero_begins (ends ++ t)))
    (begins_stops (48 ∷ (ends' ++ u)) (zero_begins (ends' ++ u))) in
    let tails : ends ++ t ≡ ends' ++ u = let both = r.1 in cc in
    let both : b ∷ t ≡ b' ∷ u =
    ap (λ (xs : List ℕ). xs ++ t) (sym is) ∙ tails ∙ ap (λ (xs : List ℕ). xs ++ u) is' in
    let rest : t ≡ u = cc in (refl, rest)
one_clause t u (SpellsClause.end {gap = g} ends of_g ends_so)
    (SpellsClause.literal {gap = h} {rest = ys} {clause = d} l b of_h below space more) e =
    let r = one_gap (48 ∷ (ends ++ t)) (number_text l ++ b ∷ (ys ++ u)) of_g of_h
    (sym (append_assoc g (48 ∷ ends) t) ∙ e ∙ literal_parts h (number_text l) ys u b)
    (begins_stops (48 ∷ (ends ++ t)) (zero_begins (ends ++ t)))
    (begins_stops (number_text l ++ b ∷ (ys ++ u)) (number_begins l (b ∷ (ys ++ u)) below)) in
    absurd (zero_no_literal l (b ∷ (ys ++ u)) (ends ++ t) below (sym r.1))
one_clause t u (SpellsClause.literal {gap = g} {rest = xs} {clause = c} l b of_g below space more)
    (SpellsClause.end {gap = h} ends of_h ends_so) e =
    let r = one_gap (number_text l ++ b ∷ (xs ++ t)) (48 ∷ (ends ++ u)) of_g of_h
    (sym (literal_parts g (number_text l) xs t b) ∙ e ∙ append_assoc h (48 ∷ ends) u)
    (begins_stops (number_text l ++ b ∷ (xs ++ t)) (number_begins l (b ∷ (xs ++ t)) below))
    (begins_stops (48 ∷ (ends ++ u)) (zero_begins (ends ++ u))) in
    absurd (zero_no_literal l (b ∷ (xs ++ t)) (ends ++ u) below r.1)
one_clause t u (SpellsClause.literal {gap = g} {rest = xs} {clause = c} l b of_g below space more)
    (SpellsClause.literal {gap = h} {rest = ys} {clause = d} k b' of_h below' space' more') e =
    let r = one_gap (number_text l ++ b ∷ (xs ++ t)) (number_text k ++ b' ∷ (ys ++ u)) of_g of_h
    (sym (literal_parts g (number_text l) xs t b) ∙ e ∙ literal_parts h (number_text k) ys u b')
    (begins_stops (number_text l ++ b ∷ (xs ++ t)) (number_begins l (b ∷ (xs ++ t)) below))
    (begins_stops (number_text k ++ b' ∷ (ys ++ u)) (number_begins k (b' ∷ (ys ++ u)) below')) in
    let s = split_at IsSpace (number_text l) (number_text k) (xs ++ t) (ys ++ u) b b' (number_space l below)
    (number_space k below') space space' r.1 in
    let same : b ≡ b' = let both = s.1 in cc in
    let tails : xs ++ t ≡ ys ++ u = let both = s.1 in cc in
    let q = one_clause t u more (subst (λ (n : ℕ). SpellsClause false n ys d) (sym same) more') tails in
    let first : l ≡ k = one_number l k (omega (arith, below)) (omega (arith, below')) s.0 in
    (ap (λ (n : ℕ). n ∷ c) first ∙ ap (λ (ns : List ℕ). k ∷ ns) q.0, q.1)

-- ---- and so is a step

no_deletion : {p : ℕ} {xs h c : List ℕ} (t rest : List ℕ) → SpellsClause false p xs c → Gap p h → xs ++ t ≡ h ++ 100 ∷ rest
    → ⊥
no_deletion {p} {xs} {h} {c} t rest spelled of_h e =
    let k = clause_word false p (xs ++ t) xs t c spelled refl in
    let w = word_begins false k.rest k.word in
    let r = one_gap k.rest (100 ∷ rest) k.of_gap of_h (sym k.is ∙ e) (begins_stops k.rest w) (d_stops rest) in
    let both : w.first ∷ w.rest ≡ 100 ∷ rest = sym w.is ∙ r.1 in
    let same : w.first ≡ 100 = cc in omega (arith, same, w.most)

one_step : {p : ℕ} {xs ys c d : List ℕ} {j k : StepKind} (t u : List ℕ) → SpellsStep false p xs j c → SpellsStep false p ys k d
    → xs ++ t ≡ ys ++ u → (j ≡ k) × ((c ≡ d) × (t ≡ u))
one_step t u (SpellsStep.add spelled) (SpellsStep.add spelled') e = (refl, one_clause t u spelled spelled' e)
one_step t u (SpellsStep.add spelled) (SpellsStep.delete {gap = h} {text = ys} b of_h space spelled') e =
    absurd (no_deletion t (b ∷ (ys ++ u)) spelled of_h (e ∙ append_assoc h (100 ∷ (b ∷ ys)) u))
one_step t u (SpellsStep.delete {gap = g} {text = xs} b of_g space spelled) (SpellsStep.add spelled') e =
    absurd (no_deletion u (b ∷ (xs ++ t)) spelled' of_g (sym e ∙ append_assoc g (100 ∷ (b ∷ xs)) t))
one_step t u (SpellsStep.delete {gap = g} {text = xs} b of_g space spelled)
    (SpellsStep.delete {gap = h} {text = ys} {clause = d} b' of_h space' spelled') e =
    let r = one_gap (100 ∷ (b ∷ (xs ++ t))) (100 ∷ (b' ∷ (ys ++ u))) of_g of_h
    (sym (append_assoc g (100 ∷ (b ∷ xs)) t) ∙ e ∙ append_assoc h (100 ∷ (b' ∷ ys)) u) (d_stops (b ∷ (xs ++ t)))
    (d_stops (b' ∷ (ys ++ u))) in
    let same : b ≡ b' = let both = r.1 in cc in
    let tails : xs ++ t ≡ ys ++ u = let both = r.1 in cc in
    (refl, one_clause t u spelled (subst (λ (n : ℕ). SpellsClause false n ys d) (sym same) spelled') tails)

-- ---- the number of a step

number_word_begins : (n b : ℕ) (rest : List ℕ) → n ≤ 2147483647 → Begins (decimal n ++ b ∷ rest)
number_word_begins n b rest small =
    let h = decimal_head n (omega (arith, small)) in
    record {
      first = h.first;
      rest = h.rest ++ b ∷ rest;
      is = ap (λ (xs : List ℕ). xs ++ b ∷ rest) h.is;
      least = omega (arith, h.digit.0);
      most = h.digit.1;
    }

number_stops : (n b : ℕ) (rest : List ℕ) → n ≤ 2147483647 → Stops (decimal n ++ b ∷ rest)
number_stops n b rest small = begins_stops (decimal n ++ b ∷ rest) (number_word_begins n b rest small)

no_space_in_number : (n : ℕ) → n ≤ 2147483647 → All (λ b. IsSpace b → ⊥) (decimal n)
no_space_in_number n small =
    All-weaker IsDigit (λ b. IsSpace b → ⊥) (λ b h. no_space b (omega (arith, h.0))) (decimal n)
    (digits-decimal n)

one_step_number : {p : ℕ} {g h : List ℕ} (n m b c : ℕ) (t u : List ℕ) → Gap p g → Gap p h → n ≤ 2147483647 → m ≤ 2147483647
    → IsSpace b → IsSpace c → g ++ (decimal n ++ b ∷ t) ≡ h ++ (decimal m ++ c ∷ u) → (n ≡ m) × ((b ≡ c) × (t ≡ u))
one_step_number n m b c t u of_g of_h small small' space space' e =
    let r = one_gap (decimal n ++ b ∷ t) (decimal m ++ c ∷ u) of_g of_h e (number_stops n b t small)
    (number_stops m c u small') in
    let s = split_at IsSpace (decimal n) (decimal m) t u b c (no_space_in_number n small) (no_space_in_number m small') space
    space' r.1 in
    let same : b ≡ c = let both = s.1 in cc in
    let tails : t ≡ u = let both = s.1 in cc in
    (decimal_injective n m (omega (arith, small)) (omega (arith, small')) s.0, (same, tails))

-- no digit
pub number_digit_refused : (o : Option (List ℕ)) → IfSome o (BeginsNot IsDigit) → IsSomeAnd o NumberWordToCome → ⊥
number_digit_refused None lacks h = h
number_digit_refused (Some bytes) lacks (n, b, rest, small, space, is) =
    let h = decimal_head n (omega (arith, small)) in
    lacks h.first (h.rest ++ b ∷ rest) (is ∙ ap (λ (xs : List ℕ). xs ++ b ∷ rest) h.is) h.digit

-- no space after the digits, or a number over the limit
number_refused : (bytes rest digits more : List ℕ) (count m b : ℕ) → bytes ≡ digits ++ rest → IsNumber count digits
    → (0 < count → BeginsNot IsDigit rest) → BeginsNot IsSpace rest ⊎ (2147483647 < count) → m ≤ 2147483647 → IsSpace b
    → bytes ≡ decimal m ++ b ∷ more → ⊥
number_refused bytes rest digits more count m b e is ends why small space e' = elim (cases_lt 0 count) [
  | inl some ↦
      let r = span IsDigit digits (decimal m) rest (b ∷ more) is.all (digits-decimal m) (ends some)
      (λ c xs k digit. let one : b ≡ c = cc in omega (arith, one, digit.0, space_below b space)) (sym e ∙ e') in
      elim why [ inl lacks ↦ lacks b more r.1 space | inr over ↦ is.over over m small r.0 ]
  | inr le ↦
      let none : count ≡ 0 = omega (arith, le) in
      let one : digits ≡ 48 ∷ [] = is.within (omega (arith, le)) ∙ ap decimal none ∙ decimal_digit 0 (omega arith) in
      let whole : 48 ∷ rest ≡ decimal m ++ b ∷ more =
      sym (ap (λ (xs : List ℕ). xs ++ rest) one) ∙ sym e ∙ e' in
      elim (cases_lt 0 m) [
        | inl some ↦
            let h = decimal_head m (omega (arith, small)) in
            let both : h.first ∷ (h.rest ++ b ∷ more) ≡ 48 ∷ rest =
            ap (λ (xs : List ℕ). xs ++ b ∷ more) (sym h.is) ∙ sym whole in
            let same : h.first ≡ 48 = cc in h.positive some same
        | inr le' ↦
            let zero : m ≡ 0 = omega (arith, le') in
            let both : 48 ∷ rest ≡ 48 ∷ (b ∷ more) =
            whole ∙ ap (λ (xs : List ℕ). xs ++ b ∷ more) (ap decimal zero ∙ decimal_digit 0 (omega arith)) in
            let tail : rest ≡ b ∷ more = cc in
            elim why [ inl lacks ↦ lacks b more tail space | inr over ↦ omega (arith, over, none) ]
      ]
]

pub number_word_refused : (o n : Option (List ℕ)) (count : ℕ) (digits : List ℕ) → o ≡ before digits n → IsNumber count digits
    → (0 < count → IfSome n (BeginsNot IsDigit)) → IfSome n (BeginsNot IsSpace) ⊎ (2147483647 < count)
    → IsSomeAnd o NumberWordToCome → ⊥
number_word_refused None n count digits e is ends why h = h
number_word_refused (Some bytes) None count digits e is ends why h = let never : ⊥ = cc in never
number_word_refused (Some bytes) (Some rest) count digits e is ends why (m, b, more, small, space, e') =
    let all : bytes ≡ digits ++ rest = cc in number_refused bytes rest digits more count m b all is ends why small space e'

-- what separates before it
record FirstNumber (p : ℕ) (bytes : List ℕ) : Type 0 where
  gap : List ℕ
  rest : List ℕ
  of_gap : Gap p gap
  is : bytes ≡ gap ++ rest
  word : (rest ≡ []) ⊎ NumberWordToCome rest

first_number : (p : ℕ) (bytes : List ℕ) → HintedStepToCome p bytes → FirstNumber p bytes
first_number p bytes (inr gap) =
    record { gap = bytes; rest = []; of_gap = gap; is = sym (append-nil bytes); word = inl refl }
first_number p bytes (inl (text, rest, step, spelled, is)) = by text step spelled is
  where
    by : (text : List ℕ) (step : HintedStep) → SpellsHinted p text step → bytes ≡ text ++ rest → FirstNumber p bytes
    by text step
        (SpellsHinted.add {gap = gap} {text = xs} {more = more} n b of_gap positive small space spelled hints) is = record {
          gap = gap;
          rest = decimal n ++ b ∷ ((xs ++ more) ++ rest);
          of_gap = of_gap;
          is = is ∙ literal_parts gap (decimal n) (xs ++ more) rest b;
          word = inr (n, b, (xs ++ more) ++ rest, small, space, refl);
        }
    by text step (SpellsHinted.delete {gap = gap} {text = xs} n b of_gap small space spelled positive) is = record {
      gap = gap;
      rest = decimal n ++ b ∷ (xs ++ rest);
      of_gap = of_gap;
      is = is ∙ literal_parts gap (decimal n) xs rest b;
      word = inr (n, b, xs ++ rest, small, space, refl);
    }

word_stops : (rest : List ℕ) → (rest ≡ []) ⊎ NumberWordToCome rest → Stops rest
word_stops rest (inl none) = λ b xs e goes. let never : ⊥ = cc in never
word_stops rest (inr (n, b, more, small, space, is)) = subst Stops (sym is) (number_stops n b more small)

pub number_unfinished : (o : Option (List ℕ)) (p : ℕ) → IfSome o (EndsUnfinished p) → IsSomeAnd o (HintedStepToCome p) → ⊥
number_unfinished None p open_end h = h
number_unfinished (Some bytes) p open_end h =
    let k = first_number p bytes h in unfinished k.rest bytes open_end k.of_gap k.is (word_stops k.rest k.word)

number_after_gap : (p x : ℕ) (gap more : List ℕ) → Gap p gap → BeginsNot (BeginsGap (last_byte p gap)) more
    → slice_get more 0 ≡ Some x → HintedStepToCome p (gap ++ more) → NumberWordToCome more
number_after_gap p x gap more of stops shown h =
    let k = first_number p (gap ++ more) h in
    let (others, of_others, e) = peel k.rest more of k.of_gap (sym k.is) (word_stops k.rest k.word) in
    let same : more ≡ k.rest = none_more k.rest more of_others e stops in
    elim k.word [
      | inl none ↦
          let never : None ≡ Some x = sym (ap (λ (xs : List ℕ). slice_get xs 0) (same ∙ none)) ∙ shown in
          let no : ⊥ = cc in absurd no
      | inr word ↦ subst NumberWordToCome (sym same) word
    ]

pub number_goes_on : (o g n : Option (List ℕ)) (p q x : ℕ) (gap : List ℕ) → o ≡ before gap g → q ≡ last_byte p gap → Gap p gap
    → IfSome g (BeginsNot (BeginsGap q)) → g ≡ n → IfSome g (λ bytes. slice_get bytes 0 ≡ Some x)
    → IsSomeAnd o (HintedStepToCome p) → IsSomeAnd n NumberWordToCome
number_goes_on o g n p q x gap e last of stops same shown h =
    subst (λ (k : Option (List ℕ)). IsSomeAnd k NumberWordToCome) same (by o g e stops shown h)
  where
    by : (o g : Option (List ℕ)) → o ≡ before gap g → IfSome g (BeginsNot (BeginsGap q))
        → IfSome g (λ bytes. slice_get bytes 0 ≡ Some x) → IsSomeAnd o (HintedStepToCome p) → IsSomeAnd g NumberWordToCome
    by None g e stops shown h = absurd h
    by (Some bytes) None e stops shown h = let never : ⊥ = cc in absurd never
    by (Some bytes) (Some more) e stops shown h =
        let is : bytes ≡ gap ++ more = cc in
        number_after_gap p x gap more of (subst (λ (k : ℕ). BeginsNot (BeginsGap k) more) last stops) shown
        (subst (HintedStepToCome p) is h)

-- ---- after the number

body_after_number : (p q number : ℕ) (xs rest : List ℕ) → LeadsNumber p q xs number → HintedStepToCome p (xs ++ rest)
    → BodyToCome number q rest
body_after_number p q number xs rest (small, space, (gap, of_gap, is)) h = by h
  where
    all : xs ++ rest ≡ gap ++ (decimal number ++ q ∷ rest)
    all = ap (λ (ys : List ℕ). ys ++ rest) is ∙ literal_parts gap (decimal number) [] rest q

    of_step : (text tail : List ℕ) (step : HintedStep) → SpellsHinted p text step → xs ++ rest ≡ text ++ tail
        → BodyToCome number q rest
    of_step text tail step
        (SpellsHinted.add {gap = h} {text = t} {more = more} {clause = clause} {hints = hints} n b of_h positive small' space' spelled
        of_hints) e =
        let s = one_step_number number n q b rest ((t ++ more) ++ tail) of_gap of_h small small' space space'
        (sym all ∙ e ∙ literal_parts h (decimal n) (t ++ more) tail b) in
        subst (λ (v : ℕ). BodyToCome v q rest) (sym s.0)
        (subst (λ (v : ℕ). BodyToCome n v rest) (sym s.1.0)
        (inl (t, more, tail, clause, hints, positive, spelled, of_hints, s.1.1 ∙ append_assoc t more tail)))
    of_step text tail step (SpellsHinted.delete {gap = h} {text = t} {numbers = numbers} n b of_h small' space' spelled positive) e =
        let s = one_step_number number n q b rest (t ++ tail) of_gap of_h small small' space space'
        (sym all ∙ e ∙ literal_parts h (decimal n) t tail b) in
        subst (λ (v : ℕ). BodyToCome v q rest) (sym s.0)
        (subst (λ (v : ℕ). BodyToCome n v rest) (sym s.1.0) (inr (t, tail, numbers, spelled, positive, s.1.1)))

    by : HintedStepToCome p (xs ++ rest) → BodyToCome number q rest
    by (inr whole) =
        let w = number_word_begins number q rest small in
        absurd (all_gap w.first w.rest (decimal number ++ q ∷ rest) whole of_gap all w.is (number_stops number q rest small))
    by (inl (text, tail, next, spelled, e)) = of_step text tail next spelled e

pub body_after : (o n : Option (List ℕ)) (p q number : ℕ) (xs : List ℕ) → o ≡ before xs n → LeadsNumber p q xs number
    → IsSomeAnd o (HintedStepToCome p) → IsSomeAnd n (BodyToCome number q)
body_after o n p q number xs e leads =
    after (HintedStepToCome p) (BodyToCome number q) o n xs e (λ rest h. body_after_number p q number xs rest leads h)

body_step : (n q : ℕ) (bytes : List ℕ) → BodyToCome n q bytes → StepToCome false q bytes
body_step n q bytes (inl (text, more, rest, clause, hints, positive, spelled, of_hints, is)) =
    inl (text, more ++ rest, Add, clause, spelled, is)
body_step n q bytes (inr (text, rest, numbers, spelled, positive, is)) = inl (text, rest, Delete, numbers, spelled, is)

pub body_begins : (o : Option (List ℕ)) (n q : ℕ) → IsSomeAnd o (BodyToCome n q) → IsSomeAnd o (StepToCome false q)
body_begins o n q = mapped (BodyToCome n q) (StepToCome false q) o (body_step n q)

-- no step
step_no_gap : {q : ℕ} {bytes text clause : List ℕ} {kind : StepKind} (rest : List ℕ) → Gap q bytes
    → SpellsStep false q text kind clause → bytes ≡ text ++ rest → ⊥
step_no_gap {q} {bytes} {text} {clause} rest of_bytes (SpellsStep.add spelled) e =
    let k = clause_word false q bytes text rest clause spelled e in
    let w = word_begins false k.rest k.word in
    all_gap w.first w.rest k.rest of_bytes k.of_gap k.is w.is (begins_stops k.rest w)
step_no_gap rest of_bytes (SpellsStep.delete {gap = g} {text = text} b of_g space spelled) e =
    all_gap 100 (b ∷ (text ++ rest)) (100 ∷ (b ∷ (text ++ rest))) of_bytes of_g (e ∙ append_assoc g (100 ∷ (b ∷ text)) rest) refl
    (d_stops (b ∷ (text ++ rest)))

pub no_body : (o m : Option (List ℕ)) (n q : ℕ) (ys : List ℕ) → o ≡ before ys m → Gap q ys → IsAtEnd m
    → IsSomeAnd o (BodyToCome n q) → ⊥
no_body None m n q ys e of at_end h = h
no_body (Some bytes) None n q ys e of at_end h = let never : ⊥ = cc in never
no_body (Some bytes) (Some rest) n q ys e of at_end h =
    let all : bytes ≡ ys ++ rest = cc in
    let is : bytes ≡ ys = all ∙ ap (λ (xs : List ℕ). ys ++ xs) at_end ∙ append-nil ys in
    by h (subst (Gap q) (sym is) of)
  where
    by : BodyToCome n q bytes → Gap q bytes → ⊥
    by (inl (text, more, tail, clause, hints, positive, spelled, of_hints, e)) gap = step_no_gap (more ++ tail) gap spelled e
    by (inr (text, tail, numbers, spelled, positive, e)) gap = step_no_gap tail gap spelled e

-- what begins the step
rest_after_kind : (n p q : ℕ) (kind : StepKind) (ys bytes : List ℕ) → q ≡ last_byte p ys → LeadsStep false p q ys kind
    → BodyToCome n p (ys ++ bytes) → ClauseToCome false q bytes → RestToCome n q kind bytes
rest_after_kind n p q kind ys bytes last leads body (text, tail, clause, spelled, e) = by body
  where
    step : SpellsStep false p (ys ++ text) kind clause
    step = leads text clause spelled

    all : (ys ++ text) ++ tail ≡ ys ++ bytes
    all = append_assoc ys text tail ∙ ap (λ (xs : List ℕ). ys ++ xs) (sym e)

    by : BodyToCome n p (ys ++ bytes) → RestToCome n q kind bytes
    by (inl (text', more, rest, clause', hints, positive, spelled', of_hints, e')) =
        let r = one_step tail (more ++ rest) step spelled' (all ∙ e') in
        let same : ys ++ text ≡ text' =
        append_cancel_right (ys ++ text) text' tail (all ∙ e' ∙ ap (λ (xs : List ℕ). text' ++ xs) (sym r.1.1)) in
        let before_hints : last_byte p text' ≡ last_byte q text =
        ap (last_byte p) (sym same) ∙ sym (last_then p ys text) ∙ ap (λ (v : ℕ). last_byte v text) (sym last) in
        subst (λ (k : StepKind). RestToCome n q k bytes) (sym r.0) (
          positive,
          (
            text,
            more,
            rest,
            clause,
            hints,
            spelled,
            subst (λ (v : ℕ). SpellsClause false v more hints) before_hints of_hints,
            e ∙ ap (λ (xs : List ℕ). text ++ xs) r.1.1,
          ),
        )
    by (inr (text', rest, numbers, spelled', positive, e')) =
        let r = one_step tail rest step spelled' (all ∙ e') in
        subst (λ (k : StepKind). RestToCome n q k bytes) (sym r.0)
        (text, tail, clause, spelled, subst ArePositive (sym r.1.0) positive, e)

pub rest_after : (o m : Option (List ℕ)) (n p q : ℕ) (kind : StepKind) (ys : List ℕ) → o ≡ before ys m → q ≡ last_byte p ys
    → LeadsStep false p q ys kind → (IsSomeAnd o (StepToCome false p) → IsSomeAnd m (ClauseToCome false q))
    → IsSomeAnd o (BodyToCome n p) → IsSomeAnd m (RestToCome n q kind)
rest_after None m n p q kind ys e last leads goes_on h = absurd h
rest_after (Some bytes) None n p q kind ys e last leads goes_on h = let never : ⊥ = cc in absurd never
rest_after (Some bytes) (Some rest) n p q kind ys e last leads goes_on h =
    let all : bytes ≡ ys ++ rest = cc in
    rest_after_kind n p q kind ys rest last leads (subst (BodyToCome n p) all h) (goes_on (body_step n p bytes h))

-- ---- a clause and its hints, and the numbers of clauses

pub addition_rest : (o : Option (List ℕ)) (n q : ℕ) → IsSomeAnd o (RestToCome n q Add)
    → (0 < n) × IsSomeAnd o (AdditionToCome q)
addition_rest None n q h = absurd h
addition_rest (Some bytes) n q h = (h.0, h.1)

pub addition_begins : (o : Option (List ℕ)) (q : ℕ) → IsSomeAnd o (AdditionToCome q) → IsSomeAnd o (ClauseToCome false q)
addition_begins o q = mapped (AdditionToCome q) (ClauseToCome false q) o (by q)
  where
    by : (q : ℕ) (bytes : List ℕ) → AdditionToCome q bytes → ClauseToCome false q bytes
    by q bytes (text, more, rest, clause, hints, spelled, of_hints, is) = (text, more ++ rest, clause, spelled, is)

pub hints_after : (o n : Option (List ℕ)) (p q : ℕ) (xs clause : List ℕ) → o ≡ before xs n → q ≡ last_byte p xs
    → SpellsClause false p xs clause → IsSomeAnd o (AdditionToCome p) → IsSomeAnd n (ClauseToCome false q)
hints_after o n p q xs clause e last spelled =
    after (AdditionToCome p) (ClauseToCome false q) o n xs e (λ rest h. by rest h)
  where
    by : (rest : List ℕ) → AdditionToCome p (xs ++ rest) → ClauseToCome false q rest
    by rest (text, more, tail, clause', hints, spelled', of_hints, is) =
        let r = one_clause rest (more ++ tail) spelled spelled' is in
        let same : xs ≡ text =
        append_cancel_right xs text rest (is ∙ ap (λ (ys : List ℕ). text ++ ys) (sym r.1)) in (
          more,
          tail,
          hints,
          subst (λ (v : ℕ). SpellsClause false v more hints) (sym (last ∙ ap (last_byte p) same)) of_hints,
          r.1,
        )

pub numbers_begin : (o : Option (List ℕ)) (q : ℕ) → IsSomeAnd o (NumbersToCome q) → IsSomeAnd o (ClauseToCome false q)
numbers_begin o q = mapped (NumbersToCome q) (ClauseToCome false q) o (by q)
  where
    by : (q : ℕ) (bytes : List ℕ) → NumbersToCome q bytes → ClauseToCome false q bytes
    by q bytes (text, rest, numbers, spelled, positive, is) = (text, rest, numbers, spelled, is)

pub numbers_refused : (o n : Option (List ℕ)) (p : ℕ) (xs numbers : List ℕ) → o ≡ before xs n
    → SpellsClause false p xs numbers → (ArePositive numbers → ⊥) → IsSomeAnd o (NumbersToCome p) → ⊥
numbers_refused o n p xs numbers e spelled negative =
    none_after (NumbersToCome p) o n xs e (λ rest h. by rest h)
  where
    by : (rest : List ℕ) → NumbersToCome p (xs ++ rest) → ⊥
    by rest (text, tail, numbers', spelled', positive, is) =
        negative (subst ArePositive (sym (one_clause rest tail spelled spelled' is).0) positive)

-- What is taken of a proof, piece by piece.
use Rattle.std.proofs.Common.{◌≡◌, ◌≢◌, ◌⊎◌, inl, inr, ℕ, suc, ◌+◌, ◌-◌, ◌*◌, ◌/◌, ◌%◌, ◌<◌, ◌≤◌, List, [], ◌∷◌, ◌++◌}
use Rattle.std.proofs.Common.{length, slice_set, take, drop, get_or, All, Option, Some, None, slice_get, refl, sym, ap}
use Rattle.std.proofs.Common.{◌∙◌, subst, arith, append_assoc}
use Rattle.std.specs.Prelude.{Bool, true, false, IfSome}
use borrow.Rule.Slice.PartMut.{put_mid}
use Rattle.std.proofs.Common.{take-take}
use Rattle.std.proofs.lemmas.List.{append-nil, drop-take, length-take-le}
use Rattle.std.proofs.lemmas.List.Elements.{All-append, All-push}
use Rattle.std.proofs.Math.Seq.{take-append-add}
use Rattle.std.proofs.lemmas.Slice.{take-put_mid, take-put_mid_below}
use Rattle.aig_bytes.proofs.BlockLemmas.{put_in}
use Rattle.std.proofs.Math.Nat.{add_assoc, mul-add, mul_assoc}
use Rattle.std.proofs.Math.Seq.{drop-cons}
use Rattle.std.proofs.lemmas.Fmt.{decimal_digit}
use Rattle.std.specs.Fmt.{decimal}
use Rattle.std.specs.Option.{IsSomeAnd}
use Rattle.aig_bytes.specs.Bytes.{before, IsAtEnd}
use Rattle.aig_bytes.specs.Term.{minus}
use Rattle.aig_parts.specs.Literal.{variable}
use Rattle.aig_sat.specs.declared.proof.spelling.Spelling.{Spelling}
use Rattle.aig_sat.specs.declared.proof.spelling.Spelling.TheVariants.{Text, Binary}
use Rattle.aig_sat.specs.declared.proof.step.StepKind.{StepKind}
use Rattle.aig_sat.specs.declared.proof.step.StepKind.TheVariants.{Add, Delete}
use Rattle.aig_sat.specs.model.ModelText.{IsSpace, number_text}
use Rattle.aig_sat.specs.proof.ProofBytes.{Groups, SpellsLiterals, first_byte}
use Rattle.aig_sat.specs.proof.ProofText.{EndsStep, Gap, IsBlank, SpellsClause, SpellsStep, last_byte}
use Rattle.aig_sat.specs.proof.Steps.{AreRenamed, BeginsSo, Block, TakesText, text_to_come, bytes_to_come}
use Rattle.aig_sat.specs.proof.state.Taking.{Begins, Ends, GoesOn, LeadsAll, LeadsBy, LeadsClause, LeadsGap}
use Rattle.aig_sat.specs.proof.state.Taking.{LeadsLiterals, LeadsStep, LeadsWord, TakesBytes, held, sign}
use Rattle.aig_bytes.proofs.Decimals.{digit_joins}

pub before_none : (left : Option (List ℕ)) → before [] left ≡ left
before_none None = refl
before_none (Some xs) = refl

pub before_then : (xs ys : List ℕ) (left : Option (List ℕ)) → before xs (before ys left) ≡ before (xs ++ ys) left
before_then xs ys None = refl
before_then xs ys (Some zs) = ap Some (sym (append_assoc xs ys zs))

pub last_then : (p : ℕ) (xs ys : List ℕ) → last_byte (last_byte p xs) ys ≡ last_byte p (xs ++ ys)
last_then p [] ys = refl
last_then p (x ∷ xs) ys = last_then x xs ys

pub text_then : {a b c : Block} {l m n : Option (List ℕ)} {xs ys : List ℕ} → TakesText a b l m xs → TakesText b c m n ys
    → TakesText a c l n (xs ++ ys)
text_then {xs = xs} {ys = ys} first second = record {
  come = first.come ∙ ap (before xs) second.come ∙ before_then xs ys _;
  previous = second.previous ∙ ap (λ (p : ℕ). last_byte p ys) first.previous ∙ last_then _ xs ys;
}

pub bytes_then : (a b c : Block) (l m n : Option (List ℕ)) (xs ys : List ℕ) → TakesBytes a b l m xs → TakesBytes b c m n ys
    → TakesBytes a c l n (xs ++ ys)
bytes_then a b c l m n xs ys first second = first ∙ ap (before xs) second ∙ before_then xs ys (bytes_to_come c n)

pub text_as : {a b : Block} {l m : Option (List ℕ)} {xs ys : List ℕ} → xs ≡ ys → TakesText a b l m xs → TakesText a b l m ys
text_as {a} {b} {l} {m} e took = subst (TakesText a b l m) e took

-- one byte, which a look has shown
module _ (a b c : Block) (l m : Option (List ℕ)) (taken : b.waiting ≡ c.previous ∷ c.waiting) (same : c.ended ≡ b.ended) where
  text_one : text_to_come b m ≡ before (c.previous ∷ []) (text_to_come c m)
  text_one = one m b.ended c.ended same
    where
      one : (m : Option (List ℕ)) (e f : Bool) → f ≡ e
          → text_to_come (record b { ended = e }) m ≡ before (c.previous ∷ []) (text_to_come (record c { ended = f }) m)
      one None e f k = refl
      one (Some left) true true k = ap Some taken
      one (Some left) false false k = ap (λ (xs : List ℕ). Some (xs ++ (left ++ 10 ∷ []))) taken
      one (Some left) true false k = let never : ⊥ = cc in absurd never
      one (Some left) false true k = let never : ⊥ = cc in absurd never

  pub text_step : TakesText a b l m [] → TakesText a c l m (c.previous ∷ [])
  text_step look = record {
    come = look.come ∙ before_none (text_to_come b m) ∙ text_one;
    previous = refl;
  }

-- the end
pub text_at_end : (b : Block) (m : Option (List ℕ)) → b.waiting ≡ [] → b.ended ≡ true → IsAtEnd (text_to_come b m)
text_at_end b None none ended = tt
text_at_end b (Some left) none ended = rw (ended, none) refl

-- ---- text

-- a byte that a look has shown
pub shown : (waiting rest : List ℕ) (x p : ℕ) → slice_get waiting 0 ≡ Some x → waiting ≡ p ∷ rest → p ≡ x
shown waiting rest x p is e = let k : Some p ≡ Some x = sym (ap (λ (w : List ℕ). slice_get w 0) e) ∙ is in cc

pub nothing_shown : (waiting : List ℕ) → slice_get waiting 0 ≡ None → waiting ≡ []
nothing_shown [] is = refl
nothing_shown (x ∷ rest) is = let never : ⊥ = cc in absurd never

-- spaces, and a comment
pub gap_space : {p q : ℕ} → IsSpace q → LeadsGap p q (q ∷ [])
gap_space space rest h = Gap.space _ space h

pub gap_comment : {p q : ℕ} (line : List ℕ) → p ≡ 10 → All (λ b. b ≢ 10) line → q ≡ last_byte p (99 ∷ (line ++ 10 ∷ []))
    → LeadsGap p q (99 ∷ (line ++ 10 ∷ []))
gap_comment {p} {q} line at_line inside is rest h =
    subst (λ (n : ℕ). Gap n (99 ∷ ((line ++ 10 ∷ []) ++ rest))) (sym at_line)
    (subst (Gap 10) (ap (λ (t : List ℕ). 99 ∷ t) (sym (append_assoc line (10 ∷ []) rest)))
    (Gap.comment line inside (subst (λ (n : ℕ). Gap n rest) (is ∙ after 99 line) h)))
  where
    after : (x : ℕ) (line : List ℕ) → last_byte x (line ++ 10 ∷ []) ≡ 10
    after x [] = refl
    after x (y ∷ line) = after y line

pub gap_on : {p q r : ℕ} (xs ys : List ℕ) → LeadsGap p q xs → LeadsGap q r ys → LeadsGap p r (xs ++ ys)
gap_on {p} xs ys first second rest h = subst (Gap p) (sym (append_assoc xs ys rest)) (first (ys ++ rest) (second rest h))

pub gap_whole : {p q : ℕ} (xs : List ℕ) → LeadsGap p q xs → Gap p xs
gap_whole {p} xs leads = subst (Gap p) (append-nil xs) (leads [] Gap.nothing)

-- a gap before a clause
pub clause_on : {f : Bool} {p q : ℕ} {rest clause : List ℕ} (xs : List ℕ) → LeadsGap p q xs → SpellsClause f q rest clause
    → SpellsClause f p (xs ++ rest) clause
clause_on {f} {p} xs leads (SpellsClause.end {gap = gap} ends h e) =
    subst (λ (t : List ℕ). SpellsClause f p t []) (append_assoc xs gap (48 ∷ ends)) (SpellsClause.end ends (leads gap h) e)
clause_on {f} {p} xs leads (SpellsClause.literal {gap = gap} {rest = rest} {clause = clause} l b h below space more) =
    subst (λ (t : List ℕ). SpellsClause f p t (l ∷ clause)) (append_assoc xs gap (number_text l ++ b ∷ rest))
    (SpellsClause.literal l b (leads gap h) below space more)

-- the literal of a word is of a variable that there may be
pub word_below : (f : Bool) (r : ℕ) (word : List ℕ) (next : Option ℕ) → LeadsWord f r word next
    → IfSome next (λ l. variable l < 2147483647)
word_below f r word (Some l) (below, space, is) = below
word_below f r word None leads = tt

-- a word behind a gap
pub word_on : (f : Bool) (p q r : ℕ) (xs word : List ℕ) (next : Option ℕ) → LeadsGap p q xs → LeadsWord f r word next
    → LeadsClause f p r (xs ++ word) next
word_on f p q r xs word (Some l) leads (below, space, is) =
    λ rest clause h.
    subst (λ (t : List ℕ). SpellsClause f p t (l ∷ clause)) (whole rest)
    (SpellsClause.literal l r (gap_whole xs leads) below space h)
  where
    whole : (rest : List ℕ) → xs ++ (number_text l ++ r ∷ rest) ≡ (xs ++ word) ++ rest
    whole rest =
        ap (λ (t : List ℕ). xs ++ t)
        (sym (append_assoc (number_text l) (r ∷ []) rest) ∙ ap (λ (t : List ℕ). t ++ rest) (sym is))
        ∙ sym (append_assoc xs word rest)
word_on f p q r xs word None leads (ends, e, is) =
    subst (λ (t : List ℕ). SpellsClause f p (xs ++ t) []) (sym is) (SpellsClause.end ends (gap_whole xs leads) e)

-- what begins a step
pub step_adds : {p q : ℕ} (xs : List ℕ) → LeadsGap p q xs → (f : Bool) → LeadsStep f p q xs Add
step_adds xs leads f rest clause h = SpellsStep.add (clause_on xs leads h)

pub step_deletes : {p q b : ℕ} (xs : List ℕ) → LeadsGap p q xs → IsSpace b → (f : Bool)
    → LeadsStep f p b (xs ++ (100 ∷ (b ∷ []))) Delete
step_deletes {p} {q} {b} xs leads space f rest clause h =
    subst (λ (t : List ℕ). SpellsStep f p t Delete clause) (sym (append_assoc xs (100 ∷ (b ∷ [])) rest))
    (SpellsStep.delete b (gap_whole xs leads) space h)

none_all : All IsBlank []
none_all k d never = absurd (omega (arith, never))

one_more : (b : ℕ) (blanks : List ℕ) → IsBlank b → All IsBlank blanks → All IsBlank (b ∷ blanks)
one_more b blanks is all = All-append IsBlank (b ∷ []) blanks (All-push IsBlank [] b none_all is) all

pub ends_line : (f : Bool) (b : ℕ) (blanks : List ℕ) → f ≡ true → IsSpace b → b ≢ 10 → All IsBlank blanks
    → EndsStep f (b ∷ (blanks ++ 10 ∷ []))
ends_line false b blanks is space other all = let k : ⊥ = cc in absurd k
ends_line true b blanks is (inl e) other all = (b ∷ blanks, one_more b blanks (inl e) all, refl)
ends_line true b blanks is (inr (inl e)) other all = (b ∷ blanks, one_more b blanks (inr e) all, refl)
ends_line true b blanks is (inr (inr e)) other all = absurd (other e)

-- the digits of a literal
pub number_is : (l n : ℕ) (negated : Bool) → l + 2 ≡ 2 * n + sign negated → minus negated ++ decimal n ≡ number_text l
number_is l n true e =
    let odd : l % 2 ≡ 1 = omega (arith, e) in
    let half : variable l + 1 ≡ n = omega (arith, e) in rw (odd, half) refl
number_is l n false e =
    let even : l % 2 ≡ 0 = omega (arith, e) in
    let half : variable l + 1 ≡ n = omega (arith, e) in rw (even, half) refl

pub word_is : (f : Bool) (b l n : ℕ) (negated : Bool) (digits : List ℕ) → l + 2 ≡ 2 * n + sign negated
    → (n ≤ 2147483647 → digits ≡ decimal n) → variable l < 2147483647 → IsSpace b
    → LeadsWord f b (minus negated ++ (digits ++ b ∷ [])) (Some l)
word_is f b l n negated digits e spelled below space =
    let small : n ≤ 2147483647 = bound negated e in (
      below,
      space,
      sym (append_assoc (minus negated) digits (b ∷ []))
          ∙ ap (λ (t : List ℕ). t ++ b ∷ []) (ap (λ (t : List ℕ). minus negated ++ t) (spelled small) ∙ number_is l n negated e),
    )
  where
    bound : (s : Bool) → l + 2 ≡ 2 * n + sign s → n ≤ 2147483647
    bound true k = omega (arith, k, below)
    bound false k = omega (arith, k, below)

pub zero_is : (f : Bool) (b n : ℕ) (negated : Bool) (digits ends : List ℕ) → n ≡ 0 → negated ≡ false
    → (n ≤ 2147483647 → digits ≡ decimal n) → EndsStep f ends → LeadsWord f b (minus negated ++ (digits ++ ends)) None
zero_is f b n false digits ends e plain spelled h =
    (ends, h, ap (λ (t : List ℕ). t ++ ends) (spelled (omega (arith, e)) ∙ ap decimal e ∙ decimal_digit 0 (omega arith)))
zero_is f b n true digits ends e plain spelled h = let k : ⊥ = cc in absurd k

pub digits_more : (first n m d : ℕ) (digits : List ℕ) → (n ≤ 2147483647 → decimal first ++ digits ≡ decimal n) → 0 < n → d ≤ 9
    → (m ≤ 2147483647 → (n ≤ 2147483647) × (m ≡ n * 10 + d)) → m ≤ 2147483647
    → decimal first ++ (digits ++ (48 + d) ∷ []) ≡ decimal m
digits_more first n m d digits spelled some digit is small =
    let k = is small in
    let back : 48 + d - 48 ≡ d = omega arith in
    sym (append_assoc (decimal first) digits ((48 + d) ∷ []))
    ∙ ap (λ (t : List ℕ). t ++ (48 + d) ∷ []) (spelled k.0)
    ∙ digit_joins n (48 + d) some (omega arith) (omega (arith, digit)) (omega (arith, back, k.1, small))
    ∙ ap decimal (ap (λ (x : ℕ). n * 10 + x) back ∙ sym k.1)

-- ---- the binary form

pub groups_zero : {n : ℕ} {xs : List ℕ} → Groups n xs → n ≡ 0 → xs ≡ 0 ∷ []
groups_zero (Groups.last n below) e = ap (λ (x : ℕ). x ∷ []) e
groups_zero (Groups.more low n below some rest) e = let never : ⊥ = omega (arith, e, some) in absurd never

pub half_is : (n : ℕ) (b : Bool) → (b ≡ true → n % 2 ≡ 1) → (b ≡ false → n % 2 ≢ 1) → 2 * (n / 2) + sign b ≡ n
half_is n true one other = let k = one refl in omega (arith, k)
half_is n false one other = let k : n % 2 ≢ 1 = other refl in omega (arith, k)

pub literal_on : (l n : ℕ) (taken : List ℕ) → l + 2 ≡ n → variable l < 2147483647 → Groups n taken → LeadsLiterals taken (Some l)
literal_on l n taken e below h rest clause more =
    SpellsLiterals.literal l below (subst (λ (m : ℕ). Groups m taken) (sym e) h) more

pub group_more : (number power low : ℕ) (taken : List ℕ) → 0 < power → low < 128
    → ((n : ℕ) (rest : List ℕ) → (0 < n) ⊎ (power ≡ 1) → Groups n rest → Groups (number + power * n) (taken ++ rest))
    → (n : ℕ) (rest : List ℕ) → (0 < n) ⊎ (power * 128 ≡ 1) → Groups n rest
    → Groups (number + power * low + power * 128 * n) ((taken ++ (128 + low) ∷ []) ++ rest)
group_more number power low taken positive below on n rest (inr never) h = let k : ⊥ = omega (arith, never) in absurd k
group_more number power low taken positive below on n rest (inl some) h =
    let more : 0 < low + 128 * n = omega (arith, some) in
    let sum : number + power * (low + 128 * n) ≡ number + power * low + power * 128 * n = nonlinear power low n number in
    subst (λ (t : List ℕ). Groups (number + power * low + power * 128 * n) t) (sym (append_assoc taken ((128 + low) ∷ []) rest))
    (subst (λ (m : ℕ). Groups m (taken ++ (128 + low) ∷ rest)) sum
    (on (low + 128 * n) ((128 + low) ∷ rest) (inl more) (Groups.more low n below some h)))
  where
    nonlinear : (p l n m : ℕ) → m + p * (l + 128 * n) ≡ m + p * l + p * 128 * n
    nonlinear p l n m =
        ap (λ (x : ℕ). m + x) (mul-add p l (128 * n))
        ∙ sym (add_assoc m (p * l) (p * (128 * n))) ∙ ap (λ (x : ℕ). m + p * l + x) (sym (mul_assoc p 128 n))

pub group_last : (number power b : ℕ) (taken : List ℕ) → b < 128 → (0 < b) ⊎ (power ≡ 1)
    → ((n : ℕ) (rest : List ℕ) → (0 < n) ⊎ (power ≡ 1) → Groups n rest → Groups (number + power * n) (taken ++ rest))
    → Groups (number + power * b) (taken ++ b ∷ [])
group_last number power b taken below some on = on b (b ∷ []) some (Groups.last b below)

-- ---- the buffer

pub held_end : (buffer : List ℕ) → 0 < length buffer → held 0 1 (slice_set buffer 0 10) ≡ 10 ∷ []
held_end [] some = absurd (omega (arith, some))
held_end (x ∷ buffer) some = refl

held_is : (s e : ℕ) (xs : List ℕ) → s ≤ e → held s e xs ≡ drop s (take e xs)
held_is s e xs le =
    let k : s + (e - s) ≡ e = omega (arith, le) in sym (drop-take s (e - s) xs) ∙ ap (λ (j : ℕ). drop s (take j xs)) k

-- a read behind what is held
pub held_more : (s e n k : ℕ) (buffer got : List ℕ) → s ≤ e → e ≤ length buffer → n ≤ length got
    → held s (e + n) (put_mid e k buffer got) ≡ held s e buffer ++ take n got
held_more s e n k buffer got front fits le =
    held_is s (e + n) (put_mid e k buffer got) (omega (arith, front))
    ∙ put_in s e (e + n) buffer (put_mid e k buffer got) (take n got) front fits first
    ∙ ap (λ (xs : List ℕ). xs ++ take n got) (sym (held_is s e buffer front))
  where
    first : take (e + n) (put_mid e k buffer got) ≡ take e buffer ++ take n got
    first =
        sym (take-take (e + n) (e + length got) (put_mid e k buffer got) (omega (arith, le)))
        ∙ ap (take (e + n)) (take-put_mid e k buffer got (e + length got) refl fits)
        ∙ ap (λ (j : ℕ). take (j + n) (take e buffer ++ got)) (sym (length-take-le e buffer fits))
        ∙ take-append-add (take e buffer) got n

-- and where it failed
pub held_same : (s e k : ℕ) (buffer got : List ℕ) → s ≤ e → e ≤ length buffer → held s e (put_mid e k buffer got) ≡ held s e buffer
held_same s e k buffer got front fits =
    held_is s e (put_mid e k buffer got) front
    ∙ ap (drop s) (take-put_mid_below e k buffer got e (omega arith) fits) ∙ sym (held_is s e buffer front)

module _ (a b : Block) (l m : Option (List ℕ)) (got : List ℕ) (begun : a.ended ≡ false) (begun' : b.ended ≡ false)
    (waiting : b.waiting ≡ a.waiting ++ got) (given : l ≡ before got m) where
  pub text_read : b.previous ≡ a.previous → TakesText a b l m []
  text_read same = record {
    come =
        ap (text_to_come a) given ∙ read m a.ended b.ended begun begun' ∙ sym (before_none (text_to_come b m));
    previous = same;
  }
    where
      read : (m : Option (List ℕ)) (e f : Bool) → e ≡ false → f ≡ false
          → text_to_come (record a { ended = e }) (before got m) ≡ text_to_come (record b { ended = f }) m
      read None e f k j = refl
      read (Some left) false false k j =
          ap Some (ap (λ (xs : List ℕ). a.waiting ++ xs) (append_assoc got left (10 ∷ []))
          ∙ sym (append_assoc a.waiting got (left ++ 10 ∷ []))
          ∙ ap (λ (xs : List ℕ). xs ++ (left ++ 10 ∷ [])) (sym waiting))
      read (Some left) true f k j = let never : ⊥ = cc in absurd never
      read (Some left) false true k j = let never : ⊥ = cc in absurd never

  pub bytes_read : TakesBytes a b l m []
  bytes_read = ap (bytes_to_come a) given ∙ read m a.ended b.ended begun begun' ∙ sym (before_none (bytes_to_come b m))
    where
      read : (m : Option (List ℕ)) (e f : Bool) → e ≡ false → f ≡ false
          → bytes_to_come (record a { ended = e }) (before got m) ≡ bytes_to_come (record b { ended = f }) m
      read None e f k j = refl
      read (Some left) false false k j =
          ap Some (sym (append_assoc a.waiting got left) ∙ ap (λ (xs : List ℕ). xs ++ left) (sym waiting))
      read (Some left) true f k j = let never : ⊥ = cc in absurd never
      read (Some left) false true k j = let never : ⊥ = cc in absurd never

-- ---- steps

pub leads_more : (spelling : Spelling) (f : Bool) (a b c : Block) (l m n : Option (List ℕ)) (literals : List ℕ) (next : ℕ)
    → LeadsAll spelling f a b l m literals → LeadsBy spelling f b c m n (Some next)
    → LeadsAll spelling f a c l n (literals ++ next ∷ [])
leads_more Text f a b c l m n literals next (xs, first, took) (ys, second, took') = (
  xs ++ ys,
  (λ rest clause h.
      subst (λ (t : List ℕ). SpellsClause f a.previous t ((literals ++ next ∷ []) ++ clause)) (sym (append_assoc xs ys rest))
      (subst (λ (t : List ℕ). SpellsClause f a.previous (xs ++ (ys ++ rest)) t) (sym (append_assoc literals (next ∷ []) clause))
      (first (ys ++ rest) (next ∷ clause) (second rest clause h)))),
  text_then took took',
)
leads_more Binary f a b c l m n literals next (xs, first, took) (ys, second, took') = (
  xs ++ ys,
  (λ rest clause h.
      subst (λ (t : List ℕ). SpellsLiterals t ((literals ++ next ∷ []) ++ clause)) (sym (append_assoc xs ys rest))
      (subst (λ (t : List ℕ). SpellsLiterals (xs ++ (ys ++ rest)) t) (sym (append_assoc literals (next ∷ []) clause))
      (first (ys ++ rest) (next ∷ clause) (second rest clause h)))),
  bytes_then a b c l m n xs ys took took',
)

pub leads_end : (spelling : Spelling) (f : Bool) (a b c : Block) (l m n : Option (List ℕ)) (literals : List ℕ)
    → LeadsAll spelling f a b l m literals → LeadsBy spelling f b c m n None
    → Ends spelling f a c l n literals
leads_end Text f a b c l m n literals (xs, first, took) (ys, second, took') = (
  xs ++ ys,
  subst (SpellsClause f a.previous (xs ++ ys)) (append-nil literals) (first ys [] second),
  text_then took took',
)
leads_end Binary f a b c l m n literals (xs, first, took) (ys, second, took') = (
  xs ++ ys,
  subst (SpellsLiterals (xs ++ ys)) (append-nil literals) (first ys [] second),
  bytes_then a b c l m n xs ys took took',
)

pub step_taken : (spelling : Spelling) (f : Bool) (a b c : Block) (l m n : Option (List ℕ)) (kind : StepKind) (formula : ℕ)
    (spelled clause : List ℕ) → Begins spelling a b l m (Some kind) → Ends spelling f b c m n spelled
    → AreRenamed formula spelled clause → GoesOn spelling f formula a c l n clause (Some kind)
step_taken Text f a b c l m n kind formula spelled clause (xs, first, took) (ys, second, took') meant =
    (xs ++ ys, spelled, first f ys spelled second, meant, text_then took took')
step_taken Binary f a b c l m n kind formula spelled clause took (ys, second, took') meant = (
  first_byte kind ∷ ys,
  spelled,
  record { rest = ys; bytes_are = refl; spelled = second },
  meant,
  bytes_then a b c l m n (first_byte kind ∷ []) ys took took',
)

-- ---- the first byte

pub first_is : (a b : Block) (l m : Option (List ℕ)) (x : ℕ) (P : Option (List ℕ) → Type 0) → TakesBytes a b l m []
    → slice_get b.waiting 0 ≡ Some x → P None → P (Some []) → ((rest : List ℕ) → P (Some (x ∷ rest))) → P (bytes_to_come a l)
first_is a b l m x P look is unknown empty one =
    subst P (sym (look ∙ before_none (bytes_to_come b m))) (read m b.ended)
  where
    first : (w left : List ℕ) → slice_get w 0 ≡ Some x → P (Some (w ++ left))
    first [] left e = let never : ⊥ = cc in absurd never
    first (y ∷ w) left e = let k : x ≡ y = cc in subst (λ (n : ℕ). P (Some (n ∷ (w ++ left)))) k (one (w ++ left))

    read : (m : Option (List ℕ)) (e : Bool) → P (bytes_to_come (record b { ended = e }) m)
    read None e = unknown
    read (Some left) true = empty
    read (Some left) false = first b.waiting left is

-- a `d` begins either
pub deletion_so : (spelling : Spelling) (b : ℕ) (rest : List ℕ) → b ≡ 100 → BeginsSo spelling (Some (b ∷ rest))
deletion_so Text b rest is = λ other. let never : ⊥ = omega (arith, is, other) in absurd never
deletion_so Binary b rest is = inr is

-- ---- bytes to come, where they are known

pub after : (P Q : List ℕ → Type 0) (o n : Option (List ℕ)) (xs : List ℕ) → o ≡ before xs n
    → ((bytes : List ℕ) → P (xs ++ bytes) → Q bytes) → IsSomeAnd o P → IsSomeAnd n Q
after P Q None n xs e on h = absurd h
after P Q (Some all) None xs e on h = let never : ⊥ = cc in absurd never
after P Q (Some all) (Some bytes) xs e on h =
    let is : all ≡ xs ++ bytes = cc in on bytes (subst P is h)

pub none_after : (P : List ℕ → Type 0) (o n : Option (List ℕ)) (xs : List ℕ) → o ≡ before xs n
    → ((bytes : List ℕ) → P (xs ++ bytes) → ⊥) → IsSomeAnd o P → ⊥
none_after P None n xs e on h = h
none_after P (Some all) None xs e on h = let never : ⊥ = cc in never
none_after P (Some all) (Some bytes) xs e on h =
    let is : all ≡ xs ++ bytes = cc in on bytes (subst P is h)

pub mapped : (P Q : List ℕ → Type 0) (o : Option (List ℕ)) → ((bytes : List ℕ) → P bytes → Q bytes) → IsSomeAnd o P
    → IsSomeAnd o Q
mapped P Q None on h = h
mapped P Q (Some bytes) on h = on bytes h

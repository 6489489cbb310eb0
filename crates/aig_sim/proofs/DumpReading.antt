-- What a viewer sees of a signal after the texts of a dump.
use Rattle.std.proofs.Common.{◌≡◌, ◌≢◌, ℕ, zero, suc, ◌+◌, ◌-◌, ◌^◌, ◌<◌, ◌≤◌, min, eqb, true, false, List, []}
use Rattle.std.proofs.Common.{◌∷◌, ◌++◌, slice_get, Some, All, inl, inr, refl, ap, ◌∙◌, subst, arith, append_assoc}
use Rattle.std.specs.Prelude.{if◌then◌else◌, ◌==◌, ◌&&◌, nat_le, codes, Option}
use Rattle.std.specs.Fmt.{decimal}
use Rattle.std.specs.Str.{bytes_eq}
use Rattle.std.specs.Str.Parse.{digits_value}
use Rattle.std.proofs.lemmas.Bool.{cases_Bool, le-leb, leb-true, eqb-true, and_from, and_parts, false_from_ne_true}
use Rattle.std.proofs.lemmas.Bool.{cond-true, cond-false}
use Rattle.std.proofs.lemmas.Fmt.{decimal_is_IsNumeral}
use Rattle.std.proofs.lemmas.List.Elements.{All-cons, All-head, All-tail}
use Rattle.std.proofs.lemmas.Slice.Eq.{bytes_eq-Decides}
use Rattle.aig_sim.specs.StimulusText.{IsCharacter}
use Rattle.aig_sim.specs.Dump.{time_line, value_line, all_lines, changed_lines, first_text, next_text}
use Rattle.aig_names.specs.Names.{identifier_code}
use Rattle.aig_sim.specs.DumpRead.{lines, time_after, is_value, value_after, seen}
use Rattle.aig_names.proofs.Codes.{one_signal, visible_code}
use Rattle.aig_sim.proofs.DumpLines.{HasNoEnd, no_end_by_test, no_end_visible, first_line, IsDirective, AreDirectives}
use Rattle.aig_sim.proofs.DumpLines.{no_directive, directive_then}
use Rattle.aig_names.proofs.NamePieces.{visible_decimal}

-- a look at signal m at time t, where a time and a value were seen, sees these after the text
pub record Leads (m t now : ℕ) (value : Option ℕ) (text : List ℕ) (now' : ℕ) (value' : Option ℕ) : Type 0 where
  pub at : (more : List ℕ)
      → seen (identifier_code m) t now value (lines (text ++ more))
      ≡ seen (identifier_code m) t now' value' (lines more)

pub leads_nothing : (m t now : ℕ) (value : Option ℕ) → Leads m t now value [] now value
leads_nothing m t now value = record { at = λ more. refl }

pub leads_then : {m t now now' now'' : ℕ} {value value' value'' : Option ℕ} {a b : List ℕ}
    → Leads m t now value a now' value' → Leads m t now' value' b now'' value''
    → Leads m t now value (a ++ b) now'' value''
leads_then {m} {t} {now} {value} {a} {b} h k = record {
  at = λ more. ap (λ (x : List ℕ). seen (identifier_code m) t now value (lines x)) (append_assoc a b more)
      ∙ h.at (b ++ more) ∙ k.at more;
}

leads_line : (m t now : ℕ) (value : Option ℕ) (line : List ℕ) → HasNoEnd line
    → Leads m t now value (line ++ 10 ∷ []) (time_after now line) (value_after (identifier_code m) t now value line)
unfolding seen
leads_line m t now value line h = record {
  at = λ more. ap (λ (x : List ℕ). seen (identifier_code m) t now value (lines x)) (append_assoc line (10 ∷ []) more)
      ∙ ap (λ (ls : List (List ℕ)). seen (identifier_code m) t now value ls) (first_line line more h);
}

-- ---- lines that begin with `$`
directive_time : (now : ℕ) (line : List ℕ) → IsDirective line → time_after now line ≡ now
directive_time now [] h = refl
directive_time now (b ∷ line) h = let is : b ≡ 36 = cc in rw is refl

directive_value : (code : List ℕ) (t now : ℕ) (value : Option ℕ) (line : List ℕ) → IsDirective line
    → value_after code t now value line ≡ value
directive_value code t now value [] h = refl
directive_value code t now value (b ∷ line) h = let is : b ≡ 36 = cc in rw is refl

seen_directives : (code : List ℕ) (t now : ℕ) (value : Option ℕ) (each rest : List (List ℕ)) → All IsDirective each
    → seen code t now value (each ++ rest) ≡ seen code t now value rest
unfolding seen
seen_directives code t now value [] rest h = refl
seen_directives code t now value (line ∷ each) rest h =
    let is : IsDirective line = All-head IsDirective line each h in
    ap (λ (u : ℕ). seen code t u (value_after code t now value line) (each ++ rest)) (directive_time now line is)
    ∙ ap (λ (v : Option ℕ). seen code t now v (each ++ rest)) (directive_value code t now value line is)
    ∙ seen_directives code t now value each rest (All-tail IsDirective line each h)

pub leads_directives : (m t now : ℕ) (value : Option ℕ) (text : List ℕ) → AreDirectives text
    → Leads m t now value text now value
leads_directives m t now value text h = record {
  at = λ more. ap (λ (ls : List (List ℕ)). seen (identifier_code m) t now value ls) (h.cut more)
      ∙ seen_directives (identifier_code m) t now value h.each (lines more) h.directives;
}

-- ---- a time
number_back : (u : ℕ) → u < 2 ^ 64 → digits_value 10 (decimal u) ≡ u
number_back u small = (decimal_is_IsNumeral u small).1

pub leads_time : (m t now u : ℕ) (value : Option ℕ) → u < 2 ^ 64 → Leads m t now value (time_line u) u value
leads_time m t now u value small =
    let line : List ℕ = 35 ∷ decimal u in
    let no_end : HasNoEnd line =
    All-cons (λ b. b ≢ 10) 35 (decimal u) (λ e. omega arith) (no_end_visible (decimal u) (visible_decimal u)) in
    let least : u ≡ min u (2 ^ 64 - 1) = omega arith in
    let h : Leads m t now value (time_line u) (digits_value 10 (decimal u)) value =
    subst (λ (x : ℕ). Leads m t now value (35 ∷ (decimal x ++ 10 ∷ [])) (digits_value 10 (decimal u)) value) least
    (leads_line m t now value line no_end) in
    subst (λ (x : ℕ). Leads m t now value (time_line u) x value) (number_back u small) h

-- ---- a value
value_tested : (c : ℕ) → IsCharacter c → (is_value c ≡ true) × (eqb c 35 ≡ false) × (c ≢ 10)
value_tested c (inl e) = rw e (refl, refl, λ h. omega arith)
value_tested c (inr (inl e)) = rw e (refl, refl, λ h. omega arith)
value_tested c (inr (inr e)) = rw e (refl, refl, λ h. omega arith)

time_stays : (now c : ℕ) (rest : List ℕ) → IsCharacter c → time_after now (c ∷ rest) ≡ now
time_stays now c rest h = let other : eqb c 35 ≡ false = (value_tested c h).1 in rw other refl

no_end_of_value : (n c : ℕ) → IsCharacter c → HasNoEnd (c ∷ identifier_code n)
no_end_of_value n c h =
    let code : List ℕ = identifier_code n in
    All-cons (λ b. b ≢ 10) c code (value_tested c h).2 (no_end_visible code (visible_code n))

leads_value : (m t now n c : ℕ) (value value' : Option ℕ) → IsCharacter c
    → value_after (identifier_code m) t now value (c ∷ identifier_code n) ≡ value'
    → Leads m t now value (value_line n c) now value'
leads_value m t now n c value value' h e =
    let line : List ℕ = c ∷ identifier_code n in
    let found : Option ℕ = value_after (identifier_code m) t now value line in
    subst (λ (x : Option ℕ). Leads m t now value (value_line n c) now x) e
    (subst (λ (x : ℕ). Leads m t now value (value_line n c) x found) (time_stays now c (identifier_code n) h)
    (leads_line m t now value line (no_end_of_value n c h)))

-- of the signal that is looked at, no later than then
leads_own : (m t now c : ℕ) (value : Option ℕ) → IsCharacter c → now ≤ t
    → Leads m t now value (value_line m c) now (Some c)
leads_own m t now c value h le =
    let code : List ℕ = identifier_code m in
    let same : bytes_eq code code ≡ true = (bytes_eq-Decides code code).1 refl in
    leads_value m t now m c value (Some c) h
    (cond-true (is_value c && (bytes_eq code code && nat_le now t)) (Some c) value
    (and_from (is_value c) (bytes_eq code code && nat_le now t) (value_tested c h).0
    (and_from (bytes_eq code code) (nat_le now t) same (le-leb now t le))))

-- of another one, or later
leads_unseen : (m t now n c : ℕ) (value : Option ℕ) → IsCharacter c → (now ≤ t → n ≢ m)
    → Leads m t now value (value_line n c) now value
leads_unseen m t now n c value h unseen =
    let code : List ℕ = identifier_code m in
    let other : List ℕ = identifier_code n in
    let not : (is_value c && (bytes_eq other code && nat_le now t)) ≡ true → ⊥ = λ e.
    let parts = and_parts (is_value c) (bytes_eq other code && nat_le now t) e in
    let more = and_parts (bytes_eq other code) (nat_le now t) parts.1 in
    unseen (leb-true now t more.1) (one_signal n m ((bytes_eq-Decides other code).0 more.0)) in
    leads_value m t now n c value value h
    (cond-false (is_value c && (bytes_eq other code && nat_le now t)) (Some c) value
    (false_from_ne_true (is_value c && (bytes_eq other code && nat_le now t)) not))

-- ---- values of all signals
all_unseen : (m t now j : ℕ) (value : Option ℕ) (cs : List ℕ) → All IsCharacter cs → (now ≤ t → m < j)
    → Leads m t now value (all_lines j cs) now value
unfolding all_lines
all_unseen m t now j value [] h unseen = leads_nothing m t now value
all_unseen m t now j value (c ∷ cs) h unseen =
    leads_then
    (leads_unseen m t now j c value (All-head IsCharacter c cs h) (λ le e. let lt = unseen le in omega (arith, lt, e)))
    (all_unseen m t now (suc j) value cs (All-tail IsCharacter c cs h) (λ le. let lt = unseen le in omega (arith, lt)))

all_seen : (m t now j p c : ℕ) (value : Option ℕ) (cs : List ℕ) → All IsCharacter cs → now ≤ t → m ≡ j + p
    → slice_get cs p ≡ Some c → Leads m t now value (all_lines j cs) now (Some c)
unfolding all_lines
all_seen m t now j p c value [] h le at e = cc
all_seen m t now j zero c value (x ∷ cs) h le at e =
    let same : x ≡ c = cc in
    let own : m ≡ j = omega arith in
    leads_then
    (subst (λ (n : ℕ). Leads m t now value (value_line n x) now (Some c)) own
    (subst (λ (y : ℕ). Leads m t now value (value_line m x) now (Some y)) same
    (leads_own m t now x value (All-head IsCharacter x cs h) le)))
    (all_unseen m t now (suc j) (Some c) cs (All-tail IsCharacter x cs h) (λ k. omega arith))
all_seen m t now j (suc p) c value (x ∷ cs) h le at e =
    leads_then
    (leads_unseen m t now j x value (All-head IsCharacter x cs h) (λ k same. omega arith))
    (all_seen m t now (suc j) p c value cs (All-tail IsCharacter x cs h) le (omega arith) e)

-- ---- values that differ
change_unseen : (m t now n x c : ℕ) (value : Option ℕ) → IsCharacter c → (now ≤ t → n ≢ m)
    → Leads m t now value (if x == c then [] else value_line n c) now value
change_unseen m t now n x c value h unseen =
    elim (x == c) as (λ b. Leads m t now value (if b then [] else value_line n c) now value) [
      | true ↦ leads_nothing m t now value
      | false ↦ leads_unseen m t now n c value h unseen
    ]

change_own : (m t now x c : ℕ) → IsCharacter c → now ≤ t
    → Leads m t now (Some x) (if x == c then [] else value_line m c) now (Some c)
change_own m t now x c h le =
    elim (cases_Bool (x == c)) [
      | inl is ↦
          let same : x ≡ c = eqb-true x c is in
          rw is (subst (λ (y : ℕ). Leads m t now (Some x) [] now (Some y)) same (leads_nothing m t now (Some x)))
      | inr not ↦ rw not (leads_own m t now c (Some x) h le)
    ]

changed_unseen : (m t now j : ℕ) (value : Option ℕ) (bs cs : List ℕ) → All IsCharacter cs → (now ≤ t → m < j)
    → Leads m t now value (changed_lines j bs cs) now value
unfolding changed_lines
changed_unseen m t now j value [] cs h unseen = leads_nothing m t now value
changed_unseen m t now j value (b ∷ bs) [] h unseen = leads_nothing m t now value
changed_unseen m t now j value (b ∷ bs) (c ∷ cs) h unseen =
    leads_then
    (change_unseen m t now j b c value (All-head IsCharacter c cs h)
    (λ le e. let lt = unseen le in omega (arith, lt, e)))
    (changed_unseen m t now (suc j) value bs cs (All-tail IsCharacter c cs h)
    (λ le. let lt = unseen le in omega (arith, lt)))

changed_seen : (m t now j p b c : ℕ) (bs cs : List ℕ) → All IsCharacter cs → now ≤ t → m ≡ j + p
    → slice_get bs p ≡ Some b → slice_get cs p ≡ Some c → Leads m t now (Some b) (changed_lines j bs cs) now (Some c)
unfolding changed_lines
changed_seen m t now j p b c [] cs h le at d e = cc
changed_seen m t now j p b c (x ∷ bs) [] h le at d e = cc
changed_seen m t now j zero b c (x ∷ bs) (y ∷ cs) h le at d e =
    let before : x ≡ b = cc in
    let same : y ≡ c = cc in
    let own : m ≡ j = omega arith in
    leads_then
    (subst (λ (n : ℕ). Leads m t now (Some b) (if x == y then [] else value_line n y) now (Some c)) own
    (subst (λ (z : ℕ). Leads m t now (Some z) (if x == y then [] else value_line m y) now (Some c)) before
    (subst (λ (z : ℕ). Leads m t now (Some x) (if x == y then [] else value_line m y) now (Some z)) same
    (change_own m t now x y (All-head IsCharacter y cs h) le))))
    (changed_unseen m t now (suc j) (Some c) bs cs (All-tail IsCharacter y cs h) (λ k. omega arith))
changed_seen m t now j (suc p) b c (x ∷ bs) (y ∷ cs) h le at d e =
    leads_then
    (change_unseen m t now j x y (Some b) (All-head IsCharacter y cs h) (λ k same. omega arith))
    (changed_seen m t now (suc j) p b c bs cs (All-tail IsCharacter y cs h) le (omega arith) d e)

-- ---- frames
leads_dollar : (m t now : ℕ) (value : Option ℕ) (line : List ℕ) → IsDirective line → HasNoEnd line
    → Leads m t now value (line ++ 10 ∷ []) now value
leads_dollar m t now value line is no_end =
    leads_directives m t now value (line ++ 10 ∷ []) (directive_then line [] is no_end no_directive)

pub leads_first : (m t now c : ℕ) (value : Option ℕ) (cs : List ℕ) → All IsCharacter cs → slice_get cs m ≡ Some c
    → Leads m t now value (first_text cs) 0 (Some c)
leads_first m t now c value cs h e =
    leads_then (leads_time m t now 0 value (omega arith))
    (leads_then (leads_dollar m t 0 value (codes "$dumpvars") refl (no_end_by_test (codes "$dumpvars") refl))
    (leads_then (all_seen m t 0 0 m c value cs h (omega arith) (omega arith) e)
    (leads_dollar m t 0 (Some c) (codes "$end") refl (no_end_by_test (codes "$end") refl))))

pub leads_next : (m t now u b c : ℕ) (bs cs : List ℕ) → u < 2 ^ 64 → u ≤ t → All IsCharacter cs
    → slice_get bs m ≡ Some b → slice_get cs m ≡ Some c → Leads m t now (Some b) (next_text u bs cs) u (Some c)
leads_next m t now u b c bs cs small le h d e =
    leads_then (leads_time m t now u (Some b) small) (changed_seen m t u 0 m b c bs cs h le (omega arith) d e)

pub leads_later : (m t now u : ℕ) (value : Option ℕ) (bs cs : List ℕ) → u < 2 ^ 64 → t < u → All IsCharacter cs
    → Leads m t now value (next_text u bs cs) u value
leads_later m t now u value bs cs small lt h =
    leads_then (leads_time m t now u value small) (changed_unseen m t u 0 value bs cs h (λ le. omega arith))

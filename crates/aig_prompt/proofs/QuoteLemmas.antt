-- Texts with a quote.
use Rattle.std.proofs.Common.{◌≡◌, ◌≢◌, ◌⊎◌, inl, inr, ℕ, zero, suc, ◌+◌, ◌-◌, ◌^◌, ◌<◌, ◌≤◌, List, [], ◌∷◌, ◌++◌}
use Rattle.std.proofs.Common.{length, get_or, take, drop, map, All, Some, Result, Ok, Err, refl, sym, ap, subst, ◌∙◌}
use Rattle.std.proofs.Common.{arith}
use Rattle.std.specs.Prelude.{reverse, slice_get, IfErr, None, decimal, true, false}
use Rattle.std.specs.Char.{digit_value}
use Rattle.std.specs.Str.Parse.{AllDigits}
use Rattle.std.proofs.lemmas.Bool.{true≢false, cases_lt}
use Rattle.std.proofs.lemmas.Fmt.{decimal_is_IsNumeral}
use Rattle.std.proofs.lemmas.Option.{slice_get_within, get_or_from_slice_get}
use Rattle.std.proofs.Math.ListN.{get_or-append}
use Rattle.std.proofs.Math.Seq.{get_or-append_seam, take-append_seam, drop-append-add}
use Rattle.aig_parts.specs.declared.ternary.Tern.{Tern}
use Rattle.aig_prompt.specs.declared.value.ValueFault.{ValueFault}
use Rattle.aig_prompt.specs.declared.value.ValueFault.TheVariants as faults
use Rattle.aig_prompt.specs.Value.{digit_of, letter_value, is_unknown, IsUnknown, Reads, ReadsSized, RefusesBits}
use Rattle.aig_prompt.specs.Value.{RefusesValue, reads_unknown, reads_letters, reads_digits, reads_sized}
use Rattle.aig_prompt.proofs.ValueLemmas.{not_digit, not_letters}

small_digit : digit_value 39 < 10 → ⊥
small_digit lt = absurd (omega (arith, lt))

digits_no_quote : (ds : List ℕ) → AllDigits 10 ds → (k : ℕ) → k < length ds → get_or ds k 0 ≢ 39
digits_no_quote [] h k lt e = absurd (omega (arith, lt))
digits_no_quote (c ∷ cs) h zero lt e = small_digit (subst (λ b. digit_value b < 10) e h.0)
digits_no_quote (c ∷ cs) h (suc k) lt e = digits_no_quote cs h.1 k (omega (arith, lt)) e

-- the first quote is the one after a number
quote_place : (text size rest : List ℕ) (at : ℕ) → text ≡ size ++ 39 ∷ rest
    → ((k : ℕ) → k < length size → get_or size k 0 ≢ 39) → get_or text at 0 ≡ 39
    → ((k : ℕ) → k < at → get_or text k 0 ≢ 39) → length size ≡ at
quote_place text size rest at is none here first = elim (cases_lt at (length size)) [
  | inl lt ↦ absurd (none at lt (sym (get_or-append size (39 ∷ rest) 0 at lt) ∙ sym (ap (λ xs. get_or xs at 0) is) ∙ here))
  | inr le ↦ elim (cases_lt (length size) at) [
    | inl lt ↦ absurd (first (length size) lt (ap (λ xs. get_or xs (length size) 0) is ∙ get_or-append_seam size 39 rest 0))
    | inr ge ↦ omega (arith, le, ge)
  ]
]

unknown_no_quote : (text : List ℕ) (at : ℕ) → at < length text → get_or text at 0 ≡ 39 → IsUnknown text → ⊥
unknown_no_quote text at lt here u =
    let one : at ≡ 0 = omega (arith, lt, ap length u.1) in
    let b_is : u.0 ≡ 39 = sym (ap (λ xs. get_or xs 0 0) u.1) ∙ ap (λ k. get_or text k 0) (sym one) ∙ here in
    true≢false (sym u.2 ∙ ap is_unknown b_is)

pub quote_refused : {V : Type 0} (text size rest : List ℕ) (width at : ℕ) (r : Result V ValueFault) → width < 2 ^ 64
    → slice_get text at ≡ Some 39 → ((k : ℕ) → k < at → get_or text k 0 ≢ 39) → size ≡ take at text → rest ≡ drop (at + 1) text
    → IfErr r (RefusesBits (ReadsSized size rest) width) → IfErr r (RefusesValue text width)
quote_refused text size rest width at (Ok v) few is first size_is rest_is h = h
quote_refused text size rest width at (Err e) few is first size_is rest_is h = λ other bits len. go other bits len
  where
    here : get_or text at 0 ≡ 39
    here = get_or_from_slice_get text at 39 0 is

    within : at < length text
    within = slice_get_within text at 39 is

    go : e ≢ faults.Memory → (bits : List Tern) → length bits ≡ width → Reads text bits → ⊥
    go other bits len (reads_unknown u w) = unknown_no_quote text at within here u
    go other bits len (reads_letters u w) = not_letters text (reverse bits) at within (ap letter_value (sym here)) w
    go other bits len (reads_digits u) = not_digit 16 text at within (ap digit_of (sym here)) u.0.1
    go other bits len (reads_sized size' rest' t u) =
        let small : length bits < 2 ^ 64 = subst (λ n. n < 2 ^ 64) (sym len) few in
        let plain : (k : ℕ) → k < length size' → get_or size' k 0 ≢ 39 =
        subst (λ xs. (k : ℕ) → k < length xs → get_or xs k 0 ≢ 39) (sym u.0)
        (digits_no_quote (decimal (length bits)) (decimal_is_IsNumeral (length bits) small).0.1) in
        let place : length size' ≡ at = quote_place text size' rest' at t plain here first in
        let same_size : size' ≡ size =
        sym (take-append_seam size' (39 ∷ rest')) ∙ (λ j. take (place j) (sym t j)) ∙ sym size_is in
        let same_rest : rest' ≡ rest =
        sym (drop-append-add size' (39 ∷ rest') 1) ∙ (λ j. drop (place j + 1) (sym t j)) ∙ sym rest_is in
        h other bits len (subst (λ xs. ReadsSized xs rest bits) same_size (subst (λ xs. ReadsSized size' xs bits) same_rest u))

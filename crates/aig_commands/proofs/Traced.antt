-- What a check with a trace printed, and what that says: of all texts only `confirmed` has an `f`.
use Rattle.std.proofs.Common.{◌≡◌, ◌≢◌, ℕ, zero, suc, List, [], ◌∷◌, ◌++◌, length, map, refl, sym, subst, arith}
use Rattle.std.proofs.Common.{Result, Ok, Err, Some, Bool, false, ◌==◌, inl, inr}
use Rattle.std.specs.Prelude.{Option, None, Contains, codes, decimal, ◌||◌}
use Rattle.std.proofs.lemmas.Bool.{eqb-false, or_parts}
use Rattle.std.proofs.lemmas.List.{append-nil, append_cancel_left}
use Rattle.std.proofs.lemmas.List.Elements.{All-contains, Contains-append_cases, Contains-append_left, Contains-append_right}
use Rattle.aig_bytes.specs.Bytes.{after, IsBeginning}
use Rattle.aig_bytes.specs.Flow.{flow}
use Rattle.aig_bytes.proofs.Decimals.{decimal_lacks}
use Rattle.aig_bytes.proofs.WriteLemmas.{after-nil}
use Rattle.aig_parts.specs.declared.raw.Raw.{Raw}
use Rattle.aig_parts.specs.declared.ternary.Tern.{Tern}
use Rattle.aig_parts.specs.declared.ternary.Tern.TheVariants.{Zero, One, X}
use Rattle.aig_values.specs.Characters.{character}
use Rattle.aig_values.specs.PropertyTrace.{IsPropertyLine}
use Rattle.aig_values.specs.Trace.{AreLinesBy, AreValues, IsTraceLine}
use Rattle.aig_sim.specs.Verdict.{ShowsVerdict}
use Rattle.aig_sim.specs.declared.witness.verdict.Verdict.{Verdict}
use Rattle.aig_sim.specs.declared.witness.verdict.Verdict.TheVariants.{Initial, Constraint, NotBad, Confirmed}
use Rattle.aig_command.specs.Command.{CommandEnds}
use Rattle.aig_command.specs.declared.run_fault.RunFault.{RunFault}
use Rattle.aig_command.specs.declared.run_fault.RunFault.TheVariants as run_faults
use Rattle.aig_commands.specs.Check.{ChecksAndTraces, HoldsConfirmed, IsShown, PrintsWithin, verdict_text}
use Rattle.aig_commands.specs.declared.check.Shown.{Shown}
use Rattle.aig_commands.specs.declared.check.Shown.TheVariants.{Properties, Trace}
use Rattle.aig_commands.proofs.Printed.{holds_confirmed}

-- ---- texts without an `f`
abbrev Lacks : List ℕ → Type 0
Lacks text = Contains text 102 → ⊥

lacks_none : Lacks []
lacks_none (k, lt, is) = absurd (omega (arith, lt))

lacks_more : (b : ℕ) (text : List ℕ) → b ≢ 102 → Lacks text → Lacks (b ∷ text)
lacks_more b text other h (zero, lt, is) = other is
lacks_more b text other h (suc k, lt, is) = h (k, omega (arith, lt), is)

lacks_both : (xs ys : List ℕ) → Lacks xs → Lacks ys → Lacks (xs ++ ys)
lacks_both xs ys h k there = elim (Contains-append_cases xs ys 102 there) [ inl before ↦ h before | inr behind ↦ k behind ]

lacks_same : (xs ys : List ℕ) → xs ≡ ys → Lacks ys → Lacks xs
lacks_same xs ys is h = subst Lacks (sym is) h

-- a text that is known is looked through
abbrev has : List ℕ → Bool
has [] = false
has (b ∷ text) = b == 102 || has text

lacks_by : (text : List ℕ) → has text ≡ false → Lacks text
lacks_by [] e = lacks_none
lacks_by (b ∷ text) e =
    let parts = or_parts (b == 102) (has text) e in lacks_more b text (eqb-false b 102 parts.0) (lacks_by text parts.1)

decimal_lacks_it : (n : ℕ) → Lacks (decimal n)
decimal_lacks_it n there =
    All-contains (λ b. b ≢ 102) (decimal n) 102 (decimal_lacks 102 (λ digit. omega (arith, digit.1)) n) there refl

-- ---- a trace has none
character_lacks : (w : Tern) (b : ℕ) → b ≡ character w → b ≢ 102
character_lacks Zero b is e = absurd (omega (arith, is, e))
character_lacks One b is e = absurd (omega (arith, is, e))
character_lacks X b is e = absurd (omega (arith, is, e))

module _ (raw : Raw) (start : List Tern) (rows : List (List Tern)) where
  values_lack : (t : ℕ) (literals text : List ℕ) → AreValues raw start rows t literals text → Lacks text
  values_lack t [] [] h = lacks_none
  values_lack t [] (b ∷ text) h = absurd h
  values_lack t (l ∷ literals) [] h = absurd h
  values_lack t (l ∷ literals) (b ∷ text) ((w, value, is), h) =
      lacks_more b text (character_lacks w b is) (values_lack t literals text h)

  -- a field, and what follows it
  field_lacks : (field : List ℕ) (b : ℕ) (text : List ℕ) → Lacks field → b ≢ 102 → Lacks text → Lacks (field ++ b ∷ text)
  field_lacks field b text h other k = lacks_both field (b ∷ text) h (lacks_more b text other k)

  line_lacks : (t : ℕ) (line : List ℕ) → IsTraceLine raw start rows t line → Lacks line
  line_lacks t line h =
      let space : 32 ≢ 102 = λ e. omega (arith, e) in
      let end : 10 ≢ 102 = λ e. omega (arith, e) in
      lacks_same line _ h.line_is
      (field_lacks h.state 32 _ (values_lack t (map (λ x. x.lit) raw.latches) h.state h.state_is) space
      (field_lacks h.inputs 32 _ (values_lack t raw.inputs h.inputs h.inputs_are) space
      (field_lacks h.outputs 32 _ (values_lack t raw.outputs h.outputs h.outputs_are) space
      (field_lacks h.next 10 [] (values_lack t (map (λ x. x.next) raw.latches) h.next h.next_is) end lacks_none))))

  property_line_lacks : (t : ℕ) (line : List ℕ) → IsPropertyLine raw start rows t line → Lacks line
  property_line_lacks t line h =
      let space : 32 ≢ 102 = λ e. omega (arith, e) in
      let end : 10 ≢ 102 = λ e. omega (arith, e) in
      let fields : Lacks h.fields =
      λ there. line_lacks t (h.fields ++ 10 ∷ []) h.fields_are (Contains-append_left h.fields (10 ∷ []) 102 there) in
      lacks_same line _ h.line_is
      (field_lacks h.fields 32 _ fields space
      (field_lacks h.bad 32 _ (values_lack t raw.bad h.bad h.bad_are) space
      (field_lacks h.constraints 10 [] (values_lack t raw.constraints h.constraints h.constraints_are) end lacks_none)))

lines_lack : (IsLine : ℕ → List ℕ → Type 0) → ((t : ℕ) (line : List ℕ) → IsLine t line → Lacks line) → (n : ℕ) (text : List ℕ)
    → AreLinesBy IsLine n text → Lacks text
lines_lack IsLine each zero text is = lacks_same text [] is lacks_none
lines_lack IsLine each (suc t) text (before, line, h, here, is) =
    lacks_same text (before ++ line) is (lacks_both before line (lines_lack IsLine each t before h) (each t line here))

trace_lacks : (shown : Shown) (raw : Raw) (start : List Tern) (rows : List (List Tern)) (text : List ℕ)
    → IsShown shown raw start rows text → Lacks text
trace_lacks Trace raw start rows text h =
    lines_lack (λ t line. IsTraceLine raw start rows t line) (line_lacks raw start rows) (length rows) text h
trace_lacks Properties raw start rows text h =
    lines_lack (λ t line. IsPropertyLine raw start rows t line) (property_line_lacks raw start rows) (length rows) text h

-- ---- of all verdicts only one has
verdict_lacks : (v : Verdict) → Contains (verdict_text v) 102 → v ≡ Confirmed
verdict_lacks (Initial latch) there =
    absurd (lacks_both (codes "initial ") (decimal latch ++ codes "\n") (lacks_by (codes "initial ") refl)
    (lacks_both (decimal latch) (codes "\n") (decimal_lacks_it latch) (lacks_by (codes "\n") refl)) there)
verdict_lacks (Constraint frame constraint) there =
    absurd (lacks_both (codes "constraint ") _ (lacks_by (codes "constraint ") refl)
    (lacks_both (decimal frame) _ (decimal_lacks_it frame)
    (lacks_both (codes " ") _ (lacks_by (codes " ") refl)
    (lacks_both (decimal constraint) (codes "\n") (decimal_lacks_it constraint) (lacks_by (codes "\n") refl)))) there)
verdict_lacks NotBad there = absurd (lacks_by (codes "not bad\n") refl there)
verdict_lacks Confirmed there = refl

-- ---- what was printed
-- a beginning of what is written has the text
within : (old new : Option (List ℕ)) (done bytes front : List ℕ) (b : ℕ) (text : List ℕ) → IsBeginning done bytes → new ≡ after old done
    → PrintsWithin old new (front ++ b ∷ text) → Contains bytes b
within None new done bytes front b text part got printed = absurd printed
within (Some olds) new done bytes front b text (rest, is) got printed =
    let (ahead, more, same) = subst (λ (w : Option (List ℕ)). PrintsWithin (Some olds) w (front ++ b ∷ text)) got printed in
    let done_is : done ≡ ahead ++ ((front ++ b ∷ text) ++ more) =
    append_cancel_left olds done (ahead ++ ((front ++ b ∷ text) ++ more)) same in
    let here : Contains ((front ++ b ∷ text) ++ more) b =
    Contains-append_left (front ++ b ∷ text) more b (Contains-append_right front (b ∷ text) b (zero, omega arith, refl)) in
    subst (λ bs. Contains bs b) (sym is) (Contains-append_left done rest b
    (subst (λ bs. Contains bs b) (sym done_is) (Contains-append_right ahead ((front ++ b ∷ text) ++ more) b here)))

-- nothing has it
pub none_within : (w : Option (List ℕ)) (front : List ℕ) (b : ℕ) (text : List ℕ) → PrintsWithin w w (front ++ b ∷ text) → ⊥
none_within w front b text printed =
    let (k, lt, is) = within w w [] [] front b text ([], refl) (sym (after-nil w)) printed in
    omega (arith, lt)

-- an answer whose bytes have an `f`
answer_confirms : (shown : Shown) (text : List ℕ) (raw : Raw) (answer : Result Verdict RunFault) (bytes : List ℕ)
    → ChecksAndTraces shown text raw answer bytes → Contains bytes 102 → HoldsConfirmed raw text
answer_confirms shown text raw (Ok verdict) bytes (shows, (trace, reports, is)) there =
    elim (Contains-append_cases trace (verdict_text verdict) 102 (subst (λ bs. Contains bs 102) is there)) [
      | inl before ↦
          absurd (trace_lacks shown raw reports.witness.start reports.witness.rows trace reports.reported_is before)
      | inr behind ↦ holds_confirmed raw text (subst (ShowsVerdict raw text) (verdict_lacks verdict behind) shows)
    ]
answer_confirms shown text raw (Err (run_faults.Witness fault)) bytes means there =
    absurd (lacks_same bytes [] means.1 lacks_none there)
answer_confirms shown text raw (Err fault) bytes means there = absurd means

pub trace_printed : {X : Type 0} (written : X → Option (List ℕ)) (failures : X → ℕ) (old new : X) (shown : Shown) (text : List ℕ)
    (raw : Raw) (result : Result Verdict RunFault)
    → CommandEnds (flow written failures old new) run_faults.Output (ChecksAndTraces shown text raw) result
    → PrintsWithin (written old) (written new) (codes "confirmed") → HoldsConfirmed raw text
trace_printed written failures old new shown text raw result (CommandEnds.writes_all bytes means got) printed =
    answer_confirms shown text raw result bytes means
    (within (written old) (written new) bytes bytes (codes "con") 102 (codes "irmed") ([], sym (append-nil bytes)) got.got printed)
trace_printed written failures old new shown text raw result (CommandEnds.breaks_off answer bytes means breaks) printed =
    answer_confirms shown text raw answer bytes means
    (within (written old) (written new) breaks.done bytes (codes "con") 102 (codes "irmed") breaks.beginning breaks.got printed)

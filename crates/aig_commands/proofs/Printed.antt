-- What a check printed, and what that says.
use Rattle.std.proofs.Common.{◌≡◌, ℕ, List, [], ◌∷◌, ◌++◌, length, refl, sym, ap, ◌∙◌, subst, append_assoc, arith}
use Rattle.std.proofs.Common.{Result, Ok, Err, Some}
use Rattle.std.specs.Prelude.{Option, None, codes}
use Rattle.std.proofs.lemmas.List.{append-nil}
use Rattle.std.proofs.lemmas.List.{append_cancel_left}
use Rattle.aig_bytes.specs.Bytes.{after, IsBeginning, Writes}
use Rattle.aig_bytes.proofs.WriteLemmas.{after-nil}
use Rattle.aig_parts.specs.declared.raw.Raw.{Raw}
use Rattle.aig_sim.specs.declared.witness.breaks.Break.{Break}
use Rattle.aig_sim.specs.declared.witness.breaks.Break.TheVariants as breaks
use Rattle.aig_sim.specs.declared.witness.verdict.Verdict.{Verdict}
use Rattle.aig_sim.specs.declared.witness.verdict.Verdict.TheVariants.{Initial, Constraint, NotBad, Confirmed}
use Rattle.aig_sim.specs.Verdict.{ShowsVerdict}
use Rattle.aig_commands.specs.Check.{HoldsConfirmed, Prints, verdict_text}
use Rattle.aig_commands.specs.CheckAlive.{HoldsAlive, ShowsRun, alive_text}

-- what was printed is the front of what was to be written
begins : (old new : Option (List ℕ)) (done bytes text : List ℕ) → IsBeginning done bytes → new ≡ after old done → Prints old new text
    → (rest : List ℕ) × (bytes ≡ text ++ rest)
begins None new done bytes text part got printed = absurd printed
begins (Some olds) new done bytes text (rest, is) got printed =
    let (more, same) = subst (λ (w : Option (List ℕ)). Prints (Some olds) w text) got printed in
    (more ++ rest, is ∙ ap (λ (front : List ℕ). front ++ rest) (append_cancel_left olds done (text ++ more) same) ∙ append_assoc text more rest)

module _ {X : Type 0} (written : X → Option (List ℕ)) (failures : X → ℕ) (old new : X) where
  prints : {T E : Type 0} (bytes text : List ℕ) (r : Result T E) → Writes written failures old new bytes r
      → Prints (written old) (written new) text → (rest : List ℕ) × (bytes ≡ text ++ rest)
  prints bytes text (Ok done) wrote printed =
      begins (written old) (written new) bytes bytes text ([], sym (append-nil bytes)) wrote.ok printed
  prints bytes text (Err e) wrote printed =
      let (done, part, got) = wrote.err in begins (written old) (written new) done bytes text part got printed

-- nothing that is printed begins with a text
pub none_printed : (w : Option (List ℕ)) (b : ℕ) (text : List ℕ) → Prints w w (b ∷ text) → ⊥
none_printed w b text printed =
    let (rest, is) = begins w w [] [] (b ∷ text) ([], refl) (sym (after-nil w)) printed in
    let more : 0 ≡ length (b ∷ (text ++ rest)) = ap length is in
    omega (arith, more)

abbrev first : List ℕ → ℕ
first [] = 0
first (b ∷ bytes) = b

abbrev later : List ℕ → List ℕ
later [] = []
later (b ∷ bytes) = bytes

abbrev fourth : List ℕ → ℕ
fourth bytes = first (later (later (later bytes)))

-- only one verdict's line begins so
confirmed_text : (v : Verdict) (rest : List ℕ) → verdict_text v ≡ codes "confirmed" ++ rest → v ≡ Confirmed
confirmed_text (Initial latch) rest is = let no : 116 ≡ 102 = ap fourth is in absurd (omega (arith, no))
confirmed_text (Constraint frame constraint) rest is = let no : 115 ≡ 102 = ap fourth is in absurd (omega (arith, no))
confirmed_text NotBad rest is = let no : 32 ≡ 102 = ap fourth is in absurd (omega (arith, no))
confirmed_text Confirmed rest is = refl

-- and only one answer's
alive_text_is : (answer : Option Break) (rest : List ℕ) → alive_text answer ≡ codes "alive" ++ rest → answer ≡ None
alive_text_is None rest is = refl
alive_text_is (Some (breaks.Initial latch)) rest is = let no : 105 ≡ 97 = ap first is in absurd (omega (arith, no))
alive_text_is (Some (breaks.Constraint frame constraint)) rest is = let no : 99 ≡ 97 = ap first is in absurd (omega (arith, no))
alive_text_is (Some (breaks.Frames count)) rest is = let no : 102 ≡ 97 = ap first is in absurd (omega (arith, no))

module _ {X : Type 0} (written : X → Option (List ℕ)) (failures : X → ℕ) (old new : X) where
  -- the verdict whose line begins so
  pub verdict_printed : {T E : Type 0} (v : Verdict) (r : Result T E) → Writes written failures old new (verdict_text v) r
      → Prints (written old) (written new) (codes "confirmed") → v ≡ Confirmed
  verdict_printed v r wrote printed =
      let (rest, is) = prints written failures old new (verdict_text v) (codes "confirmed") r wrote printed in confirmed_text v rest is

  -- the answer whose line begins so
  pub alive_printed : {T E : Type 0} (answer : Option Break) (r : Result T E) → Writes written failures old new (alive_text answer) r
      → Prints (written old) (written new) (codes "alive") → answer ≡ None
  alive_printed answer r wrote printed =
      let (rest, is) = prints written failures old new (alive_text answer) (codes "alive") r wrote printed in alive_text_is answer rest is

-- a run that nothing breaks
pub holds_alive : (raw : Raw) (asked : Option ℕ) (text : List ℕ) (answer : Option Break) → answer ≡ None
    → ShowsRun raw asked text answer → HoldsAlive raw asked text
holds_alive raw asked text None is shown = (shown.start, shown.rows, shown.spelled, shown.says)
holds_alive raw asked text (Some reason) is shown = let no : ⊥ = cc in absurd no

-- a verdict that is confirmed
pub holds_confirmed : (raw : Raw) (text : List ℕ) → ShowsVerdict raw text Confirmed → HoldsConfirmed raw text
holds_confirmed raw text shown = (shown.witness, shown.text_is, shown.confirmed refl)

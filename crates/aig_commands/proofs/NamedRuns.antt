-- The run that values name: the start that they fill in, and the rows that are cut from them.
use Rattle.std.proofs.Common.{◌≡◌, ℕ, suc, ◌+◌, ◌-◌, ◌*◌, ◌<◌, ◌≤◌, true, false, if◌then◌else◌, List, [], ◌∷◌, ◌++◌}
use Rattle.std.proofs.Common.{length, take, drop, get_or}
use Rattle.std.proofs.Common.{Result, Ok, Err, refl, sym, ap, ◌∙◌, subst, arith, append_assoc, length-drop}
use Rattle.std.specs.Result.{IsErrAnd}
use Rattle.std.proofs.lemmas.Bool.Decides.{nat_tests}
use Rattle.std.proofs.lemmas.List.{append-nil, drop_more, drop_all, length-take-le}
use Rattle.aig_parts.specs.declared.latch.Latch.{Latch}
use Rattle.aig_parts.specs.declared.raw.Raw.{Raw}
use Rattle.aig_parts.specs.declared.ternary.Tern.{Tern}
use Rattle.aig_parts.specs.declared.ternary.Tern.TheVariants.{X}
use Rattle.aig_base.specs.Value.{Fits, reset_value}
use Rattle.aig_values.specs.InputRows.{HaveWidth}
use Rattle.aig_refute.proofs.RowValues.{cut_wide, length-filled}
use Rattle.aig_refute.specs.PartialModels.{inputs_in, named_rows, named_start}
use Rattle.aig_refute.specs.UnrolledWitness.{cut, filled}
use Rattle.aig_unroll.specs.FrameLiteral.{input_count, is_uninitialised}

-- ---- the start

module _ (x : Latch) (xs : List Latch) (values : List Tern) where
  filled_free : is_uninitialised x ≡ true → filled (x ∷ xs) values ≡ get_or values 0 X ∷ filled xs (drop 1 values)
  unfolding filled
  filled_free e =
      ap (λ b. if b then get_or values 0 X ∷ filled xs (drop 1 values) else reset_value x.reset ∷ filled xs values) e

  filled_reset : is_uninitialised x ≡ false → filled (x ∷ xs) values ≡ reset_value x.reset ∷ filled xs values
  unfolding filled
  filled_reset e =
      ap (λ b. if b then get_or values 0 X ∷ filled xs (drop 1 values) else reset_value x.reset ∷ filled xs values) e

-- one more latch
module _ (latches : List Latch) (i : ℕ) (x : Latch) (done rest whole : List Tern) (lt : i < length latches)
    (is : get_or latches i x ≡ x) (so_far : done ++ filled (drop i latches) rest ≡ whole) where
  left : drop i latches ≡ x ∷ drop (i + 1) latches
  left = drop_more latches i x lt ∙ ap (λ (y : Latch). y ∷ drop (i + 1) latches) is

  pub takes_value : (new later : List Tern) (w : Tern) → x.reset ≡ x.lit → w ≡ get_or rest 0 X → later ≡ drop 1 rest
      → new ≡ done ++ w ∷ [] → new ++ filled (drop (i + 1) latches) later ≡ whole
  takes_value new later w free w_is later_is new_is =
      let e : is_uninitialised x ≡ true = grind (arith, nat_tests, free) in
      ap (λ (us : List Tern). us ++ filled (drop (i + 1) latches) later) new_is
      ∙ append_assoc done (w ∷ []) (filled (drop (i + 1) latches) later)
      ∙ ap (λ (us : List Tern). done ++ w ∷ filled (drop (i + 1) latches) us) later_is
      ∙ ap (λ (u : Tern). done ++ u ∷ filled (drop (i + 1) latches) (drop 1 rest)) w_is
      ∙ ap (λ (us : List Tern). done ++ us) (sym (filled_free x (drop (i + 1) latches) rest e))
      ∙ ap (λ (ys : List Latch). done ++ filled ys rest) (sym left)
      ∙ so_far

  pub takes_reset : (new later : List Tern) (w : Tern) → (x.reset ≡ x.lit → ⊥) → w ≡ reset_value x.reset → later ≡ rest
      → new ≡ done ++ w ∷ [] → new ++ filled (drop (i + 1) latches) later ≡ whole
  takes_reset new later w known w_is later_is new_is =
      let e : is_uninitialised x ≡ false = grind (arith, nat_tests, known) in
      ap (λ (us : List Tern). us ++ filled (drop (i + 1) latches) later) new_is
      ∙ append_assoc done (w ∷ []) (filled (drop (i + 1) latches) later)
      ∙ ap (λ (us : List Tern). done ++ w ∷ filled (drop (i + 1) latches) us) later_is
      ∙ ap (λ (u : Tern). done ++ u ∷ filled (drop (i + 1) latches) rest) w_is
      ∙ ap (λ (us : List Tern). done ++ us) (sym (filled_reset x (drop (i + 1) latches) rest e))
      ∙ ap (λ (ys : List Latch). done ++ filled ys rest) (sym left)
      ∙ so_far

-- no latch is left
pub start_done : (latches : List Latch) (i : ℕ) (done rest whole : List Tern) → length latches ≤ i
    → done ++ filled (drop i latches) rest ≡ whole → done ≡ whole
unfolding filled
start_done latches i done rest whole le so_far =
    sym (append-nil done)
    ∙ ap (λ (ys : List Latch). done ++ filled ys rest) (sym (drop_all i latches le)) ∙ so_far

-- ---- the rows

cut_more : (width k : ℕ) (values : List Tern) → cut width (suc k) values ≡ take width values ∷ cut width k (drop width values)
unfolding cut
cut_more width k values = refl

-- one more row
module _ (width frames i : ℕ) (done : List (List Tern)) (rest : List Tern) (whole : List (List Tern)) (lt : i < frames)
    (so_far : done ++ cut width (frames - i) rest ≡ whole) where
  pub takes_row : (new : List (List Tern)) (row later : List Tern) → row ≡ take width rest → later ≡ drop width rest
      → new ≡ done ++ row ∷ [] → new ++ cut width (frames - (i + 1)) later ≡ whole
  takes_row new row later row_is later_is new_is =
      let n = frames - (i + 1) in
      let e : suc n ≡ frames - i = omega (arith, lt) in
      ap (λ (us : List (List Tern)). us ++ cut width n later) new_is
      ∙ append_assoc done (row ∷ []) (cut width n later)
      ∙ ap (λ (us : List Tern). done ++ row ∷ cut width n us) later_is
      ∙ ap (λ (us : List Tern). done ++ us ∷ cut width n (drop width rest)) row_is
      ∙ ap (λ (us : List (List Tern)). done ++ us) (sym (cut_more width n rest))
      ∙ ap (λ m. done ++ cut width m rest) e
      ∙ so_far

pub enough_left : (width frames i : ℕ) (rest later : List Tern) → i < frames → (frames - i) * width ≤ length rest
    → later ≡ drop width rest → (width ≤ length rest) × ((frames - (i + 1)) * width ≤ length later)
enough_left width frames i rest later lt enough is =
    let n = frames - (i + 1) in
    let e : suc n ≡ frames - i = omega (arith, lt) in
    let more : suc n * width ≤ length rest = subst (λ m. m * width ≤ length rest) (sym e) enough in
    let sum : suc n * width ≡ width + n * width = grind arith in
    let long : length later ≡ length rest - width = ap length is ∙ length-drop width rest in
    (omega (arith, more, sum), omega (arith, more, sum, long))

-- no row is left
pub rows_done : (width frames : ℕ) (done : List (List Tern)) (rest : List Tern) (whole : List (List Tern))
    → done ++ cut width (frames - frames) rest ≡ whole → done ≡ whole
unfolding cut
rows_done width frames done rest whole so_far =
    let none : frames - frames ≡ 0 = omega arith in
    sym (append-nil done) ∙ ap (λ m. done ++ cut width m rest) (sym none) ∙ so_far

-- the error that reports a fault is that fault
pub reports_same : {T E : Type 0} (r : Result T E) (e f : E) → IsErrAnd r (λ x. x ≡ e) → r ≡ Err f → e ≡ f
reports_same (Ok x) e f h is = cc
reports_same (Err x) e f h is = let same : x ≡ f = cc in sym h ∙ same

-- ---- the run that values name

module _ (raw : Raw) (k : ℕ) (values : List Tern) where
  pub named_start_length : length (named_start raw k values) ≡ length raw.latches
  named_start_length = length-filled raw.latches (drop (k * length raw.inputs) (inputs_in raw k values))

  pub named_widths : input_count raw k < length values → HaveWidth (length raw.inputs) (named_rows raw k values)
  named_widths enough =
      let long : length (inputs_in raw k values) ≡ input_count raw k =
      length-take-le (input_count raw k) (drop 1 values) (omega (arith, length-drop 1 values, enough)) in
      cut_wide (length raw.inputs) k (inputs_in raw k values) (omega (arith, long))

  pub named_fits : input_count raw k < length values → Fits raw (named_start raw k values) (named_rows raw k values)
  named_fits enough = record { latches = named_start_length; inputs = named_widths enough }

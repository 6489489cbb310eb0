-- What is written for a model.
use Rattle.std.proofs.Common.{◌≡◌, ◌+◌, ◌*◌, ℕ, ◌<◌, ◌≤◌, Bool, List, [], length, take, Some, Result, Ok, Err, refl, sym, ap, ap₂, ◌∙◌, subst, arith}
use Rattle.std.specs.Prelude.{IfErr}
use Rattle.std.specs.Fmt.{decimal}
use Rattle.std.proofs.lemmas.List.{length-map}
use Rattle.aig_parts.specs.Limits.{frame_limit}
use Rattle.aig_parts.specs.declared.raw.Raw.{Raw}
use Rattle.aig_parts.specs.declared.ternary.Tern.{Tern}
use Rattle.aig_parts.specs.declared.fault.Fault.{Fault}
use Rattle.aig_base.specs.Circuit.{IsCircuit}
use Rattle.aig_base.specs.Part.{latch_marks, part, spread}
use Rattle.aig_base.specs.Value.{Fits, start_of}
use Rattle.aig_cnf.specs.Formula.{Cnf, IsFormulaOf}
use Rattle.aig_cnf.specs.Query.{depth, subject, uninitialised_latch}
use Rattle.aig_cnf.specs.ReadFormula.{HasReadFormula, IsReadOf, ReadCnf, marked}
use Rattle.aig_cnf.specs.declared.query.Goal.{Goal}
use Rattle.aig_cnf.specs.declared.query.Goal.TheVariants as goals
use Rattle.aig_cnf.specs.declared.query.Query.{Query}
use Rattle.aig_cnf.proofs.GoalLemmas.{length-goals}
use Rattle.aig_refute.proofs.SpreadRuns.{AreAlike, first_alike, fits_of_subject, none_alike, same_marks, spread_alike, spread_fits, subject_fits}
use Rattle.aig_refute.specs.PartialModels.{named_rows, named_start}
use Rattle.aig_refute.specs.SpreadRun.{spread_rows}
use Rattle.aig_unroll.specs.FrameLiteral.{frame_size, input_count}
use Rattle.aig_unroll.specs.Unrolled.{unrolled}
use Rattle.aig_sat.specs.model.ModelText.{HasStatus, IsModelOf, SaysUnknown, SaysUnsatisfiable}
use Rattle.aig_sat.specs.declared.model.fault.ModelFault.{ModelFault}
use Rattle.aig_sat.specs.declared.model.fault.ModelFault.TheVariants as models
use Rattle.aig_sim.specs.Reached.{IsFirstReached, ReachesNone}
use Rattle.aig_sim.specs.WitnessText.{IsDecimal, witness_text}
use Rattle.aig_sim.specs.declared.witness.reach_fault.ReachFault.{ReachFault}
use Rattle.aig_sim.specs.declared.witness.reach_fault.ReachFault.TheVariants as reaches
use Rattle.aig_command.specs.declared.run_fault.RunFault.TheVariants as run_faults
use Rattle.aig_commands.specs.ModelWitness.{RefusesModel, WritesModel, WritesNamed, names, rows_named, start_named}
use Rattle.aig_commands.proofs.NamedRuns.{named_fits}
use Rattle.aig_commands.proofs.WitnessTexts.{spells_first, start_length}

pub model_refused : {T : Type 0} (variables : ℕ) (model : List ℕ) (r : Result T ModelFault)
    → ((at : ℕ) → r ≡ Err (models.Text at) → (values : List Tern) → IsModelOf variables model values → ⊥)
    → (r ≡ Err models.Unsatisfiable → HasStatus SaysUnsatisfiable variables model)
    → (r ≡ Err models.Unknown → HasStatus SaysUnknown variables model) → IfErr r (RefusesModel variables model)
model_refused variables model (Ok x) text none unknown = tt
model_refused variables model (Err (models.Text at)) text none unknown = text at refl
model_refused variables model (Err models.Unsatisfiable) text none unknown = none refl
model_refused variables model (Err models.Unknown) text none unknown = unknown refl
model_refused variables model (Err models.Memory) text none unknown = tt

-- a fault of the circuit's file is none of a model
pub no_circuit_fault : (query : Query) (model : List ℕ) (raw : Raw) (fault : Fault) (text : List ℕ)
    → WritesModel query model raw (Err (run_faults.Circuit fault)) text → ⊥
no_circuit_fault query model raw fault text (names read values answer' text' has is of_model m) = m

-- ---- the formula

-- it is over so many frames
pub depth_of_formula : (raw : Raw) (query : Query) (formula : Cnf) → IsFormulaOf raw query formula → length formula.goals ≡ depth query
depth_of_formula raw query formula (order, canonical, is) =
    ap (λ (f : Cnf). length f.goals) is
    ∙ length-goals (unrolled (subject query.goal raw) order (depth query)) (length raw.bad) (depth query) query.property

module _ (raw : Raw) (query : Query) (read : ReadCnf) (h : IsReadOf raw query read) where
  pub depth_of_read : length read.cnf.goals ≡ depth query
  depth_of_read =
      depth_of_formula (part raw h.bad (marked read.marks)) (record query { property = 0 }) read.cnf h.cnf

  -- and has more variables than the part has inputs in all of them
  enough_variables : input_count read.small (depth query) < read.cnf.variables
  enough_variables =
      let (order, canonical, is) = h.cnf in
      let small : Raw = subject query.goal (part raw h.bad (marked read.marks)) in
      less (input_count small (depth query)) (depth query * frame_size small) read.cnf.variables (input_count read.small (depth query))
      (ap (λ (f : Cnf). f.variables) is) (ap (λ (r : Raw). input_count r (depth query)) h.small)
    where
      less : (inputs rest variables all : ℕ) → variables ≡ inputs + rest + 1 → all ≡ inputs → all < variables
      less inputs rest variables all count same = omega (arith, count, same)

  pub enough_values : (model : List ℕ) (values : List Tern) → IsModelOf read.cnf.variables model values
      → input_count read.small (depth query) < length values
  enough_values model values (literals, spells, named) =
      let count = named.count in let enough = enough_variables in omega (arith, count, enough)

  pub enough_at_depth : (model : List ℕ) (values : List Tern) → IsModelOf read.cnf.variables model values
      → input_count read.small (length read.cnf.goals) < length values
  enough_at_depth model values is =
      subst (λ k. input_count read.small k < length values) (sym depth_of_read) (enough_values model values is)

  pub few_frames : HasReadFormula raw query → length read.cnf.goals ≤ frame_limit
  few_frames has = subst (λ k. k ≤ frame_limit) (sym depth_of_read) has.limits.fits.frames

  -- the part has one property
  pub has_property : 0 < length read.small.bad
  has_property = subst (λ (r : Raw). 0 < length r.bad) (sym h.small) (one query.goal)
    where
      one : (goal : Goal) → 0 < length (subject goal (part raw h.bad (marked read.marks))).bad
      one goals.Within = omega arith
      one goals.Last = omega arith
      one goals.Step = omega arith
      one goals.Induction = omega arith

-- ---- its run

-- a run of a part that is as it was named
pub none_of_part : (part small : Raw) (k n : ℕ) (values start : List Tern) (rows : List (List Tern)) → part ≡ small → k ≡ n
    → start ≡ named_start part k values → rows ≡ named_rows part k values → ReachesNone part start rows (Some 0)
    → ReachesNone small (named_start small n values) (named_rows small n values) (Some 0)
none_of_part part small k n values start rows part_is count start_is rows_are none =
    subst (λ m. ReachesNone small (named_start small m values) (named_rows small m values) (Some 0)) count
    (subst (λ (r : Raw). ReachesNone r (named_start r k values) (named_rows r k values) (Some 0)) part_is
    (subst (λ (s : List Tern). ReachesNone part s (named_rows part k values) (Some 0)) start_is
    (subst (λ (rs : List (List Tern)). ReachesNone part start rs (Some 0)) rows_are none)))

-- the marks are those of the circuit, wherever that starts
latches_alike : (test : ℕ → Bool) (goal : Goal) (raw : Raw) → latch_marks test (subject goal raw) ≡ latch_marks test raw
latches_alike test goals.Within raw = refl
latches_alike test goals.Last raw = refl
latches_alike test goals.Step raw = same_marks test raw.latches
latches_alike test goals.Induction raw = same_marks test raw.latches

pub resets_long : (raw : Raw) (query : Query) (now : Raw) → now ≡ subject query.goal raw → length (start_of raw) ≡ length now.latches
resets_long raw query now is = subst (λ (r : Raw). length (start_of raw) ≡ length r.latches) (sym is) (go query.goal)
  where
    go : (goal : Goal) → length (start_of raw) ≡ length (subject goal raw).latches
    go goals.Within = start_length raw
    go goals.Last = start_length raw
    go goals.Step = start_length raw ∙ sym (length-map raw.latches uninitialised_latch)
    go goals.Induction = start_length raw ∙ sym (length-map raw.latches uninitialised_latch)

rows_alike : (test : ℕ → Bool) (goal : Goal) (raw : Raw) (rows : List (List Tern))
    → spread_rows test (subject goal raw) rows ≡ spread_rows test raw rows
rows_alike test goals.Within raw rows = refl
rows_alike test goals.Last raw rows = refl
rows_alike test goals.Step raw rows = refl
rows_alike test goals.Induction raw rows = refl

module _ (raw now : Raw) (query : Query) (read : ReadCnf) (h : IsReadOf raw query read) (now_is : now ≡ subject query.goal raw)
    (values : List Tern) where
  pub start_spread : (resets start : List Tern) → resets ≡ start_of raw
      → start ≡ spread (latch_marks (marked read.marks) now) resets (named_start read.small (length read.cnf.goals) values)
      → start ≡ start_named raw read (depth query) values
  start_spread resets start resets_are start_is =
      start_is
      ∙ ap (λ k. spread (latch_marks (marked read.marks) now) resets (named_start read.small k values)) (depth_of_read raw query read h)
      ∙ ap₂ (λ (bs : List Bool) (ys : List Tern). spread bs ys (named_start read.small (depth query) values))
      (ap (latch_marks (marked read.marks)) now_is ∙ latches_alike (marked read.marks) query.goal raw) resets_are

  pub rows_spread : (rows : List (List Tern))
      → rows ≡ spread_rows (marked read.marks) now (named_rows read.small (length read.cnf.goals) values)
      → rows ≡ rows_named raw read (depth query) values
  rows_spread rows rows_are =
      rows_are
      ∙ ap (λ k. spread_rows (marked read.marks) now (named_rows read.small k values)) (depth_of_read raw query read h)
      ∙ ap (λ (r : Raw). spread_rows (marked read.marks) r (named_rows read.small (depth query) values)) now_is
      ∙ rows_alike (marked read.marks) query.goal raw (named_rows read.small (depth query) values)

module _ (raw : Raw) (circuit : IsCircuit raw) (query : Query) (read : ReadCnf) (h : IsReadOf raw query read) (values : List Tern)
    (enough : input_count read.small (depth query) < length values) where
  abbrev few : List Tern
  few = named_start read.small (depth query) values

  abbrev fews : List (List Tern)
  fews = named_rows read.small (depth query) values

  abbrev wide : List Tern
  wide = start_named raw read (depth query) values

  abbrev wides : List (List Tern)
  wides = rows_named raw read (depth query) values

  fits_small : Fits (subject query.goal (part raw h.bad (marked read.marks))) few fews
  fits_small = subst (λ (r : Raw). Fits r few fews) h.small (named_fits read.small (depth query) values enough)

  named_alike : AreAlike read.small few fews (subject query.goal raw) wide wides query.property
  named_alike =
      subst (λ (r : Raw). AreAlike r few fews (subject query.goal raw) wide wides query.property) (sym h.small)
      (spread_alike raw h.bad (marked read.marks) h.marks.exact few fews circuit query.property h.bad_is query.goal fits_small)

  wide_fits : Fits (subject query.goal raw) wide wides
  wide_fits =
      subject_fits raw query.goal wide wides
      (spread_fits raw h.bad (marked read.marks) h.marks.exact few fews
      (fits_of_subject (part raw h.bad (marked read.marks)) query.goal few fews fits_small))

  at_depth : (t : ℕ) → IsFirstReached read.small (named_start read.small (length read.cnf.goals) values)
      (named_rows read.small (length read.cnf.goals) values) (Some 0) t 0 → IsFirstReached read.small few fews (Some 0) t 0
  at_depth t first =
      subst (λ k. IsFirstReached read.small (named_start read.small k values) (named_rows read.small k values) (Some 0) t 0)
      (depth_of_read raw query read h) first

  pub frame_there : (rows : List (List Tern)) (t : ℕ) → rows ≡ wides
      → IsFirstReached read.small (named_start read.small (length read.cnf.goals) values)
      (named_rows read.small (length read.cnf.goals) values) (Some 0) t 0 → t < length rows
  frame_there rows t rows_are first =
      subst (λ (rs : List (List Tern)). t < length rs) (sym rows_are)
      ((first_alike read.small few fews (subject query.goal raw) wide wides query.property named_alike t).0 (at_depth t first)).reaches.frame

  -- the witness of it
  pub writes_named : (start : List Tern) (rows : List (List Tern)) (t p : ℕ) → start ≡ wide → rows ≡ wides → p ≡ query.property
      → IsFirstReached read.small (named_start read.small (length read.cnf.goals) values)
      (named_rows read.small (length read.cnf.goals) values) (Some 0) t 0 → IsDecimal (decimal p) p
      → WritesNamed query values raw read (Ok tt) (witness_text (decimal p) start (take (t + 1) rows))
  writes_named start rows t p start_is rows_are asked first position =
      subst (λ (s : List Tern). WritesNamed query values raw read (Ok tt) (witness_text (decimal p) s (take (t + 1) rows))) (sym start_is)
      (subst (λ (rs : List (List Tern)). WritesNamed query values raw read (Ok tt) (witness_text (decimal p) wide (take (t + 1) rs)))
      (sym rows_are)
      (spells_first (subject query.goal raw) wide wides (Some query.property) t p wide_fits.latches wide_fits.inputs
      (subst (λ n. IsFirstReached (subject query.goal raw) wide wides (Some query.property) t n) (sym asked)
      ((first_alike read.small few fews (subject query.goal raw) wide wides query.property named_alike t).0 (at_depth t first))) position))

  -- or nothing
  pub named_refused : (fault : ReachFault) → (fault ≡ reaches.NoRun
      → ReachesNone read.small (named_start read.small (length read.cnf.goals) values)
      (named_rows read.small (length read.cnf.goals) values) (Some 0))
      → (fault ≡ reaches.Property → ⊥) → WritesNamed query values raw read (Err (run_faults.Reach fault)) []
  named_refused reaches.NoRun none never = (
    (none_alike read.small few fews (subject query.goal raw) wide wides query.property named_alike).0
        (subst (λ k. ReachesNone read.small (named_start read.small k values) (named_rows read.small k values) (Some 0))
        (depth_of_read raw query read h) (none refl)),
    refl,
  )
  named_refused reaches.Property none never = absurd (never refl)
  named_refused reaches.Memory none never = refl

-- A run that nothing breaks keeps all constraints, and one that something breaks does not.
use Rattle.std.proofs.Common.{◌≡◌, ◌≢◌, ◌↔◌, ◌⊎◌, inl, inr, ℕ, ◌<◌, ◌≤◌, List, [], length, Contains, Option, None, Some, Result, Ok}
use Rattle.std.proofs.Common.{Err, refl, sym, ap, ◌∙◌, subst, arith}
use Rattle.std.specs.Prelude.{IfErr, IfNone, IfSome}
use Rattle.std.specs.Fmt.{decimal}
use Rattle.std.proofs.lemmas.Bool.{cases_lt}
use Rattle.aig_parts.specs.declared.raw.Raw.{Raw}
use Rattle.aig_parts.specs.declared.ternary.Tern.{Tern}
use Rattle.aig_parts.specs.declared.ternary.Tern.TheVariants.{Zero, One, X}
use Rattle.aig_base.specs.Circuit.{IsCircuit}
use Rattle.aig_base.specs.Part.{TestsRead, part}
use Rattle.aig_base.specs.Value.{Value, Fits}
use Rattle.aig_base.proofs.lists.Positions.{Contains-from_slice_get, position_of}
use Rattle.aig_base.proofs.values.OneValue.{exists_value}
use Rattle.aig_base.proofs.values.UniqueValue.{unique}
use Rattle.aig_cnf.specs.Alive.{always_bad}
use Rattle.aig_cnf.specs.ReadFormula.{IsReadAliveOf, ReadCnf, marked}
use Rattle.aig_values.specs.InputRows.{HaveWidth}
use Rattle.aig_sim.specs.declared.witness.breaks.Break.{Break}
use Rattle.aig_sim.specs.declared.witness.breaks.Break.TheVariants as breaks
use Rattle.aig_sim.specs.declared.witness.reach_fault.ReachFault.{ReachFault}
use Rattle.aig_sim.specs.declared.witness.reach_fault.ReachFault.TheVariants as reaches
use Rattle.aig_sim.specs.Breaks.{Breaks, BreaksNothing, IsFirstBreak, SpellsRun}
use Rattle.aig_sim.specs.WitnessText.{IsDecimal, witness_text}
use Rattle.aig_values.proofs.PropertyLines.{constraint_defined}
use Rattle.aig_refute.specs.PartialModels.{named_rows, named_start}
use Rattle.aig_refute.specs.Satisfiable.{KeepsConstraints}
use Rattle.aig_refute.proofs.Reached.{allowed_where_none}
use Rattle.aig_refute.proofs.SpreadRuns.{spread_keeps_alive}
use Rattle.aig_command.specs.declared.run_fault.RunFault.TheVariants as run_faults
use Rattle.aig_commands.specs.AliveWitness.{WritesKept}
use Rattle.aig_commands.specs.CheckAlive.{SaysOfRun}
use Rattle.aig_commands.specs.ModelWitness.{rows_named, start_named}
use Rattle.aig_commands.proofs.NamedRuns.{named_fits}
use Rattle.aig_unroll.specs.FrameLiteral.{input_count}

one_or_not : (w : Tern) → (w ≡ One) ⊎ (w ≢ One)
one_or_not Zero = inr (λ e. let no : ⊥ = cc in no)
one_or_not One = inl refl
one_or_not X = inr (λ e. let no : ⊥ = cc in no)

-- the run of a text fits the circuit
pub spelled_fits : (raw : Raw) (text : List ℕ) (start : List Tern) (rows : List (List Tern)) → SpellsRun raw text start rows
    → Fits raw start rows
spelled_fits raw text start rows (w, spells, start_is, rows_are, few) = record {
  latches = subst (λ (s : List Tern). length s ≡ length raw.latches) start_is spells.start_is;
  inputs = subst (λ (r : List (List Tern)). HaveWidth (length raw.inputs) r) rows_are spells.widths;
}

module _ (raw : Raw) (circuit : IsCircuit raw) (start : List Tern) (rows : List (List Tern)) (k : ℕ) where
  pub nothing_breaks : Fits raw start rows → BreaksNothing raw start rows k → KeepsConstraints raw k start rows
  nothing_breaks fits none = (fits, allowed_where_none raw start (λ p h. none (breaks.Initial p) h), long, kept)
    where
      long : k ≤ length rows
      long = elim (cases_lt (length rows) k) [
        | inl few ↦ absurd (none (breaks.Frames (length rows)) (refl, few))
        | inr le ↦ le
      ]

      kept : (t c : ℕ) → t < k → Contains raw.constraints c → Value raw start rows t c One
      kept t c below has =
          let (p, at) = position_of raw.constraints c has in
          let lt : t < length rows = omega (arith, below, long) in
          let (v, value) = exists_value raw start rows circuit.sound circuit.acyclic fits t lt c
          (constraint_defined raw circuit.sound p c at) in
          elim (one_or_not v) [
            | inl e ↦ subst (λ (u : Tern). Value raw start rows t c u) e value
            | inr ne ↦ absurd (none (breaks.Constraint t p) (
              below,
              lt,
              record { literal = c; value = v; literal_is = at; value_is = value; not_one = ne },
            ))
          ]

  pub something_breaks : (reason : Break) → Breaks raw start rows k reason → KeepsConstraints raw k start rows → ⊥
  something_breaks (breaks.Initial p) h (fits, allowed, long, kept) =
      h.wrong (allowed p h.latch h.value h.latch_is h.value_is)
  something_breaks (breaks.Constraint t p) (below, lt, h) (fits, allowed, long, kept) =
      h.not_one (unique raw start rows circuit.sound h.value_is
      (kept t h.literal below (Contains-from_slice_get raw.constraints p h.literal h.literal_is)))
  something_breaks (breaks.Frames n) (is, few) (fits, allowed, long, kept) = omega (arith, is, few, long)

  -- what the answer says
  pub says_of_run : Fits raw start rows → (answer : Option Break) → IfSome answer (IsFirstBreak raw start rows k)
      → IfNone answer (BreaksNothing raw start rows k) → SaysOfRun raw start rows k answer
  says_of_run fits None some none = nothing_breaks fits none
  says_of_run fits (Some reason) some none = some

-- no witness is written
pub kept_refused : {T : Type 0} (raw : Raw) (k : ℕ) (start : List Tern) (rows : List (List Tern)) (r : Result T ReachFault)
    → (r ≡ Err reaches.NoRun → KeepsConstraints raw k start rows → ⊥) → (r ≡ Err reaches.Property → ⊥)
    → IfErr r (λ fault. WritesKept raw k start rows (Err (run_faults.Reach fault)) [])
kept_refused raw k start rows (Ok run) none never = tt
kept_refused raw k start rows (Err reaches.NoRun) none never = (none refl, refl)
kept_refused raw k start rows (Err reaches.Property) none never = absurd (never refl)
kept_refused raw k start rows (Err reaches.Memory) none never = refl

-- the witness of a run that keeps all constraints
pub spells_kept : (raw : Raw) (k : ℕ) (wide start : List Tern) (wides rows : List (List Tern)) → 0 < k → start ≡ wide → rows ≡ wides
    → KeepsConstraints raw k wide wides → IsDecimal (decimal 0) 0
    → WritesKept raw k wide wides (Ok tt) (witness_text (decimal 0) start rows)
spells_kept raw k wide start wides rows some start_is rows_are (fits, allowed, long, kept) position =
    subst (λ (s : List Tern). WritesKept raw k wide wides (Ok tt) (witness_text (decimal 0) s rows)) (sym start_is)
    (subst (λ (r : List (List Tern)). WritesKept raw k wide wides (Ok tt) (witness_text (decimal 0) wide r)) (sym rows_are) (
      (fits, allowed, long, kept),
      record {
        start_is = fits.latches;
        widths = fits.inputs;
        some = λ none. omega (arith, long, some, ap length none);
        digits = decimal 0;
        position = position;
        text_is = refl;
      },
    ))

-- ---- the run that values name

module _ (raw : Raw) (k : ℕ) (read : ReadCnf) (h : IsReadAliveOf raw k read) where
  is_true : h.bad ≡ 1
  is_true = let e : Some h.bad ≡ Some 1 = sym h.bad_is in cc

  small_is : read.small ≡ part raw 1 (marked read.marks)
  small_is = h.small ∙ ap (λ b. part (always_bad raw) b (marked read.marks)) is_true

  exact : TestsRead (always_bad raw) 1 (marked read.marks)
  exact = subst (λ b. TestsRead (always_bad raw) b (marked read.marks)) is_true h.marks.exact

  -- its run of the part keeps all constraints exactly where that of the circuit does
  pub kept_alike : (values : List Tern) → input_count read.small k < length values
      → KeepsConstraints read.small k (named_start read.small k values) (named_rows read.small k values)
      ↔ KeepsConstraints raw k (start_named raw read k values) (rows_named raw read k values)
  kept_alike values enough =
      let few : List Tern = named_start read.small k values in
      let fews : List (List Tern) = named_rows read.small k values in
      subst (λ (r : Raw). KeepsConstraints r k few fews
      ↔ KeepsConstraints raw k (start_named raw read k values) (rows_named raw read k values)) (sym small_is)
      (spread_keeps_alive raw (marked read.marks) exact few fews
      (subst (λ (r : Raw). Fits r few fews) small_is (named_fits read.small k values enough)) k)

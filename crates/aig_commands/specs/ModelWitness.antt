-- What `witness` writes for a solver's model: the witness of the run that the model names.
-- Example: input 2 is bad: for two frames and `-2 3 0/` it is `1/b0//0/1/./`; if there is also an input 4, which nothing
-- reads, it is `1/b0//0x/1x/./`.
use Rattle.std.specs.Prelude.{◌≡◌, ℕ, List, [], Some, Result, Ok, Err}
use Rattle.aig_parts.specs.declared.raw.Raw.{Raw}
use Rattle.aig_parts.specs.declared.ternary.Tern.{Tern}
use Rattle.aig_cnf.specs.Query.{depth, subject}
use Rattle.aig_cnf.specs.ReadFormula.{HasReadFormula, IsReadOf, ReadCnf, RefusesReadFormula, marked}
use Rattle.aig_cnf.specs.declared.fault.CnfFault.{CnfFault}
use Rattle.aig_cnf.specs.declared.query.Query.{Query}
use Rattle.aig_sat.specs.model.ModelText.{HasStatus, IsModelOf, SaysUnknown, SaysUnsatisfiable}
use Rattle.aig_sat.specs.declared.model.fault.ModelFault.{ModelFault}
use Rattle.aig_sat.specs.declared.model.fault.ModelFault.TheVariants as models
use Rattle.aig_refute.specs.PartialModels.{named_rows, named_start}
use Rattle.aig_refute.specs.SpreadRun.{spread_rows, spread_start}
use Rattle.aig_sim.specs.Reached.{ReachesNone}
use Rattle.aig_sim.specs.declared.witness.reach_fault.ReachFault.TheVariants as reaches
use Rattle.aig_command.specs.declared.run_fault.RunFault.{RunFault}
use Rattle.aig_command.specs.declared.run_fault.RunFault.TheVariants as run_faults
use Rattle.aig_commands.specs.Witness.{SpellsFirst}

-- why a model is refused: the text is none, whatever the values; a solver says that there is none, or that it does not
-- know; or memory ran out
abbrev pub RefusesModel : ℕ → List ℕ → ModelFault → Type 0
RefusesModel variables model (models.Text at) = (values : List Tern) → IsModelOf variables model values → ⊥
RefusesModel variables model models.Unsatisfiable = HasStatus SaysUnsatisfiable variables model
RefusesModel variables model models.Unknown = HasStatus SaysUnknown variables model
RefusesModel variables model models.Memory = Unit {0}

-- The run of k frames that values of the formula's variables name: that of the part. A latch that is not read starts by
-- its reset, and an input that is not read is x.
abbrev pub start_named : Raw → ReadCnf → ℕ → List Tern → List Tern
start_named raw read k values = spread_start (marked read.marks) raw (named_start read.small k values)

abbrev pub rows_named : Raw → ReadCnf → ℕ → List Tern → List (List Tern)
rows_named raw read k values = spread_rows (marked read.marks) raw (named_rows read.small k values)

-- What it writes for a run: the witness of the first frame at which the run reaches property p; nothing where no frame
-- does.
abbrev pub WritesReached : Raw → ℕ → List Tern → List (List Tern) → Result (Unit {0}) RunFault → List ℕ → Type 0
WritesReached raw p start rows (Ok done) text = SpellsFirst raw start rows (Some p) text
WritesReached raw p start rows (Err (run_faults.Reach reaches.NoRun)) text =
    ReachesNone raw start rows (Some p) × (text ≡ [])
WritesReached raw p start rows (Err (run_faults.Reach reaches.Memory)) text = text ≡ []
WritesReached raw p start rows (Err _) text = ⊥

-- what it writes for the values of the formula's variables: that of their run, from where the goal of the query starts
abbrev pub WritesNamed : Query → List Tern → Raw → ReadCnf → Result (Unit {0}) RunFault → List ℕ → Type 0
WritesNamed query values raw read =
    WritesReached (subject query.goal raw) query.property (start_named raw read (depth query) values)
    (rows_named raw read (depth query) values)

-- What it writes for a model of the formula of a query: that of the values which the model gives to the variables;
-- nothing where there is no such formula, or the model is refused.
pub data WritesModel (query : Query) (model : List ℕ) (raw : Raw) : Result (Unit {0}) RunFault → List ℕ → Type 0 where
  no_formula : (fault : CnfFault) → RefusesReadFormula raw query fault
      → WritesModel query model raw (Err (run_faults.Cnf fault)) []
  no_model : (read : ReadCnf) (fault : ModelFault) → HasReadFormula raw query → IsReadOf raw query read
      → RefusesModel read.cnf.variables model fault
      → WritesModel query model raw (Err (run_faults.Model fault)) []
  names : (read : ReadCnf) (values : List Tern) (answer : Result (Unit {0}) RunFault) (text : List ℕ)
      → HasReadFormula raw query → IsReadOf raw query read → IsModelOf read.cnf.variables model values
      → WritesNamed query values raw read answer text → WritesModel query model raw answer text

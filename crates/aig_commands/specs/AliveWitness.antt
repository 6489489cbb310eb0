-- What `witness --alive` writes for a solver's model of the formula that a run keeps all constraints: the witness of the
-- run that the model names. `check --alive` accepts it.
-- Example: input 2 is a constraint: for two frames and `2 3 0/` it is `1/b0//1/1/./`.
use Rattle.std.specs.Prelude.{◌≡◌, ℕ, List, [], Result, Ok, Err}
use Rattle.aig_parts.specs.declared.raw.Raw.{Raw}
use Rattle.aig_parts.specs.declared.ternary.Tern.{Tern}
use Rattle.aig_cnf.specs.ReadFormula.{HasReadAliveFormula, IsReadAliveOf, ReadCnf, RefusesReadAlive}
use Rattle.aig_cnf.specs.declared.fault.CnfFault.{CnfFault}
use Rattle.aig_sat.specs.model.ModelText.{IsModelOf}
use Rattle.aig_sat.specs.declared.model.fault.ModelFault.{ModelFault}
use Rattle.aig_refute.specs.Satisfiable.{KeepsConstraints}
use Rattle.aig_sim.specs.Breaks.{as_witness}
use Rattle.aig_sim.specs.WitnessText.{SpellsWitness}
use Rattle.aig_sim.specs.declared.witness.reach_fault.ReachFault.TheVariants as reaches
use Rattle.aig_command.specs.declared.run_fault.RunFault.{RunFault}
use Rattle.aig_command.specs.declared.run_fault.RunFault.TheVariants as run_faults
use Rattle.aig_commands.specs.ModelWitness.{RefusesModel, rows_named, start_named}

-- What it writes for a run: its witness, if it keeps all constraints at k frames, else nothing. The property of the
-- witness is 0.
abbrev pub WritesKept : Raw → ℕ → List Tern → List (List Tern) → Result (Unit {0}) RunFault → List ℕ → Type 0
WritesKept raw k start rows (Ok done) text =
    KeepsConstraints raw k start rows × SpellsWitness raw text (as_witness start rows)
WritesKept raw k start rows (Err (run_faults.Reach reaches.NoRun)) text =
    (KeepsConstraints raw k start rows → ⊥) × (text ≡ [])
WritesKept raw k start rows (Err (run_faults.Reach reaches.Memory)) text = text ≡ []
WritesKept raw k start rows (Err _) text = ⊥

-- what it writes for the values of the formula's variables: that of their run
abbrev pub NamesKept : ℕ → List Tern → Raw → ReadCnf → Result (Unit {0}) RunFault → List ℕ → Type 0
NamesKept k values raw read = WritesKept raw k (start_named raw read k values) (rows_named raw read k values)

-- What it writes for a model: that of the values which the model gives to the variables; nothing where there is no
-- formula, or the model is refused.
pub data WritesAliveModel (k : ℕ) (model : List ℕ) (raw : Raw) : Result (Unit {0}) RunFault → List ℕ → Type 0 where
  no_formula : (fault : CnfFault) → RefusesReadAlive raw k fault
      → WritesAliveModel k model raw (Err (run_faults.Cnf fault)) []
  no_model : (read : ReadCnf) (fault : ModelFault) → HasReadAliveFormula raw k → IsReadAliveOf raw k read
      → RefusesModel read.cnf.variables model fault
      → WritesAliveModel k model raw (Err (run_faults.Model fault)) []
  names : (read : ReadCnf) (values : List Tern) (answer : Result (Unit {0}) RunFault) (text : List ℕ)
      → HasReadAliveFormula raw k → IsReadAliveOf raw k read → IsModelOf read.cnf.variables model values
      → NamesKept k values raw read answer text → WritesAliveModel k model raw answer text

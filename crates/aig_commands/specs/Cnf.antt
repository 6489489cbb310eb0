-- What `cnf` writes: the formula of a query about a circuit, over the part that the property reads.
-- Example: input 2 is bad, one frame: `c aig cnf --frames 1 --property 0 /c i 2 0 0 /c b 2 0/p cnf 2 2/-1 0/2 0/`; for
-- property 1 nothing, with `Property`.
use Rattle.std.specs.Prelude.{◌≡◌, ℕ, List, [], Result, Ok, Err}
use Rattle.aig_parts.specs.declared.raw.Raw.{Raw}
use Rattle.aig_cnf.specs.Query.{induction, subject}
use Rattle.aig_cnf.specs.CnfText.{read_text}
use Rattle.aig_cnf.specs.ReadFormula.{HasReadFormula, IsReadOf, ReadCnf, RefusesReadFormula}
use Rattle.aig_cnf.specs.declared.heading.Heading.{Heading}
use Rattle.aig_cnf.specs.declared.heading.Heading.TheVariants.{Certified, Runs}
use Rattle.aig_cnf.specs.declared.query.Query.{Query}
use Rattle.aig_command.specs.declared.run_fault.RunFault.{RunFault}
use Rattle.aig_command.specs.declared.run_fault.RunFault.TheVariants as run_faults

-- the bytes are the text of the formula, with comment lines about the circuit whose part is unrolled for it
abbrev pub IsFormulaText : Heading → Raw → Query → List ℕ → Type 0
IsFormulaText asked raw query text =
    (read : ReadCnf) × IsReadOf raw query read × (text ≡ read_text (subject query.goal raw) asked read)

-- what is written where this was asked for: the formula, or nothing where there is none
abbrev pub WritesAsked : Heading → Query → Raw → Result (Unit {0}) RunFault → List ℕ → Type 0
WritesAsked asked query raw (Ok done) text = HasReadFormula raw query × IsFormulaText asked raw query text
WritesAsked asked query raw (Err (run_faults.Cnf fault)) text = RefusesReadFormula raw query fault × (text ≡ [])
WritesAsked asked query raw (Err _) text = ⊥

-- what `cnf` writes for a circuit
abbrev pub WritesFormula : Query → Raw → Result (Unit {0}) RunFault → List ℕ → Type 0
WritesFormula query = WritesAsked (Runs query) query

-- what `cnf --certificate` writes for a circuit that was strengthened by a certificate for property p
abbrev pub WritesCertified : ℕ → Raw → Result (Unit {0}) RunFault → List ℕ → Type 0
WritesCertified p = WritesAsked (Certified p) (induction 1 0)

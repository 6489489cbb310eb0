-- What a selection of properties keeps.
-- Example: for property 0 of the circuit that keeps property 2, and property 2.
use Rattle.std.specs.Prelude.{◌↔◌, ℕ}
use Rattle.aig_parts.specs.declared.raw.Raw.{Raw}
use Rattle.aig_base.specs.declared.select.PropertySection.{PropertySection}
use Rattle.aig_base.specs.Selected.{properties_in}
use Rattle.aig_sim.specs.declared.witness.verdict.Verdict.{Verdict}
use Rattle.aig_sim.specs.Verdict.{IsVerdict}
use Rattle.aig_sim.specs.WitnessText.{Witness}

-- the circuit with the literals of a section as its bad state properties
abbrev pub with_bad : PropertySection → Raw → Raw
with_bad section raw = record raw { bad = properties_in section raw }

-- the run of a witness, of another property
abbrev pub of_property : ℕ → Witness → Witness
of_property p w = record w { property = p }

-- for property p of the one circuit and property q of the other, the run of the witness has the same verdict
abbrev pub HaveSameVerdictsOf : ℕ → ℕ → Raw → Raw → Witness → Type 0
HaveSameVerdictsOf p q raw new w =
    (verdict : Verdict) → IsVerdict raw (of_property p w) verdict ↔ IsVerdict new (of_property q w) verdict

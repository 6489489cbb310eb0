-- The exit status of a refused run (our own choice).
-- Example: `Circuit(Cycle(2))` has 1, `Witness(Memory)` has 3.
use Rattle.std.specs.Prelude.{ℕ}
use Rattle.aig_parts.specs.declared.fault.Fault.TheVariants as circuits
use Rattle.aig_sim.specs.declared.witness.reach_fault.ReachFault.TheVariants as reaches
use Rattle.aig_sim.specs.declared.stimulus.fault.StimFault.TheVariants as stimuli
use Rattle.aig_sim.specs.declared.witness.fault.WitnessFault.TheVariants as witnesses
use Rattle.aig_bench.specs.declared.bench.fault.BenchFault.TheVariants as benches
use Rattle.aig_cnf.specs.declared.fault.CnfFault.TheVariants as formulas
use Rattle.aig_unroll.specs.declared.fault.UnrollFault.TheVariants as unrollings
use Rattle.aig_base.specs.declared.select.SelectFault.TheVariants as selections
use Rattle.aig_sat.specs.declared.model.fault.ModelFault.TheVariants as models
use Rattle.aig_sat.specs.declared.proof.fault.ProofFault.TheVariants as proofs
use Rattle.aig_certificate.specs.declared.fault.StrengthenFault.TheVariants as strengthenings
use Rattle.aig_signals.specs.declared.property.fault.NamesFault.TheVariants as names
use Rattle.aig_cut.specs.declared.fault.CutFault.TheVariants as cuts
use Rattle.aig_command.specs.declared.run_fault.RunFault.{RunFault}
use Rattle.aig_command.specs.declared.run_fault.RunFault.TheVariants.{Circuit, Stimulus, Witness, Bench, Script, Shell}
use Rattle.aig_command.specs.declared.run_fault.RunFault.TheVariants.{Output, Memory}
use Rattle.aig_command.specs.declared.run_fault.RunFault.TheVariants.{Unroll, Cnf, Select, Reach, Proof, StepProof, Model}
use Rattle.aig_command.specs.declared.run_fault.RunFault.TheVariants.{Certificate, Strengthen, Names, Cut}

-- 3 where memory ran out, or a read or a write failed; 1 for any other refusal
abbrev pub status_of : RunFault → ℕ
status_of (Circuit circuits.Memory) = 3
status_of (Circuit circuits.Io) = 3
status_of (Stimulus stimuli.Memory) = 3
status_of (Stimulus stimuli.Io) = 3
status_of (Witness witnesses.Memory) = 3
status_of (Bench benches.Memory) = 3
status_of (Script _) = 3
status_of Shell = 3
status_of Output = 3
status_of Memory = 3
status_of (Unroll unrollings.Memory) = 3
status_of (Cnf formulas.Memory) = 3
status_of (Select selections.Memory) = 3
status_of (Reach reaches.Memory) = 3
status_of (Proof proofs.Memory) = 3
status_of (Proof proofs.Io) = 3
status_of (StepProof proofs.Memory) = 3
status_of (StepProof proofs.Io) = 3
status_of (Model models.Memory) = 3
status_of (Certificate circuits.Memory) = 3
status_of (Certificate circuits.Io) = 3
status_of (Strengthen strengthenings.Memory) = 3
status_of (Names names.Memory) = 3
status_of (Cut cuts.Memory) = 3
status_of _ = 1

-- Which part of a run a fault is of.
use Rattle.aig_command.specs.declared.run_fault.RunFault.{RunFault}
use Rattle.aig_command.specs.declared.run_fault.RunFault.TheVariants.{Stimulus}

abbrev pub IsOfStimulus : RunFault → Type 0
IsOfStimulus (Stimulus fault) = Unit {0}
IsOfStimulus _ = ⊥

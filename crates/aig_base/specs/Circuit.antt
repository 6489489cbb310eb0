-- A circuit: formed parts that are sound and acyclic.
-- Example: `examples/two_gates.aag` is one.
use Rattle.aig_parts.specs.declared.raw.Raw.{Raw}
use Rattle.aig_parts.specs.Formed.{IsFormed}
use Rattle.aig_base.specs.Sound.{IsSound}
use Rattle.aig_base.specs.Grounded.{IsAcyclic}

pub record IsCircuit (raw : Raw) : Type 0 where
  pub formed : IsFormed raw
  pub sound : IsSound raw
  pub acyclic : IsAcyclic raw

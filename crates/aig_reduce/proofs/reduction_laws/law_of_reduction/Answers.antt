use Rattle.aig_reduce.proofs.Irreducibles.{holds_reduced}
use Rattle.aig_reduce.proofs.reduction_laws.law_of_reduction.Goals as goal

pub returns : goal.returns
returns c = λ raw given new circuit g h. holds_reduced raw circuit given g new h

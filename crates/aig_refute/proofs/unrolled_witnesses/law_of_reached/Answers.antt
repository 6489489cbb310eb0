use Rattle.aig_refute.proofs.Reached.{confirms_reached}
use Rattle.aig_refute.proofs.unrolled_witnesses.law_of_reached.Goals as goal

pub returns : goal.returns
returns c = record {
  confirmed = λ raw k start rows circuit run. confirms_reached raw circuit start rows run.fits run.allowed;
}

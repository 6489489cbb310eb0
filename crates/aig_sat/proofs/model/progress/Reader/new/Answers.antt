use Rattle.std.proofs.Common.{refl}
use Rattle.aig_sat.proofs.models.ModelLemmas.{begins_text}
use Rattle.aig_sat.proofs.model.progress.Reader.new.Goals as goal

pub returns-clause-nothing : goal.returns-clause-nothing
returns-clause-nothing c =
    begins_text _ refl c.in_ok-new.ensures.named.count c.in_ok-new.ensures.named

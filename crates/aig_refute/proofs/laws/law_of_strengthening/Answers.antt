use Rattle.aig_certificate.proofs.Extensions.{extends}
use Rattle.aig_refute.proofs.ExtensionLemmas.{unreachable_of_extension}
use Rattle.aig_refute.proofs.laws.law_of_strengthening.Goals as goal

pub returns : goal.returns
returns c = λ raw certificate x p circuit is.
    let (b, at, extension) = extends raw p certificate x is in unreachable_of_extension raw x p b circuit at extension

use Rattle.std.proofs.Common.{◌∙◌}
use Rattle.std.proofs.lemmas.Result.{IfOk-weaker}
use Rattle.aig_signals.proofs.BitLemmas.{named_is}
use Rattle.aig_signals.proofs.bits.literals_of_words.Goals as goal

pub returns : goal.returns
returns c =
    IfOk-weaker c.all_bits.result _ _
    (λ found e. e ∙ named_is c.args.circuit.now c.args.name.now c.as_slice.result.now (c.as_slice.ensures.value ∙ c.in_ok-bits.ensures))
    c.all_bits.ensures

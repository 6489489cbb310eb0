use Rattle.std.proofs.Common.{refl}
use Rattle.aig_prompt.proofs.QuoteLemmas.{quote_refused}
use Rattle.aig_prompt.proofs.ValueLemmas.{sized_reads, tail_is}
use Rattle.aig_prompt.proofs.value.value_of.Goals as goal

pub returns-in-Some-clause-reads : goal.returns-in-Some-clause-reads
returns-in-Some-clause-reads c =
    sized_reads _ c.args.text.now _ _ c.in-Some.at c.sized_value.result c.in-Some.ensures.some refl
    (tail_is c.args.text.now c.in-Some.at) c.sized_value.ensures.reads

pub returns-in-Some-clause-fault : goal.returns-in-Some-clause-fault
returns-in-Some-clause-fault c =
    quote_refused c.args.text.now _ _ c.args.width c.in-Some.at c.sized_value.result c.ranges.width.fits c.in-Some.ensures.some
    c.in-Some.ensures.first refl (tail_is c.args.text.now c.in-Some.at) c.sized_value.ensures.refused

use Rattle.aig_prompt.proofs.TextLemmas.{no_ends, none}
use Rattle.aig_prompt.proofs.texts.Texts.new.Goals as goal

pub invariant_of-result : goal.invariant_of-result
invariant_of-result c = no_ends c.new.result.items c.new-2.result.items c.new.ensures.items c.new-2.ensures.items

pub returns : goal.returns
returns c = record { none = none c.new.result.items c.new-2.result.items c.new.ensures.items c.new-2.ensures.items }

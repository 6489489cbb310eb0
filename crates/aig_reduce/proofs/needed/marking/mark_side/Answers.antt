use Rattle.std.proofs.Common.{sym, ◌∙◌}
use Rattle.std.proofs.lemmas.Bool.{false≢true}
use Rattle.aig_parts.specs.Literal.{variable}
use Rattle.aig_reduce.proofs.NeededLemmas.{one_added}
use Rattle.aig_reduce.proofs.needed.marking.mark_side.Goals as goal

pub returns-then-has_value : goal.returns-then-has_value
returns-then-has_value g c = λ property h n. n

pub returns : goal.returns
returns g c = λ property h.
    one_added c.args.bench.now.pair property c.args.frame (variable c.args.side) c.args.marks.now.items c.mark.new.marks.items
    c.mark.ensures (λ n. h n (λ zero. false≢true (sym c.if-has_value.false ∙ c.has_value.ensures.1 zero)))

use Rattle.std.proofs.Common.{◌∙◌, refl, sym}
use Rattle.std.proofs.lemmas.Result.{IfOk-weaker}
use Rattle.aig_signals.proofs.BitLemmas.{between_missing, between_table, within_table}
use Rattle.aig_signals.proofs.bits.bits_between.Goals as goal

pub returns-then-last-first : goal.returns-then-last-first
returns-then-last-first c =
    between_missing c.args.bits.now c.args.first c.args.last c.if-last-first.true c.requires.order

pub table_of-requires : goal.table_of-requires
table_of-requires c =
    within_table c.args.bits.now c.args.first c.args.last _ refl c.requires.order c.requires.within

pub returns : goal.returns
returns c =
    IfOk-weaker c.all_there.result _ _
    (λ found e. e ∙ between_table c.args.bits.now c.as_slice.result.now c.args.first c.args.last _ refl c.requires.order
    (c.as_slice.ensures.value ∙ c.in_ok-table.ensures))
    c.all_there.ensures

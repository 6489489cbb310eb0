use Rattle.std.proofs.Common.{◌∙◌, sym}
use Rattle.std.specs.Str.{bytes_eq}
use Rattle.std.proofs.lemmas.Result.{on_ok_weaker}
use Rattle.indexmap.specs.IndexMap.{get_by}
use Rattle.aig_signals.proofs.CalledWords.{bit_none, bit_put}
use Rattle.aig_signals.proofs.called.words.note.Goals as goal

pub returns-in_default : goal.returns-in_default
returns-in_default c x =
    bit_none (λ y. get_by (λ key. bytes_eq y key.items) c.args.table.now) c.args.vector.now x c.args.bit _
    (sym c.in_default.is ∙ c.in_ok-bits.ensures.taken) (c.in_ok-bits.ensures.table x)

pub returns : goal.returns
returns c =
    on_ok_weaker c.put.result
    (λ h x. bit_put (λ y. get_by (λ key. bytes_eq y key.items) c.args.table.now) c.args.vector.now x c.args.bit _ _ _ _
    (sym c.in-Some.is ∙ c.in_ok-bits.ensures.taken) c.in_ok-push.ensures.ok (c.in_ok-bits.ensures.table x) (h x))
    c.put.ensures

use Rattle.std.proofs.Common.{◌∙◌, sym, ap}
use Rattle.std.specs.Prelude.{option_copied}
use Rattle.std.specs.Str.{bytes_eq}
use Rattle.std.proofs.lemmas.Result.{on_ok_weaker}
use Rattle.indexmap.specs.IndexMap.{get_by}
use Rattle.aig_base.specs.Selected.{kind_of}
use Rattle.aig_signals.proofs.WantedLemmas.{look_other, look_unwanted, look_wanted, other_kind, own_kind}
use Rattle.aig_signals.proofs.property.wanted.look_at.Goals as goal

pub returns-then-is_other : goal.returns-then-is_other
returns-then-is_other c x =
    look_other (kind_of c.args.section) c.args.entry.0 c.args.entry.1 c.args.name.now x _
    (other_kind c.args.section c.args.entry.0 (sym c.is_other.ensures ∙ c.if-is_other.true))

pub returns-in-None : goal.returns-in-None
returns-in-None c x =
    look_unwanted (kind_of c.args.section) c.args.entry.0 c.args.entry.1 c.args.name.now x
    (λ y. get_by (λ key. bytes_eq y key.items) c.args.table.now) (sym c.get.ensures.value ∙ ap option_copied c.in-None.is)

pub returns : goal.returns
returns c =
    on_ok_weaker c.put.result
    (λ h x. look_wanted (kind_of c.args.section) c.args.entry.0 c.args.entry.1 c.args.name.now x
    (λ y. get_by (λ key. bytes_eq y key.items) c.args.table.now) _ c.in-Some.known.now c.with.result
    (own_kind c.args.section c.args.entry.0 (sym c.is_other.ensures ∙ c.if-is_other.false))
    (sym c.get.ensures.value ∙ ap option_copied c.in-Some.is) c.with.ensures (h x))
    c.put.ensures

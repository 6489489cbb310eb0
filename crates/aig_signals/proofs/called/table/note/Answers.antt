use Rattle.std.proofs.Common.{◌∙◌, ℕ, List, Option, Some, sym, ap}
use Rattle.std.specs.Prelude.{if◌then◌else◌}
use Rattle.std.specs.Str.{bytes_eq}
use Rattle.std.proofs.lemmas.Result.{on_ok_weaker}
use Rattle.indexmap.specs.IndexMap.{get_by}
use Rattle.aig_signals.specs.Lookup.{alone}
use Rattle.aig_signals.proofs.CalledLemmas.{not_wanted, put_wanted}
use Rattle.aig_signals.proofs.called.table.note.Goals as goal

pub returns-then-not-wants : goal.returns-then-not-wants
returns-then-not-wants c x =
    not_wanted (λ y. get_by (λ key. bytes_eq y key.items) c.args.table.now) c.args.name.now x (Some (alone c.args.literal))
    (sym c.wants.ensures ∙ c.if-not-wants.true)

pub returns : goal.returns
returns c =
    on_ok_weaker c.put.result
    (λ h x. put_wanted (λ y. get_by (λ key. bytes_eq y key.items) c.args.table.now) c.args.name.now x (Some (alone c.args.literal)) _
    (sym c.wants.ensures ∙ c.if-not-wants.false)
    (h x ∙ ap (λ (found : Option (List ℕ)). if bytes_eq x c.args.name.now then Some found else get_by (λ key. bytes_eq x key.items) c.args.table.now)
    c.in_ok-literals.ensures))
    c.put.ensures

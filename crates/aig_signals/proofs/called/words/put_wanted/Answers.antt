use Rattle.std.proofs.Common.{List, Some, ap, ◌∙◌}
use Rattle.std.specs.Prelude.{if◌then◌else◌}
use Rattle.std.specs.Str.{bytes_eq}
use Rattle.std.proofs.lemmas.Result.{on_ok_weaker}
use Rattle.indexmap.specs.IndexMap.{get_by}
use Rattle.aig_signals.specs.declared.bits.WordBit.{WordBit}
use Rattle.aig_signals.proofs.called.words.put_wanted.Goals as goal

pub returns : goal.returns
returns c =
    on_ok_weaker c.put.result
    (λ h x. h x ∙ ap (λ (bits : List WordBit). if bytes_eq x c.args.name.now then Some bits else get_by (λ key. bytes_eq x key.items) c.args.table.now)
    c.new.ensures)
    c.put.ensures

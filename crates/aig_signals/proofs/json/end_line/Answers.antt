use Rattle.std.proofs.Common.{[], ◌∷◌, ◌∙◌}
use Rattle.aig_signals.specs.Json.{section_objects}
use Rattle.aig_signals.proofs.JsonLemmas.{array_whole}
use Rattle.aig_signals.proofs.json.end_line.Goals as goal

pub returns-clause-text : goal.returns-clause-text
returns-clause-text c =
    array_whole c.args.text.now.items c.push_objects.new.text.items c.push_objects-2.new.text.items c.open_array.new.text.items
    c.extend_from_slice.new.self.items c.len-before.result (section_objects c.args.naming.now.inputs)
    (section_objects c.args.naming.now.latches) (125 ∷ 10 ∷ []) (c.len-before.ensures ∙ c.args.text.now.ok.0) c.in_ok-push_objects.ensures.text
    c.in_ok-push_objects-2.ensures.text c.in_ok-open_array.ensures c.in_ok-extend_from_slice.ensures.items

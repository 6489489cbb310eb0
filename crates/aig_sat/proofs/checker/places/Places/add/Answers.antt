use Rattle.std.proofs.Common.{◌∙◌}
use Rattle.aig_sat.proofs.checking.PlacesLemmas.{added_kept, added_last}
use Rattle.aig_sat.proofs.checker.places.Places.add.Goals as goal

pub returns-clause-kept : goal.returns-clause-kept
returns-clause-kept c =
    added_kept c.args.self.now.heads.items c.args.self.now.links.items c.push.new.self.items
    (record { place = c.args.place; next = c.index-next.result.now }) c.list_of-list.result c.len-number.result (record {
      last = c.len-number.ensures ∙ c.args.self.now.links.ok.0;
      items = c.in_ok-push.ensures.items;
      inside = c.list_of-list.ensures.inside;
      next = c.index-next.ensures;
    })

pub returns-clause-added : goal.returns-clause-added
returns-clause-added c =
    added_last c.args.self.now.heads.items c.args.self.now.links.items c.push.new.self.items
    (record { place = c.args.place; next = c.index-next.result.now }) c.list_of-list.result c.len-number.result c.args.literal
    (record {
      last = c.len-number.ensures ∙ c.args.self.now.links.ok.0;
      items = c.in_ok-push.ensures.items;
      inside = c.list_of-list.ensures.inside;
      next = c.index-next.ensures;
    })
    c.list_of-list.ensures.is

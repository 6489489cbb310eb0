use Rattle.aig_sat.proofs.checking.PlacesLemmas.{reading_first, reading_last, reading_more}
use Rattle.aig_sat.proofs.checker.places.Places.find.Goals as goal

pub loop-init : goal.loop-init
loop-init c =
    reading_first c.args.self.now.heads.items c.args.self.now.links.items c.clear.new.self.items c.args.literal
    c.list_of.result c.index-number.result.now c.list_of.ensures.is c.list_of.ensures.inside c.index-number.ensures

pub returns-in_default : goal.returns-in_default
returns-in_default c p h =
    reading_last c.args.self.now.links.items c.deref.result.now c.loop.found.items c.loop.number c.deref.ensures.value
    c.in_default.ensures.lookup.3 p (c.loop.invariant p h)

pub loop-preserved : goal.loop-preserved
loop-preserved c p h =
    let at = c.in-Some.ensures.lookup in
    reading_more c.args.self.now.links.items c.deref.result.now c.loop.found.items c.push.new.self.items c.loop.number
    c.in-Some.link.now c.deref.ensures.value at.3.0 at.1 c.in_ok-push.ensures.items p (c.loop.invariant p h)

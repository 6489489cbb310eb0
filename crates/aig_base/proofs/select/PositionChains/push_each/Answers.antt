use Rattle.std.proofs.Common.{◌≡◌, ◌<◌, [], ◌∷◌, ◌++◌, length, get_or, ap, subst, ◌∙◌, arith, Contains}
use Rattle.std.specs.Map.{keys_of}
use Rattle.std.proofs.lemmas.List.{get_or_read}
use Rattle.aig_parts.specs.declared.symbols.Kind.{Kind}
use Rattle.aig_parts.specs.SymbolPlaces.{Key}
use Rattle.aig_base.specs.Selected.{places_from}
use Rattle.aig_base.proofs.selections.Walks.{entry_at, walk_more, walk_end}
use Rattle.aig_base.proofs.select.PositionChains.push_each.Goals as goal

pub push-requires : goal.push-requires
push-requires c =
    let places = places_from 0 c.args.self.now.numbers.now c.args.number in
    let lt : c.loop-place.place < length c.args.self.now.next.items = omega (arith, c.loop-place-test.true, c.len.ensures) in
    let step = walk_more c.args.into c.args.self.now.next.items places c.args.name.now c.args.list.now c.loop-place.list
    c.loop-place.place lt c.requires.fresh c.loop-place.invariant in
    λ h. step.fresh (subst (λ (k : Kind). let e : Key = (k, c.loop-place.place) in Contains (keys_of c.loop-place.list) e) c.kind_of.ensures h)

pub loop-place-smaller : goal.loop-place-smaller
loop-place-smaller c =
    let next = c.args.self.now.next.items in
    let places = places_from 0 c.args.self.now.numbers.now c.args.number in
    let at = c.loop-place.place in
    let lt : at < length next = omega (arith, c.loop-place-test.true, c.len.ensures) in
    let step = walk_more c.args.into next places c.args.name.now c.args.list.now c.loop-place.list at lt c.requires.fresh
    c.loop-place.invariant in
    let is : c.index-place-in-loop-place.result.now ≡ get_or next at 0 = get_or_read next at _ lt c.index-place-in-loop-place.ensures 0 in
    omega (arith, lt, step.rises, is)

pub loop-place-preserved : goal.loop-place-preserved
loop-place-preserved c =
    let next = c.args.self.now.next.items in
    let places = places_from 0 c.args.self.now.numbers.now c.args.number in
    let at = c.loop-place.place in
    let lt : at < length next = omega (arith, c.loop-place-test.true, c.len.ensures) in
    let step = walk_more c.args.into next places c.args.name.now c.args.list.now c.loop-place.list at lt c.requires.fresh
    c.loop-place.invariant in
    let is : c.index-place-in-loop-place.result.now ≡ get_or next at 0 = get_or_read next at _ lt c.index-place-in-loop-place.ensures 0 in
    let list : c.push.new.self ≡ c.loop-place.list ++ (entry_at c.args.into at, c.args.name.now) ∷ [] =
    c.in_ok-push.ensures.ok
    ∙ ap (λ (k : Kind). c.loop-place.list ++ ((k, at), c.args.name.now) ∷ []) c.kind_of.ensures in
    rw (list, is) step.walked

pub returns : goal.returns
returns c =
    let places = places_from 0 c.args.self.now.numbers.now c.args.number in
    walk_end c.args.into c.args.self.now.next.items places c.args.name.now c.args.list.now c.loop-place.list c.loop-place.place
    (omega (arith, c.loop-place-test.false, c.len.ensures)) c.loop-place.invariant

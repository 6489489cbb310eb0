use Rattle.std.proofs.Common.{◌≡◌, ℕ, ◌+◌, ◌-◌, ◌<◌, length, get_or, drop, refl, ◌∙◌, subst, arith}
use Rattle.std.proofs.lemmas.List.{length-set}
use Rattle.std.proofs.lemmas.List.Elements.{All-get_or}
use Rattle.aig_base.specs.state.PropertyPlaces.{ArePlacesFrom}
use Rattle.aig_base.proofs.selections.PropertyChains.{link_none, link_more, link_all}
use Rattle.aig_base.proofs.select.link.Goals as goal

pub loop-place-init : goal.loop-place-init
loop-place-init c = record {
  within = omega arith;
  size = c.requires.next;
  count = refl;
  places = link_none c.args.numbers.now c.args.first.now c.args.next.now (length c.args.numbers.now) refl c.requires.first c.requires.next;
}

pub loop-place-preserved : goal.loop-place-preserved
loop-place-preserved c =
    let numbers = c.args.numbers.now in
    let v = c.loop-place.invariant in
    let i : ℕ = c.loop-place.place - 1 in
    let same : c.loop-place.place ≡ i + 1 = omega arith in
    let lt : i < length numbers = omega (arith, v.within) in
    let within : i < length c.loop-place.next = omega (arith, lt, v.size) in
    let below : get_or numbers i 0 < length c.loop-place.first =
    omega (arith, All-get_or (λ p. p < length c.args.first.now) numbers i 0 lt c.requires.numbers, v.count) in
    record {
      within = omega (arith, v.within);
      size = length-set c.loop-place.next i (get_or c.loop-place.first (get_or numbers i 0) 0) ∙ v.size;
      count = length-set c.loop-place.first (get_or numbers i 0) i ∙ v.count;
      places = link_more numbers c.loop-place.first c.loop-place.next i (get_or numbers i 0) lt within refl below
          (subst (λ k. ArePlacesFrom k (drop k numbers) c.loop-place.first c.loop-place.next) same v.places);
    }

pub returns : goal.returns
returns c =
    link_all c.args.numbers.now c.loop-place.first c.loop-place.next c.loop-place.place (omega (arith, c.loop-place-test.false))
    c.loop-place.invariant.size c.loop-place.invariant.places

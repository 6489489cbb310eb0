use Rattle.std.proofs.Common.{List, subst}
use Rattle.std.specs.Prelude.{All}
use Rattle.std.proofs.lemmas.List.Elements.{All-head, All-tail}
use Rattle.aig_parts.specs.declared.symbols.places.Place.{Place}
use Rattle.aig_parts.specs.SymbolPlaces.{Key}
use Rattle.aig_parts.specs.state.NamedEntries.{IsPlaceIn}
use Rattle.aig_parts.proofs.symbols.SymbolIterIterator.next.Goals as goal

pub name_at-requires-clause-ordered : goal.name_at-requires-clause-ordered
name_at-requires-clause-ordered c =
    let P = IsPlaceIn c.self.inside.text.now in
    (All-head P (c.in_ok-entry.entry.now, c.in_ok-entry.place) c.next.new.self
    (subst (λ (es : List (Key × Place)). All P es) c.in_ok-entry.ensures.some c.self.invariant)).0

pub name_at-requires-clause-within : goal.name_at-requires-clause-within
name_at-requires-clause-within c =
    let P = IsPlaceIn c.self.inside.text.now in
    (All-head P (c.in_ok-entry.entry.now, c.in_ok-entry.place) c.next.new.self
    (subst (λ (es : List (Key × Place)). All P es) c.in_ok-entry.ensures.some c.self.invariant)).1

pub invariant_of-self-2 : goal.invariant_of-self-2
invariant_of-self-2 c =
    let P = IsPlaceIn c.self.inside.text.now in
    All-tail P (c.in_ok-entry.entry.now, c.in_ok-entry.place) c.next.new.self
    (subst (λ (es : List (Key × Place)). All P es) c.in_ok-entry.ensures.some c.self.invariant)

use Rattle.std.proofs.Common.{inl, inr, List, Contains, Option, subst, sym}
use Rattle.std.specs.Prelude.{IsSome}
use Rattle.std.specs.Map.{keys_of}
use Rattle.std.proofs.lemmas.Bool.{false≢true}
use Rattle.std.proofs.lemmas.Map.Views.{hash_map_contains_key_iff}
use Rattle.aig_parts.specs.declared.symbols.places.Place.{Place}
use Rattle.aig_parts.specs.SymbolPlaces.{Key}
use Rattle.aig_parts.specs.state.SymbolTable.{Table}
use Rattle.aig_parts.proofs.SymbolKeys.{key_eq, key_same, key_laws}
use Rattle.aig_parts.proofs.TableLemmas.{among_others, key_among}
use Rattle.aig_parts.proofs.symbols.table.SymbolTable.find.Goals as goal

pub returns-in-Some-get-clause-some : goal.returns-in-Some-get-clause-some
returns-in-Some-get-clause-some c =
    subst (λ (t : Table). Contains t.entries (c.args.entry, c.in-Some-get.place.now)) c.self.view_is
    (among_others c.self.inside.listed.items c.self.inside.others.entries c.args.entry c.in-Some-get.place.now
    (sym c.in-Some-get.ensures.value))

pub returns-in-None-get-clause-none : goal.returns-in-None-get-clause-none
returns-in-None-get-clause-none c named =
    let has = hash_map_contains_key_iff {eq = key_eq} key_laws (λ x y. (key_same x y).0) c.self.inside.others c.args.entry in
    let whole = subst (λ (t : Table). Contains (keys_of t.entries) c.args.entry) (sym c.self.view_is) named in
    elim (key_among c.self.inside.listed.items c.self.inside.others.entries c.args.entry whole) [
      | inl first ↦ c.in-None.ensures.none (subst (λ (es : List (Key × Place)). Contains (keys_of es) c.args.entry) (sym c.deref.ensures.value) first)
      | inr other ↦ false≢true (subst (λ (o : Option Place). IsSome o) (sym c.in-None-get.ensures.value) (has.1 other))
    ]

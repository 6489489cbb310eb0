use Rattle.std.proofs.Common.{List, ℕ, ◌≤◌, length, Contains, subst, sym, ap, ◌∙◌}
use Rattle.std.specs.Map.{keys_of}
use Rattle.aig_parts.specs.SymbolPlaces.{Key}
use Rattle.aig_parts.proofs.SymbolLemmas.{keys_in, name_found}
use Rattle.aig_parts.proofs.symbols.Symbols.get.Goals as goal

pub name_at-requires-clause-ordered : goal.name_at-requires-clause-ordered
name_at-requires-clause-ordered c =
    (name_found c.self.inside.text.items c.self.inside.places.entries (c.args.kind, c.args.position) c.in_ok-place.place
    c.in_ok-place.ensures.some c.self.invariant).0.0

pub name_at-requires-clause-within : goal.name_at-requires-clause-within
name_at-requires-clause-within c =
    subst (λ (t : List ℕ). c.in_ok-place.place.end ≤ length t) (sym c.as_slice.ensures.value)
    (name_found c.self.inside.text.items c.self.inside.places.entries (c.args.kind, c.args.position) c.in_ok-place.place
    c.in_ok-place.ensures.some c.self.invariant).0.1

pub returns-clause-some : goal.returns-clause-some
returns-clause-some c =
    rw (c.name_at.ensures, c.as_slice.ensures.value, ← c.self.view_is)
    (name_found c.self.inside.text.items c.self.inside.places.entries (c.args.kind, c.args.position) c.in_ok-place.place
    c.in_ok-place.ensures.some c.self.invariant).1

pub returns-in_err-place-clause-none : goal.returns-in_err-place-clause-none
returns-in_err-place-clause-none c =
    let none = c.in_err-place.ensures.none in
    let keys = ap keys_of (sym c.self.view_is) ∙ keys_in c.self.inside.text.items c.self.inside.places.entries in
    rw c.from_residual.ensures
    (λ named. none (subst (λ (ks : List Key). Contains ks (c.args.kind, c.args.position)) keys named))

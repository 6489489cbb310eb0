use Rattle.std.proofs.Common.{◌∙◌, sym, subst, ℕ, List, ◌∷◌, ◌++◌, [], Contains, true≢false, ap}
use Rattle.std.specs.Prelude.{All}
use Rattle.std.specs.Map.{keys_of}
use Rattle.aig_bytes.proofs.Results.{on_err}
use Rattle.aig_parts.specs.declared.symbols.places.Place.{Place}
use Rattle.aig_parts.specs.SymbolPlaces.{Key, symbols_in}
use Rattle.aig_parts.specs.state.NamedEntries.{IsPlaceIn}
use Rattle.aig_parts.proofs.SymbolLemmas.{keys_in, symbols_stay, symbol_more, place_more}
use Rattle.aig_parts.proofs.symbols.Symbols.insert.Goals as goal

pub push-requires : goal.push-requires
push-requires c =
    let lacks : Contains (keys_of c.args.self.now) (c.args.kind, c.args.position) → ⊥ =
    λ h. true≢false (sym (c.if-contains.ensures.1 h)) in
    let keys = ap keys_of (sym c.self.view_is) ∙ keys_in c.self.inside.text.items c.self.inside.places.entries in
    subst (λ (ks : List Key). Contains ks (c.args.kind, c.args.position) → ⊥) keys lacks

pub returns-clause-fresh : goal.returns-clause-fresh
returns-clause-fresh c _ =
    let key : Key = (c.args.kind, c.args.position) in
    let es = c.self.inside.places.entries in
    let text = c.self.inside.text.items in
    let is = c.in_ok-place.ensures.ok ∙ ap (λ (bs : List ℕ). text ++ bs) c.as_slice.ensures in
    ap (symbols_in c.put_name.new.text.items) c.in_ok-push.ensures.ok
    ∙ symbol_more text c.args.name c.put_name.new.text.items es key c.in_ok-place.place c.self.invariant is
    c.in_ok-place.ensures.place.0 c.in_ok-place.ensures.place.1
    ∙ ap (λ (all : List (Key × List ℕ)). all ++ (key, c.args.name) ∷ []) c.self.view_is

pub returns-in_err-push-clause-err : goal.returns-in_err-push-clause-err
returns-in_err-push-clause-err c =
    let text = c.self.inside.text.items in
    on_err c.from_residual-in_err-push.result
    (ap (symbols_in c.put_name.new.text.items) c.in_err-push.ensures.err
    ∙ ap (λ (t : List ℕ). symbols_in t c.self.inside.places.entries) c.in_ok-place.ensures.ok
    ∙ symbols_stay text c.as_slice.result.now c.self.inside.places.entries c.self.invariant ∙ c.self.view_is)

pub invariant_of-self-2 : goal.invariant_of-self-2
invariant_of-self-2 c =
    let key : Key = (c.args.kind, c.args.position) in
    let es = c.self.inside.places.entries in
    let text = c.self.inside.text.items in
    subst (λ (xs : List (Key × Place)). All (IsPlaceIn c.put_name.new.text.items) xs) (sym c.in_ok-push.ensures.ok)
    (place_more text c.as_slice.result.now c.put_name.new.text.items es key c.in_ok-place.place c.self.invariant
    c.in_ok-place.ensures.ok c.in_ok-place.ensures.place.0 c.in_ok-place.ensures.place.1)

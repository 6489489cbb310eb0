use Rattle.std.proofs.Common.{◌≡◌, ◌∙◌, refl, sym, subst, inl, inr, true, false, ℕ, List, ◌∷◌, ◌++◌, [], Contains, ap}
use Rattle.std.specs.Map.{keys_of}
use Rattle.std.proofs.lemmas.Bool.{true≢false}
use Rattle.aig_bytes.proofs.Results.{on_err}
use Rattle.aig_parts.specs.declared.symbols.places.Place.{Place}
use Rattle.aig_parts.specs.SymbolPlaces.{Key, symbols_in}
use Rattle.aig_parts.specs.state.NamedEntries.{AreNamedEntries, IsMarkedEntry}
use Rattle.aig_parts.proofs.SymbolLemmas.{keys_in, symbols_stay, symbol_more, listed_longer, listed_more}
use Rattle.aig_parts.proofs.symbols.list.SymbolList.insert.Goals as goal

pub invariant_of-self-in_err-insert : goal.invariant_of-self-in_err-insert
invariant_of-self-in_err-insert c =
    let inside = c.self.inside in
    subst (λ (es : List (Key × Place)). AreNamedEntries c.insert.new.self es c.put_name.new.text.items)
    (sym c.in_ok-reserve.ensures.items)
    (listed_longer inside.named c.insert.new.self inside.entries.items inside.text.items c.put_name.new.text.items
    c.self.invariant c.args.name.now c.in_ok-place.ensures.ok c.in_err-insert.ensures.err)

pub returns-then-not-branch-clause-named : goal.returns-then-not-branch-clause-named
returns-then-not-branch-clause-named c = λ e.
    let inside = c.self.inside in
    ap (symbols_in c.put_name.new.text.items) c.in_ok-reserve.ensures.items
    ∙ ap (λ (t : List ℕ). symbols_in t inside.entries.items) c.in_ok-place.ensures.ok
    ∙ symbols_stay inside.text.items c.args.name.now inside.entries.items c.self.invariant.places ∙ c.self.view_is

pub returns-then-not-branch-clause-when : goal.returns-then-not-branch-clause-when
returns-then-not-branch-clause-when c =
    let inside = c.self.inside in
    let key : Key = (c.args.kind, c.args.position) in
    let keys = ap keys_of (sym c.self.view_is) ∙ keys_in inside.text.items inside.entries.items in
    let there = (c.self.invariant.marks key).0 (c.in_ok-insert.ensures.had.0 c.if-not-branch.true) in
    (λ e. subst (λ (ks : List Key). Contains ks key) (sym keys) there, λ h. refl)

pub invariant_of-self-2 : goal.invariant_of-self-2
invariant_of-self-2 c =
    let inside = c.self.inside in
    let key : Key = (c.args.kind, c.args.position) in
    let fresh : Contains (keys_of inside.entries.items) key → ⊥ =
    λ h. let e = c.in_ok-insert.ensures.had.1 ((c.self.invariant.marks key).1 h) in absurd cc in
    let entries = c.push_reserved.ensures.items ∙ ap (λ (es : List (Key × Place)). es ++ (key, c.in_ok-place.place) ∷ []) c.in_ok-reserve.ensures.items in
    subst (λ (es : List (Key × Place)). AreNamedEntries c.insert.new.self es c.put_name.new.text.items) (sym entries)
    (listed_more inside.named c.insert.new.self inside.entries.items inside.text.items c.put_name.new.text.items
    c.self.invariant c.args.name.now key c.in_ok-place.place fresh c.in_ok-place.ensures.ok
    c.in_ok-place.ensures.place.0 c.in_ok-place.ensures.place.1 c.in_ok-insert.ensures.ok)

pub returns-clause-fresh : goal.returns-clause-fresh
returns-clause-fresh c = λ t.
    let inside = c.self.inside in
    let key : Key = (c.args.kind, c.args.position) in
    let entries = c.push_reserved.ensures.items ∙ ap (λ (es : List (Key × Place)). es ++ (key, c.in_ok-place.place) ∷ []) c.in_ok-reserve.ensures.items in
    ap (symbols_in c.put_name.new.text.items) entries
    ∙ symbol_more inside.text.items c.args.name.now c.put_name.new.text.items inside.entries.items key c.in_ok-place.place
    c.self.invariant.places c.in_ok-place.ensures.ok c.in_ok-place.ensures.place.0 c.in_ok-place.ensures.place.1
    ∙ ap (λ (all : List (Key × List ℕ)). all ++ (key, c.args.name.now) ∷ []) c.self.view_is

pub returns-clause-when : goal.returns-clause-when
returns-clause-when c =
    let inside = c.self.inside in
    let key : Key = (c.args.kind, c.args.position) in
    let keys = ap keys_of (sym c.self.view_is) ∙ keys_in inside.text.items inside.entries.items in (
      λ e. absurd (true≢false e),
      λ h. let e = c.in_ok-insert.ensures.had.1
          ((c.self.invariant.marks key).1 (subst (λ (ks : List Key). Contains ks key) keys h)) in absurd cc,
    )

pub returns-in_err-insert-clause-err : goal.returns-in_err-insert-clause-err
returns-in_err-insert-clause-err c =
    let inside = c.self.inside in
    on_err c.from_residual-in_err-insert.result
    (ap (symbols_in c.put_name.new.text.items) c.in_ok-reserve.ensures.items
    ∙ ap (λ (t : List ℕ). symbols_in t inside.entries.items) c.in_ok-place.ensures.ok
    ∙ symbols_stay inside.text.items c.args.name.now inside.entries.items c.self.invariant.places ∙ c.self.view_is)

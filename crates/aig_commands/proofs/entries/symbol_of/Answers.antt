use Rattle.std.proofs.Common.{ℕ, List, Contains, subst}
use Rattle.std.specs.Map.{keys_of}
use Rattle.aig_parts.specs.SymbolPlaces.{Key}
use Rattle.aig_unroll.proofs.SymbolLemmas.{name_found, name_missing}
use Rattle.aig_commands.proofs.entries.symbol_of.Goals as goal

pub returns-in-Some : goal.returns-in-Some
returns-in-Some c =
    let raw = c.args.circuit.now in
    let kind = c.args.kind in
    let p = c.args.position in
    let name = c.in-Some.name.now in
    name_found raw.symbols kind p name
    (subst (λ (s : List (Key × List ℕ)). Contains s ((kind, p), name)) c.symbols.ensures c.in-Some.ensures.some)
    c.facts.ensures.formed.names

pub returns-in-None : goal.returns-in-None
returns-in-None c =
    let raw = c.args.circuit.now in
    name_missing raw.symbols c.args.kind c.args.position
    (subst (λ (s : List (Key × List ℕ)). Contains (keys_of s) (c.args.kind, c.args.position) → ⊥) c.symbols.ensures
    c.in-None.ensures.none)

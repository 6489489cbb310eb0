use Rattle.std.proofs.Common.{ℕ, List, Contains, refl, sym, subst}
use Rattle.std.specs.Map.{keys_of}
use Rattle.aig_bytes.proofs.WriteLemmas.{writes_same, writes_none}
use Rattle.aig_parts.specs.declared.symbols.Kind.TheVariants as kinds
use Rattle.aig_parts.specs.SymbolPlaces.{Key}
use Rattle.aig_unroll.specs.InputMap.{is_input}
use Rattle.aig_unroll.proofs.InputMapLines.{only_input, symbol_found, symbol_missing}
use Rattle.aig_unroll.proofs.input_map.write_input_symbol.Goals as goal

pub returns-in-Some : goal.returns-in-Some
returns-in-Some g c =
    let raw = c.args.circuit.now in
    let p = c.args.input in
    let found = symbol_found is_input kinds.Input refl only_input raw.symbols p c.in-Some.symbol.now
    (subst (λ (s : List (Key × List ℕ)). Contains s ((kinds.Input, p), c.in-Some.symbol.now)) c.symbols.ensures c.in-Some.ensures.some)
    c.facts.ensures.formed.names in
    writes_same c.write_all.ensures (sym found)

pub returns-in-None : goal.returns-in-None
returns-in-None g c =
    let raw = c.args.circuit.now in
    let p = c.args.input in
    let missing = symbol_missing is_input kinds.Input refl only_input raw.symbols p
    (subst (λ (s : List (Key × List ℕ)). Contains (keys_of s) (kinds.Input, p) → ⊥) c.symbols.ensures c.in-None.ensures.none) in
    writes_same writes_none (sym missing)

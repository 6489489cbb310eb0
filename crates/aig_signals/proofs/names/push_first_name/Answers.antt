use Rattle.std.proofs.Common.{List, ℕ, ◌++◌, ap, ◌∙◌}
use Rattle.std.proofs.lemmas.Result.{on_ok_weaker}
use Rattle.aig_parts.specs.SymbolPlaces.{Key}
use Rattle.aig_names.specs.Names.{symbol_of}
use Rattle.aig_signals.proofs.NameLemmas.{first_some, first_none}
use Rattle.aig_signals.proofs.names.push_first_name.Goals as goal

pub returns-in-Some : goal.returns-in-Some
returns-in-Some c =
    on_ok_weaker c.push_readable.result
    (λ e. e ∙ ap (λ (xs : List ℕ). c.args.text.now.items ++ xs)
    (first_some c.args.circuit.now c.args.kind c.args.position c.symbol_at.result.now c.in-Some.first.word.now c.in-Some.first.rest.now
    (c.symbol_at.ensures ∙ ap (λ (s : List (Key × List ℕ)). symbol_of s c.args.kind c.args.position) c.symbols.ensures) c.in-Some.ensures.0))
    c.push_readable.ensures

pub returns-in-None : goal.returns-in-None
returns-in-None c =
    on_ok_weaker c.push_position.result
    (λ e. e ∙ ap (λ (xs : List ℕ). c.args.text.now.items ++ xs)
    (first_none c.args.circuit.now c.args.kind c.args.position c.symbol_at.result.now (c.symbol_at.ensures ∙ ap (λ (s : List (Key × List ℕ)). symbol_of s c.args.kind c.args.position) c.symbols.ensures) c.in-None.ensures))
    c.push_position.ensures

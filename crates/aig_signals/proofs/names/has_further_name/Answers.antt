use Rattle.std.proofs.Common.{List, ℕ, ap, ◌∙◌}
use Rattle.std.specs.List.{list_any}
use Rattle.std.specs.Str.{bytes_eq}
use Rattle.std.proofs.lemmas.Result.{IfOk-weaker}
use Rattle.aig_parts.specs.SymbolPlaces.{Key}
use Rattle.aig_names.specs.Names.{symbol_of}
use Rattle.aig_signals.proofs.NameLemmas.{further_some, further_none}
use Rattle.aig_signals.proofs.names.has_further_name.Goals as goal

pub returns-in-Some : goal.returns-in-Some
returns-in-Some c =
    IfOk-weaker c.has_word.result _ _
    (λ has e. e ∙ ap (λ (ws : List (List ℕ)). list_any (λ word. bytes_eq word c.args.name.now) ws)
    (further_some c.args.circuit.now c.args.kind c.args.position c.symbol_at.result.now c.in-Some.first.word.now c.in-Some.first.rest.now
    (c.symbol_at.ensures ∙ ap (λ (s : List (Key × List ℕ)). symbol_of s c.args.kind c.args.position) c.symbols.ensures) c.in-Some.ensures.0))
    c.has_word.ensures

pub returns-in-None : goal.returns-in-None
returns-in-None c =
    ap (λ (ws : List (List ℕ)). list_any (λ word. bytes_eq word c.args.name.now) ws)
    (further_none c.args.circuit.now c.args.kind c.args.position c.symbol_at.result.now (c.symbol_at.ensures ∙ ap (λ (s : List (Key × List ℕ)). symbol_of s c.args.kind c.args.position) c.symbols.ensures) c.in-None.ensures)

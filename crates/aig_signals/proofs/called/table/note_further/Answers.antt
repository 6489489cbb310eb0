use Rattle.std.proofs.Common.{◌∙◌, ℕ, List, sym, ap}
use Rattle.std.specs.List.{list_any}
use Rattle.std.specs.Str.{bytes_eq}
use Rattle.std.proofs.lemmas.Result.{on_ok_weaker}
use Rattle.indexmap.specs.IndexMap.{get_by}
use Rattle.aig_parts.specs.SymbolPlaces.{Key}
use Rattle.aig_names.specs.Names.{symbol_of}
use Rattle.aig_signals.specs.Names.{literal_of}
use Rattle.aig_signals.specs.state.Called.{if_named, or_found}
use Rattle.aig_signals.proofs.CalledLemmas.{found_nothing}
use Rattle.aig_signals.proofs.NameLemmas.{further_some, further_none}
use Rattle.aig_signals.proofs.called.table.note_further.Goals as goal

pub returns-in-Some : goal.returns-in-Some
returns-in-Some c =
    let raw = c.args.circuit.now in
    let further = further_some raw c.args.kind c.args.position c.symbol_at.result.now c.in-Some.first.word.now c.in-Some.first.rest.now
    (c.symbol_at.ensures ∙ ap (λ (s : List (Key × List ℕ)). symbol_of s c.args.kind c.args.position) c.symbols.ensures) c.in-Some.ensures.0 in
    on_ok_weaker c.note_words.result
    (λ h x. h x
    ∙ (λ i. or_found (if_named (list_any (λ word. bytes_eq word x) (further i)) (c.literal_at-literal.ensures i))
    (get_by (λ key. bytes_eq x key.items) c.args.table.now)))
    c.note_words.ensures

pub returns-in-None : goal.returns-in-None
returns-in-None c x =
    found_nothing _ _
    (ap (λ (ws : List (List ℕ)). if_named (list_any (λ word. bytes_eq word x) ws) (literal_of c.args.circuit.now c.args.kind c.args.position))
    (sym (further_none c.args.circuit.now c.args.kind c.args.position c.symbol_at.result.now
    (c.symbol_at.ensures ∙ ap (λ (s : List (Key × List ℕ)). symbol_of s c.args.kind c.args.position) c.symbols.ensures) c.in-None.ensures)))

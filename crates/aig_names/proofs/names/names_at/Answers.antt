use Rattle.std.proofs.Common.{ℕ, List, ap, ◌∙◌}
use Rattle.aig_names.specs.Names.{words, names_by}
use Rattle.aig_names.proofs.Words.{names_some, names_none}
use Rattle.aig_names.proofs.names.names_at.Goals as goal

pub returns-in-Some : goal.returns-in-Some
returns-in-Some c =
    names_some c.args.kind c.args.position (words c.symbol_at-symbol.result.now) c.in-Some.field-0.word.now (words c.in-Some.field-0.rest.now) c.in-Some.ensures.0
    ∙ ap (λ (s : List ℕ). names_by c.args.kind c.args.position (words s)) c.symbol_at-symbol.ensures

pub returns-in-None : goal.returns-in-None
returns-in-None c =
    names_none c.args.kind c.args.position (words c.symbol_at-symbol.result.now) c.in-None.ensures
    ∙ ap (λ (s : List ℕ). names_by c.args.kind c.args.position (words s)) c.symbol_at-symbol.ensures

use Rattle.std.proofs.Common.{ℕ, List, subst, Contains}
use Rattle.aig_parts.specs.SymbolPlaces.{Key}
use Rattle.aig_certificate.proofs.Marked.{marked_name, right_literal}
use Rattle.aig_certificate.proofs.mark.named_literal.Goals as goal

pub returns-in_default-word_of-clause-named : goal.returns-in_default-word_of-clause-named
returns-in_default-word_of-clause-named c word marked =
    let key : Key = (c.args.kind, c.args.position) in
    let name = c.in-Some.name.now in
    let here = subst (λ (ss : List (Key × List ℕ)). Contains ss (key, name)) c.symbols.ensures c.in-Some.ensures.some in
    c.in_default-word_of.ensures.none word (marked_name c.args.certificate.now c.facts.ensures.formed key name word here marked)

pub returns-in_default-word_of-clause-right : goal.returns-in_default-word_of-clause-right
returns-in_default-word_of-clause-right c (word, marked, never) =
    let key : Key = (c.args.kind, c.args.position) in
    let name = c.in-Some.name.now in
    let here = subst (λ (ss : List (Key × List ℕ)). Contains ss (key, name)) c.symbols.ensures c.in-Some.ensures.some in
    c.in_default-word_of.ensures.none word (marked_name c.args.certificate.now c.facts.ensures.formed key name word here marked)

pub returns-in-Some-literal_of-clause-right : goal.returns-in-Some-literal_of-clause-right
returns-in-Some-literal_of-clause-right c =
    let key : Key = (c.args.kind, c.args.position) in
    let name = c.in-Some.name.now in
    let here = subst (λ (ss : List (Key × List ℕ)). Contains ss (key, name)) c.symbols.ensures c.in-Some.ensures.some in
    right_literal c.args.model.now c.args.certificate.now c.facts.ensures.formed key name c.in-Some-word_of.word.now
    c.in-Some-literal_of.literal here c.in-Some-word_of.ensures.some c.in-Some-literal_of.ensures.spelled
    c.in-Some-literal_of.ensures.defined

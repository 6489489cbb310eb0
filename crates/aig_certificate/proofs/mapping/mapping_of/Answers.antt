use Rattle.std.proofs.Common.{ℕ, ◌<◌, option_copied, sym, ap, subst, ◌∙◌}
use Rattle.aig_certificate.specs.Mapping.{from_mapping}
use Rattle.aig_certificate.specs.state.Lines.{left, lines_of}
use Rattle.aig_certificate.proofs.MappingLines.{cut_off, less_left, mapping_here, mapping_later, no_mapping}
use Rattle.aig_certificate.proofs.mapping.mapping_of.Goals as goal

pub loop-rest-preserved : goal.loop-rest-preserved
loop-rest-preserved c =
    let after = option_copied c.cut.result.1 in
    sym (mapping_later c.cut.result.0.now (lines_of after) (sym c.starts_with.ensures.value ∙ c.if-starts_with.false))
    ∙ sym (ap from_mapping (cut_off (option_copied c.loop-rest.rest) c.in-Some.text.now c.cut.result.0.now after
    (ap option_copied c.in-Some.is) c.cut.ensures))
    ∙ c.loop-rest.invariant

pub loop-rest-smaller : goal.loop-rest-smaller
loop-rest-smaller c =
    subst (λ (n : ℕ). left (option_copied c.cut.result.1) < n) (sym (ap (λ o. left (option_copied o)) c.in-Some.is))
    (less_left c.in-Some.text.now c.cut.result.0.now (option_copied c.cut.result.1) c.cut.ensures)

pub returns-then-starts_with-clause-some : goal.returns-then-starts_with-clause-some
returns-then-starts_with-clause-some c =
    let after = option_copied c.cut.result.1 in
    sym c.loop-rest.invariant
    ∙ ap from_mapping (cut_off (option_copied c.loop-rest.rest) c.in-Some.text.now c.cut.result.0.now after
    (ap option_copied c.in-Some.is) c.cut.ensures)
    ∙ mapping_here c.cut.result.0.now (lines_of after) (sym c.starts_with.ensures.value ∙ c.if-starts_with.true)

pub returns-clause-none : goal.returns-clause-none
returns-clause-none c =
    sym c.loop-rest.invariant ∙ ap (λ o. from_mapping (lines_of (option_copied o))) c.in_default.is ∙ no_mapping

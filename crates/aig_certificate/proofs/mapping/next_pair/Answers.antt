use Rattle.std.proofs.Common.{ℕ, List, ◌∷◌, option_copied, ap, ◌∙◌}
use Rattle.aig_certificate.specs.Mapping.{pair_line}
use Rattle.aig_certificate.specs.state.Lines.{lines_of}
use Rattle.aig_certificate.proofs.MappingLines.{cut_off, no_lines, no_next}
use Rattle.aig_certificate.proofs.mapping.next_pair.Goals as goal

pub returns-in_default-clause-none : goal.returns-in_default-clause-none
returns-in_default-clause-none c is pair more right e =
    no_lines (option_copied c.args.lines) (ap option_copied c.in_default.is) (pair_line pair) more e

pub returns-in_err-pair-clause-none : goal.returns-in_err-pair-clause-none
returns-in_err-pair-clause-none c is pair more right e =
    let after = option_copied c.cut.result.1 in
    no_next c.args.model.now c.args.certificate.now (lines_of (option_copied c.args.lines)) c.cut.result.0.now (lines_of after)
    (cut_off (option_copied c.args.lines) c.in-Some.text.now c.cut.result.0.now after (ap option_copied c.in-Some.is)
    c.cut.ensures)
    (c.pair_of.ensures.none c.in_err-pair.was) pair more right e

pub returns-clause-some : goal.returns-clause-some
returns-clause-some c =
    let after = option_copied c.cut.result.1 in
    cut_off (option_copied c.args.lines) c.in-Some.text.now c.cut.result.0.now after (ap option_copied c.in-Some.is)
    c.cut.ensures
    ∙ ap (λ (l : List ℕ). l ∷ lines_of after) c.in_ok-pair.ensures.line

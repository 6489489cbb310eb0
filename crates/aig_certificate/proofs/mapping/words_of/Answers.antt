use Rattle.std.proofs.Common.{option_copied, ap, subst}
use Rattle.aig_certificate.specs.state.Lines.{IsCut}
use Rattle.aig_certificate.proofs.MappingLines.{none_cut}
use Rattle.aig_certificate.proofs.mapping.words_of.Goals as goal

pub returns-in_default-clause-none : goal.returns-in_default-clause-none
returns-in_default-clause-none c first second e =
    none_cut 32 c.args.line.now c.cut.result.0.now first second
    (subst (IsCut 32 c.args.line.now c.cut.result.0.now) (ap option_copied c.in_default.is) c.cut.ensures) e

pub returns-clause-some : goal.returns-clause-some
returns-clause-some c = subst (IsCut 32 c.args.line.now c.cut.result.0.now) (ap option_copied c.in-Some.is) c.cut.ensures

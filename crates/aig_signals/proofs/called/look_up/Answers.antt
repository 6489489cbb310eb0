use Rattle.std.proofs.Common.{All, IfNone, IfOk, IfSome, subst}
use Rattle.aig_parts.specs.Literal.{variable}
use Rattle.aig_parts.specs.declared.raw.Raw.{Raw}
use Rattle.aig_base.specs.Sections.{IsDefined}
use Rattle.aig_signals.specs.Lookup.{Unknown}
use Rattle.aig_signals.proofs.called.look_up.Goals as goal

pub returns-clause-unknown : goal.returns-clause-unknown
returns-clause-unknown c =
    subst (λ (r : Raw). IfOk c.look_up.result (λ found. IfNone found (Unknown r c.args.name.now))) c.of-names.ensures
    c.look_up.ensures.unknown

pub returns-clause-defined : goal.returns-clause-defined
returns-clause-defined c =
    subst (λ (r : Raw). IfOk c.look_up.result (λ found. IfSome found (All (λ l. IsDefined r (variable l))))) c.of-names.ensures
    c.look_up.ensures.defined

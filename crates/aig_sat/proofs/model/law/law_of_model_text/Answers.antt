use Rattle.std.proofs.Common.{List, ℕ, sym, subst}
use Rattle.aig_sat.specs.model.Named.{AreNamed}
use Rattle.aig_sat.proofs.models.NamedLemmas.{one_naming}
use Rattle.aig_sat.proofs.models.OneModel.{not_unknown, not_unsatisfiable, one_reading}
use Rattle.aig_sat.proofs.model.law.law_of_model_text.Goals as goal

pub returns-clause-literals : goal.returns-clause-literals
returns-clause-literals c variables text literals literals' small h k = one_reading small h k

pub returns-clause-values : goal.returns-clause-values
returns-clause-values c variables text values values' small (literals, h, named) (literals', k, named') =
    one_naming literals variables values values' named
    (subst (λ (ls : List ℕ). AreNamed ls variables values') (sym (one_reading small h k)) named')

pub returns-clause-unsatisfiable : goal.returns-clause-unsatisfiable
returns-clause-unsatisfiable c variables text literals small h k = not_unsatisfiable variables text literals small h k

pub returns-clause-unknown : goal.returns-clause-unknown
returns-clause-unknown c variables text literals small h k = not_unknown variables text literals small h k

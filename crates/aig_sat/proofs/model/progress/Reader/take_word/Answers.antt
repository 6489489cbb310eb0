use Rattle.std.proofs.Common.{◌≢◌, ◌++◌, ◌∷◌, [], ◌∙◌, ℕ, List, refl, sym, ap, subst}
use denote.Enum.Bare.{sameb}
use Rattle.std.proofs.lemmas.Bool.{false≢true}
use Rattle.aig_sat.specs.contracts.model.reader.Phase.{the_type}
use Rattle.aig_sat.specs.declared.model.reader.Phase.{Phase}
use Rattle.aig_sat.specs.declared.model.reader.Phase.TheVariants.{After}
use Rattle.aig_sat.specs.model.state.Reading.{HasRead}
use Rattle.aig_sat.proofs.models.ModelLemmas.{mark_read, end_read}
use Rattle.aig_sat.proofs.model.progress.Reader.take_word.Goals as goal

pub returns-then-is_mark-clause-goes_on : goal.returns-then-is_mark-clause-goes_on
returns-then-is_mark-clause-goes_on c is_one b space text literals begins h =
    let within : c.args.self.now.phase ≢ After = λ e.
    false≢true (sym c.if-eq.false ∙ c.eq.ensures ∙ ap (λ (p : Phase). sameb the_type p After) e) in (
      literals,
      subst (λ (xs : List ℕ). HasRead c.args.self.now (text ++ (xs ++ b ∷ [])) literals)
          (sym (c.is_mark.ensures.0 c.if-is_mark.true).1)
          (mark_read c.args.self.now b space text literals h (begins (c.is_mark.ensures.0 c.if-is_mark.true).0) within),
    )

pub returns-then-is_end-clause-goes_on : goal.returns-then-is_end-clause-goes_on
returns-then-is_end-clause-goes_on c is_one b space text literals begins h =
    let within : c.args.self.now.phase ≢ After = λ e.
    false≢true (sym c.if-eq.false ∙ c.eq.ensures ∙ ap (λ (p : Phase). sameb the_type p After) e) in (
      literals,
      rw (c.is_end.ensures.0 c.if-is_end.true) (end_read c.args.self.now b space text literals h _ within refl refl),
    )

pub returns-clause-goes_on : goal.returns-clause-goes_on
returns-clause-goes_on c is_one b space text literals begins h =
    c.take_literal.ensures.goes_on is_one b space text literals h

use Rattle.std.proofs.Common.{◌++◌, ◌∷◌, [], ◌∙◌, ◌<◌, ℕ, Contains, refl, sym, subst}
use Rattle.aig_parts.specs.Literal.{negation, variable}
use Rattle.aig_sat.specs.model.Named.{AreNamed}
use Rattle.aig_sat.proofs.models.ModelLemmas.{literal_read}
use Rattle.aig_sat.proofs.models.PieceLemmas.{below, one_number}
use Rattle.aig_sat.proofs.model.progress.Reader.take_literal.Goals as goal

pub returns-in-Some-clause-goes_on : goal.returns-in-Some-clause-goes_on
returns-in-Some-clause-goes_on c is_one b space text literals h =
    let l = c.in-Some.literal in (
      literals ++ l ∷ [],
      literal_read c.args.self.now b space text literals h _ c.args.word.now l c.requires refl
          c.name.ensures.length c.in-Some.ensures.spelled
          (subst (λ (n : ℕ). variable l < n) (sym c.args.self.now.count) c.in-Some.ensures.variable)
          (c.name.ensures.named is_one literals h.named),
    )

pub returns-in-Some-clause-refused : goal.returns-in-Some-clause-refused
returns-in-Some-clause-refused c is l lt e literals h =
    let read = c.in-Some.literal in
    let same = one_number read l (below c.args.self.now.variables read c.args.self.now.small c.in-Some.ensures.variable)
    (below c.args.self.now.variables l c.args.self.now.small lt) (sym c.in-Some.ensures.spelled ∙ e) in
    subst (λ (k : ℕ). Contains literals (negation k)) same
    (c.name.ensures.refused is literals
    (subst (λ (n : ℕ). AreNamed literals n c.args.self.now.values) (sym c.args.self.now.count) h))

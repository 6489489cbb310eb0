use Rattle.std.proofs.Common.{◌∙◌, ℕ, not, sym, ap, arith, subst}
use denote.Enum.Bare.{sameb}
use Rattle.std.proofs.lemmas.Bool.{false≢true}
use Rattle.aig_sat.specs.contracts.model.reader.Phase.{the_type}
use Rattle.aig_sat.specs.declared.model.reader.Phase.{Phase}
use Rattle.aig_sat.specs.declared.model.reader.Phase.TheVariants.{After}
use Rattle.aig_sat.specs.model.ModelText.{IsModelOf}
use Rattle.aig_sat.proofs.models.ModelLemmas.{only_memory, passed_fault}
use Rattle.aig_sat.proofs.models.RefusalLemmas.{has_ended}
use Rattle.aig_sat.proofs.model.reader.read_model.Goals as goal

pub returns-in_err-reader-clause-unsatisfiable : goal.returns-in_err-reader-clause-unsatisfiable
returns-in_err-reader-clause-unsatisfiable c is =
    let k = only_memory c.new.result _ (passed_fault c.new.result c.from_residual.result c.in_err-reader.field-0.0 _
    c.in_err-reader.was c.from_residual.ensures.1 is) c.new.ensures.memory in
    let never : ⊥ = cc in
    absurd never

pub returns-in_err-reader-clause-unknown : goal.returns-in_err-reader-clause-unknown
returns-in_err-reader-clause-unknown c is =
    let k = only_memory c.new.result _ (passed_fault c.new.result c.from_residual.result c.in_err-reader.field-0.0 _
    c.in_err-reader.was c.from_residual.ensures.1 is) c.new.ensures.memory in
    let never : ⊥ = cc in
    absurd never

pub returns-in_err-at-clause-refused : goal.returns-in_err-at-clause-refused
returns-in_err-at-clause-refused c place is values model =
    c.take.ensures.refused place
    (passed_fault c.take.result c.from_residual-in_err-at.result c.in_err-at.field-0.0 _ c.in_err-at.was
    c.from_residual-in_err-at.ensures.1 is)
    c.loop-at.invariant.read values
    (subst (λ (n : ℕ). IsModelOf n c.args.text.now values) (sym c.loop-at.invariant.count) model)

pub returns-then-ne-clause-refused : goal.returns-then-ne-clause-refused
returns-then-ne-clause-refused c place is values model =
    let ended = has_ended c.args.variables c.loop-at.reader c.args.text.now c.loop-at.at values c.requires
    (c.loop-at.reader.count ∙ c.loop-at.invariant.count) c.loop-at.invariant.read model (omega (arith, c.loop-at-test.false)) in
    false≢true (sym (ap (λ (p : Phase). not (sameb the_type p After)) ended) ∙ sym c.ne.ensures ∙ c.if-ne.true)

use Rattle.std.proofs.Common.{◌≡◌, sym, subst, ◌∙◌}
use Rattle.std.proofs.lemmas.Result.{err_from_is_err_and, IfOk-weaker}
use Rattle.std.proofs.lemmas.Bool.{false≢true}
use Rattle.aig_parts.specs.declared.raw.Raw.{Raw}
use Rattle.aig_parts.specs.Formed.{IsFormed}
use Rattle.aig_cut.specs.Cut.{IsCut}
use Rattle.aig_cut.specs.CutOf.{cut_of}
use Rattle.aig_cut.specs.Lines.{IsCutBy, IsOverLimit}
use Rattle.aig_cut.specs.state.Marks.{marked}
use Rattle.aig_cut.proofs.CutParts.{cut_formed}
use Rattle.aig_cut.proofs.CutsAre.{cut_of_circuit}
use Rattle.aig_cut.proofs.SameCuts.{as_named}
use Rattle.aig_cut.proofs.parts.cut.Goals as goal

pub check-requires : goal.check-requires
check-requires c =
    record {
      formed =
          subst (λ (r : Raw). IsFormed r) (sym c.in_ok-parts.ensures)
          (cut_formed (marked c.in_ok-marks.marks) c.args.circuit.now c.facts.ensures.formed
          (λ over. false≢true (sym c.if-is_over_limit.false
          ∙ c.is_over_limit.ensures.1 (subst IsOverLimit (sym c.in_ok-parts.ensures) over))));
    }

pub returns-then-is_over_limit-clause-refused : goal.returns-then-is_over_limit-clause-refused
returns-then-is_over_limit-clause-refused c =
    let raw = c.args.circuit.now in
    let (cuts, are, marks) = c.in_ok-marks.ensures.marks in
    let x : Raw = c.in_ok-parts.parts in (
      x,
      record { cuts = cuts; cuts_are = are; is = c.in_ok-parts.ensures ∙ as_named raw c.facts.ensures.sound cuts c.in_ok-marks.marks marks },
      c.is_over_limit.ensures.0 c.if-is_over_limit.true,
    )

pub returns-in-Ok-clause-by : goal.returns-in-Ok-clause-by
returns-in-Ok-clause-by c =
    let raw = c.args.circuit.now in
    let (cuts, are, marks) = c.in_ok-marks.ensures.marks in
    record {
      cuts = cuts;
      cuts_are = are;
      is = c.in-Ok.ensures.parts ∙ c.in_ok-parts.ensures ∙ as_named raw c.facts.ensures.sound cuts c.in_ok-marks.marks marks;
    }

pub returns-in-Ok-clause-cut : goal.returns-in-Ok-clause-cut
returns-in-Ok-clause-cut c =
    let raw = c.args.circuit.now in
    subst (λ (x : Raw). IsCut raw x) (sym (c.in-Ok.ensures.parts ∙ c.in_ok-parts.ensures))
    (cut_of_circuit (marked c.in_ok-marks.marks) raw c.facts.ensures)

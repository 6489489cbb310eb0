use Rattle.std.proofs.Common.{◌≡◌, length, ap, subst, ◌∙◌}
use Rattle.std.proofs.lemmas.Result.{err_from_is_err_and}
use Rattle.aig_parts.specs.declared.symbols.Kind.TheVariants.{Input, Latch as Latches}
use Rattle.aig_certificate.specs.state.Marks.{AreRight}
use Rattle.aig_certificate.specs.state.Said.{sharing_of}
use Rattle.aig_certificate.proofs.Marked.{none_wrong, refuses_input, refuses_latch, refuses_sharing}
use Rattle.aig_certificate.proofs.SaidPairs.{right_mapping}
use Rattle.aig_certificate.proofs.shared.SharedEntries.of.Goals as goal

pub returns-in_err-sharing-clause-refused : goal.returns-in_err-sharing-clause-refused
returns-in_err-sharing-clause-refused c =
    let p = err_from_is_err_and c.from_residual.result c.from_residual.ensures.1 in
    rw (p.1, p.2) (refuses_sharing c.args.model.now c.args.certificate.now c.in_err-sharing.field-0.0
    c.in_err-sharing.ensures.refused)

pub returns-in_err-inputs-clause-refused : goal.returns-in_err-inputs-clause-refused
returns-in_err-inputs-clause-refused c =
    let model = c.args.model.now in
    let certificate = c.args.certificate.now in
    let p = err_from_is_err_and c.from_residual-in_err-inputs.result c.from_residual-in_err-inputs.ensures.1 in
    rw (p.1, p.2) (refuses_input model certificate
    (right_mapping model certificate (sharing_of c.in_ok-sharing.sharing) c.in_ok-sharing.ensures.sharing.is)
    c.in_err-inputs.field-0.0 c.in_err-inputs.ensures.wrong)

pub returns-in_err-latches-clause-refused : goal.returns-in_err-latches-clause-refused
returns-in_err-latches-clause-refused c =
    let model = c.args.model.now in
    let certificate = c.args.certificate.now in
    let p = err_from_is_err_and c.from_residual-in_err-latches.result c.from_residual-in_err-latches.ensures.1 in
    let inputs : length c.inputs.result.now ≡ length certificate.inputs = ap length c.inputs.ensures in
    rw (p.1, p.2) (refuses_latch model certificate
    (right_mapping model certificate (sharing_of c.in_ok-sharing.sharing) c.in_ok-sharing.ensures.sharing.is)
    c.facts.ensures.formed
    (subst (λ n. AreRight model certificate Input n) inputs c.in_ok-inputs.ensures.right)
    c.in_err-latches.field-0.0 c.in_err-latches.ensures.wrong)

pub returns-clause-meanings : goal.returns-clause-meanings
returns-clause-meanings c = record {
  input_count = c.in_ok-inputs.ensures.count ∙ ap length c.inputs.ensures;
  latch_count = c.in_ok-latches.ensures.count ∙ ap length c.latches.ensures;
  sharing = sharing_of c.in_ok-sharing.sharing;
  sharing_is = c.in_ok-sharing.ensures.sharing.is;
  inputs = c.in_ok-inputs.ensures.meanings;
  latches = c.in_ok-latches.ensures.meanings;
}

pub returns-clause-readable : goal.returns-clause-readable
returns-clause-readable c =
    let model = c.args.model.now in
    let certificate = c.args.certificate.now in
    let inputs : length c.inputs.result.now ≡ length certificate.inputs = ap length c.inputs.ensures in
    let latches : length c.latches.result.now ≡ length certificate.latches = ap length c.latches.ensures in
    record {
      mapping = right_mapping model certificate (sharing_of c.in_ok-sharing.sharing) c.in_ok-sharing.ensures.sharing.is;
      symbols = none_wrong model certificate c.facts.ensures.formed
          (subst (λ n. AreRight model certificate Input n) inputs c.in_ok-inputs.ensures.right)
          (subst (λ n. AreRight model certificate Latches n) latches c.in_ok-latches.ensures.right);
    }

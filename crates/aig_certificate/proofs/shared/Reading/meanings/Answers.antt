use Rattle.std.proofs.Common.{◌≡◌, subst, arith}
use Rattle.std.proofs.lemmas.List.{length-append}
use Rattle.std.proofs.lemmas.Result.{err_from_is_err_and}
use Rattle.aig_certificate.specs.state.Marks.{AreRight}
use Rattle.aig_certificate.specs.state.Said.{sharing_of}
use Rattle.aig_certificate.proofs.Marked.{meanings_more, right_more, first_wrong}
use Rattle.aig_certificate.proofs.shared.Reading.meanings.Goals as goal

pub loop-position-preserved : goal.loop-position-preserved
loop-position-preserved c =
    let model = c.args.self.now.model.now in
    let certificate = c.args.self.now.certificate.now in
    let v = c.loop-position.invariant in
    record {
      count = grind (arith, length-append, c.in_ok-push.ensures.ok, v.count);
      meanings = meanings_more model certificate (sharing_of c.args.self.now.sharing) c.args.kind c.loop-position.meanings c.push.new.self c.loop-position.position
          c.in_ok-meaning.meaning v.count c.in_ok-push.ensures.ok c.in_ok-meaning.ensures.meaning v.meanings;
      right = right_more model certificate c.args.kind c.loop-position.position c.in_ok-meaning.ensures.right v.right;
    }

pub returns-in_err-meaning-clause-wrong : goal.returns-in_err-meaning-clause-wrong
returns-in_err-meaning-clause-wrong c =
    let p = err_from_is_err_and c.from_residual.result c.from_residual.ensures.1 in
    rw (p.1, p.2) (first_wrong c.args.self.now.model.now c.args.self.now.certificate.now c.args.kind c.loop-position.position
    c.in_err-meaning.field-0.0 c.in_err-meaning.ensures.fault c.in_err-meaning.ensures.wrong c.loop-position.invariant.right)

pub returns-clause-right : goal.returns-clause-right
returns-clause-right c =
    let end : c.loop-position.position ≡ c.args.count = omega (arith, c.loop-position-test.false, c.loop-position.auto.position-end) in
    subst (λ n. AreRight c.args.self.now.model.now c.args.self.now.certificate.now c.args.kind n) end c.loop-position.invariant.right

use Rattle.std.proofs.Common.{sym, ◌∙◌, arith, refl}
use Rattle.std.proofs.lemmas.Result.{err_from_is_err_and}
use Rattle.aig_format.proofs.Keeping.{keeps_then, keeps_reads, err_reads}
use Rattle.aig_format.proofs.Steps.{digits_on, digits_over, digits_done, digit_fails}
use Rattle.aig_format.proofs.reader.token.digits.Goals as goal

pub returns-in_err-d-clause-reads : goal.returns-in_err-d-clause-reads
returns-in_err-d-clause-reads g c =
    let p = err_from_is_err_and c.from_residual.result c.from_residual.ensures.1 in
    rw (p.1, p.2)
    (err_reads c.loop-d.invariant.keeps c.in_err-d.ensures.reads (λ reported fails. digit_fails _ (g.S.Source.left c.loop-d.s) _ fails))

pub returns-then-value-bound-clause-reads : goal.returns-then-value-bound-clause-reads
returns-then-value-bound-clause-reads g c =
    let i = c.loop-d.invariant in
    keeps_reads (keeps_then i.keeps c.in_ok-d.ensures.reads) (λ n. refl) (λ reported.
    sym (i.bytes reported)
    ∙ digits_over c.args.bound c.loop-d.value (g.S.Source.left c.loop-d.s) c.in-Some.d
    (g.S.Source.left c.digit.new.s) (rw c.in-Some.is at (c.in_ok-d.ensures.reads.bytes (i.keeps.reported reported))) (omega arith))

pub loop-d-preserved : goal.loop-d-preserved
loop-d-preserved g c = record {
  some = omega arith;
  within = omega arith;
  bytes = λ reported.
      sym (digits_on c.args.bound c.loop-d.value (g.S.Source.left c.loop-d.s) c.in-Some.d
      (g.S.Source.left c.digit.new.s) (rw c.in-Some.is at (c.in_ok-d.ensures.reads.bytes (c.loop-d.invariant.keeps.reported reported))) (omega arith))
      ∙ c.loop-d.invariant.bytes reported;
  keeps = keeps_then c.loop-d.invariant.keeps c.in_ok-d.ensures.reads;
}

pub returns-clause-reads : goal.returns-clause-reads
returns-clause-reads g c =
    let i = c.loop-d.invariant in
    keeps_reads (keeps_then i.keeps c.in_ok-d.ensures.reads) (λ n. refl) (λ reported.
    sym (i.bytes reported)
    ∙ digits_done c.args.bound c.loop-d.value (g.S.Source.left c.loop-d.s) (g.S.Source.left c.digit.new.s)
    (rw c.in_default.is at (c.in_ok-d.ensures.reads.bytes (i.keeps.reported reported))))

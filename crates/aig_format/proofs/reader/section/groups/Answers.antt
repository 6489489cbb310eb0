use Rattle.std.proofs.Common.{refl}
use Rattle.std.proofs.lemmas.Result.{err_from_is_err_and}
use Rattle.aig_format.specs.state.ReadingSections.{groups_of_literals_at}
use Rattle.aig_format.proofs.Keeping.{keeps_then, keeps_reads, err_reads}
use Rattle.aig_format.proofs.SectionSteps.{groups_fail, groups_on, groups_done}
use Rattle.aig_format.proofs.Sizes.{sizes_more}
use Rattle.aig_format.proofs.reader.section.groups.Goals as goal

pub returns-in_err-literals-clause-reads : goal.returns-in_err-literals-clause-reads
returns-in_err-literals-clause-reads g c =
    let p = err_from_is_err_and c.from_residual.result c.from_residual.ensures.1 in
    rw (p.1, p.2)
    (err_reads c.loop-size.invariant.keeps c.in_err-literals.ensures.reads (λ reported fails.
    groups_fail _ c.loop-size.all c.args.sizes.now c.loop-size.size-index _ (g.S.Source.left c.loop-size.s) _ c.loop-size-test.true refl fails
    (c.loop-size.invariant.bytes reported)))

pub loop-size-preserved : goal.loop-size-preserved
loop-size-preserved g c = record {
  bytes = λ reported.
      rw c.in_ok-push.ensures.ok
      (groups_on c.loop-size.all c.args.sizes.now c.loop-size.size-index _
      (g.S.Source.left c.loop-size.s) c.in_ok-literals.literals (g.S.Source.left c.lines.new.s)
      (groups_of_literals_at c.args.sizes.now (g.S.Source.left c.args.s.now)) c.loop-size-test.true refl
      (c.in_ok-literals.ensures.reads.bytes (c.loop-size.invariant.keeps.reported reported)) (c.loop-size.invariant.bytes reported));
  sizes = rw c.in_ok-push.ensures.ok (sizes_more c.loop-size.all c.args.sizes.now c.loop-size.size-index c.in_ok-literals.literals _ c.loop-size-test.true c.loop-size.invariant.sizes c.in_ok-literals.ensures.count refl);
  keeps = keeps_then c.loop-size.invariant.keeps c.in_ok-literals.ensures.reads;
}

pub returns-clause-reads : goal.returns-clause-reads
returns-clause-reads g c = keeps_reads c.loop-size.invariant.keeps (λ n. refl)
    (λ reported. groups_done c.loop-size.all c.args.sizes.now c.loop-size.size-index (g.S.Source.left c.loop-size.s) _ c.loop-size-test.false
    (c.loop-size.invariant.bytes reported))

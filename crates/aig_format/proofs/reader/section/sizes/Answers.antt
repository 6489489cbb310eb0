use Rattle.std.proofs.Common.{◌∷◌, [], arith, refl, ap, length, length-append}
use Rattle.std.specs.Prelude.{sum}
use Rattle.std.proofs.lemmas.Result.{err_from_is_err_and}
use Rattle.aig_format.proofs.Keeping.{keeps_then, keeps_reads, err_reads}
use Rattle.aig_format.proofs.SectionSteps.{sizes_fail, sizes_over, sizes_end_fail, sizes_on, sizes_done}
use Rattle.aig_format.proofs.Sizes.{sum_push}
use Rattle.aig_format.proofs.reader.section.sizes.Goals as goal

pub returns-in_err-size-clause-reads : goal.returns-in_err-size-clause-reads
returns-in_err-size-clause-reads g c =
    let p = err_from_is_err_and c.from_residual.result c.from_residual.ensures.1 in
    rw (p.1, p.2)
    (err_reads c.loop.invariant.keeps c.in_err-size.ensures.reads (λ reported fails.
    sizes_fail _ c.loop.sizes.items c.args.count c.loop.counter c.loop.total (g.S.Source.left c.loop.s)
    _ c.loop-test.true fails (c.loop.invariant.bytes reported)))

pub returns-then-size-total-clause-reads : goal.returns-then-size-total-clause-reads
returns-then-size-total-clause-reads g c =
    let i = c.loop.invariant in
    keeps_reads (keeps_then i.keeps c.in_ok-size.ensures.reads) (λ n. refl) (λ reported.
    sizes_over c.loop.sizes.items c.args.count c.loop.counter c.loop.total (g.S.Source.left c.loop.s) c.in_ok-size.size
    (g.S.Source.left c.number.new.s) _ c.loop-test.true
    (c.in_ok-size.ensures.reads.bytes (i.keeps.reported reported)) (omega arith) (i.bytes reported))

pub returns-in_err-byte-clause-reads : goal.returns-in_err-byte-clause-reads
returns-in_err-byte-clause-reads g c =
    let p = err_from_is_err_and c.from_residual-in_err-byte.result c.from_residual-in_err-byte.ensures.1 in
    let i = c.loop.invariant in
    rw (p.1, p.2)
    (err_reads (keeps_then i.keeps c.in_ok-size.ensures.reads) c.in_err-byte.ensures.reads (λ reported fails.
    sizes_end_fail _ c.loop.sizes.items c.args.count c.loop.counter c.loop.total (g.S.Source.left c.loop.s)
    c.in_ok-size.size (g.S.Source.left c.number.new.s) _
    c.loop-test.true (c.in_ok-size.ensures.reads.bytes (i.keeps.reported reported)) (omega (arith, i.within)) fails (i.bytes reported)))

pub loop-preserved : goal.loop-preserved
loop-preserved g c = record {
  count = omega (arith, ap length c.in_ok-push.ensures.items, length-append c.loop.sizes.items (c.in_ok-size.size ∷ []), c.loop.invariant.count);
  sum = omega (arith, ap sum c.in_ok-push.ensures.items, sum_push c.loop.sizes.items c.in_ok-size.size, c.loop.invariant.sum);
  within = omega (arith, c.loop.invariant.within);
  bytes = λ reported. rw c.in_ok-push.ensures.items
      (sizes_on c.loop.sizes.items c.args.count c.loop.counter c.loop.total
      (g.S.Source.left c.loop.s) c.in_ok-size.size (g.S.Source.left c.number.new.s) c.in_ok-byte.field-0
      (g.S.Source.left c.byte.new.s) _ c.loop-test.true
      (c.in_ok-size.ensures.reads.bytes (c.loop.invariant.keeps.reported reported)) (omega (arith, c.loop.invariant.within))
      (c.in_ok-byte.ensures.reads.bytes ((keeps_then c.loop.invariant.keeps c.in_ok-size.ensures.reads).reported reported))
      (c.loop.invariant.bytes reported));
  keeps = keeps_then (keeps_then c.loop.invariant.keeps c.in_ok-size.ensures.reads) c.in_ok-byte.ensures.reads;
}

pub returns-clause-reads : goal.returns-clause-reads
returns-clause-reads g c = keeps_reads c.loop.invariant.keeps (λ n. refl)
    (λ reported. sizes_done c.loop.sizes.items c.args.count c.loop.counter c.loop.total (g.S.Source.left c.loop.s)
    _ c.loop-test.false (c.loop.invariant.bytes reported))

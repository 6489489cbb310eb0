use Rattle.std.proofs.Common.{◌≡◌, ℕ, ◌-◌, ◌+◌, ◌*◌, ◌∙◌, sym, ap, refl, rules, arith}
use Rattle.std.proofs.lemmas.Nat.{mul-le}
use Rattle.aig_format.proofs.Deltas.{number_first, number_cut, number_last, number_more, number_over, fits_worth}
use Rattle.aig_format.proofs.Deltas.{worth_more}
use Rattle.aig_format.proofs.Keeping.{keeps_step, keeps_reads}
use Rattle.aig_format.proofs.reader.delta.groups.Goals as goal

pub loop-k-init : goal.loop-k-init
loop-k-init g c = record {
  bytes = λ reported. number_first _;
  worth = omega arith;
  below = omega arith;
  keeps = record { reported = λ reported. reported; reader = refl; failures = refl; never_more = omega arith };
}

pub returns-in-None : goal.returns-in-None
returns-in-None g c =
    let e = c.in_ok-next.ensures in
    let kept = keeps_step c.loop-k.invariant.keeps e.keeps.reported e.keeps.reader e.keeps.failures e.keeps.never_more in
    record {
      reads = keeps_reads kept (λ n. refl) (λ reported.
          number_cut (4 - c.loop-k.k) c.loop-k.k c.loop-k.value c.loop-k.weight (g.S.Source.left c.loop-k.s)
          (g.S.Source.left c.next.new.self) _
          (rw c.in-None.is at (c.in_ok-next.ensures.bytes (c.loop-k.invariant.keeps.reported reported))) (c.loop-k.invariant.bytes reported));
    }

pub returns-then-is_spare : goal.returns-then-is_spare
returns-then-is_spare g c =
    let e = c.in_ok-next.ensures in
    let kept = keeps_step c.loop-k.invariant.keeps e.keeps.reported e.keeps.reader e.keeps.failures e.keeps.never_more in
    record {
      reads = keeps_reads kept (λ n. refl) (λ reported.
          number_last (4 - c.loop-k.k) c.loop-k.k c.loop-k.value c.loop-k.weight c.in-Some.byte (g.S.Source.left c.loop-k.s)
          (g.S.Source.left c.next.new.self) _ _ (omega (arith, c.loop-k-test.true))
          (rw c.in-Some.is at (c.in_ok-next.ensures.bytes (c.loop-k.invariant.keeps.reported reported))) c.if-byte-lt128.true
          (sym c.is_spare.ensures ∙ c.if-is_spare.true) (c.loop-k.invariant.bytes reported));
    }

pub overflow_mul-result : goal.overflow_mul-result
overflow_mul-result g c =
    let i = c.loop-k.invariant in
    omega (arith, fits_worth c.loop-k.weight c.loop-k.k c.in-Some.byte i.worth c.loop-k-test.true (omega (arith, c.if-byte-lt128.true)))

pub overflow_add-result : goal.overflow_add-result
overflow_add-result g c =
    let i = c.loop-k.invariant in
    let fits = fits_worth c.loop-k.weight c.loop-k.k c.in-Some.byte i.worth c.loop-k-test.true (omega (arith, c.if-byte-lt128.true)) in
    omega (arith, fits, i.below)

pub returns-then-byte-lt128 : goal.returns-then-byte-lt128
returns-then-byte-lt128 g c =
    let e = c.in_ok-next.ensures in
    let kept = keeps_step c.loop-k.invariant.keeps e.keeps.reported e.keeps.reader e.keeps.failures e.keeps.never_more in
    record {
      reads = keeps_reads kept (λ n. refl) (λ reported.
          number_last (4 - c.loop-k.k) c.loop-k.k c.loop-k.value c.loop-k.weight c.in-Some.byte (g.S.Source.left c.loop-k.s)
          (g.S.Source.left c.next.new.self) _ _ (omega (arith, c.loop-k-test.true))
          (rw c.in-Some.is at (c.in_ok-next.ensures.bytes (c.loop-k.invariant.keeps.reported reported))) c.if-byte-lt128.true
          (sym c.is_spare.ensures ∙ c.if-is_spare.false) (c.loop-k.invariant.bytes reported));
    }

pub overflow_mul-value : goal.overflow_mul-value
overflow_mul-value g c =
    let i = c.loop-k.invariant in
    omega (arith, fits_worth c.loop-k.weight c.loop-k.k (c.in-Some.byte - 128) i.worth c.loop-k-test.true (search rules))

pub overflow_add-value : goal.overflow_add-value
overflow_add-value g c =
    let i = c.loop-k.invariant in
    let fits = fits_worth c.loop-k.weight c.loop-k.k (c.in-Some.byte - 128) i.worth c.loop-k-test.true (search rules) in
    omega (arith, fits, i.below)

pub overflow_mul-weight : goal.overflow_mul-weight
overflow_mul-weight g c =
    omega (arith, fits_worth c.loop-k.weight c.loop-k.k 0 c.loop-k.invariant.worth c.loop-k-test.true (omega arith))

pub loop-k-preserved : goal.loop-k-preserved
loop-k-preserved g c =
    let i = c.loop-k.invariant in
    record {
      bytes = λ reported.
          let less : 4 - (c.loop-k.k + 1) ≡ 4 - c.loop-k.k - 1 = omega arith in
          rw less
          (number_more (4 - c.loop-k.k) c.loop-k.k c.loop-k.value c.loop-k.weight c.in-Some.byte (g.S.Source.left c.loop-k.s)
          (g.S.Source.left c.next.new.self) _ (omega (arith, c.loop-k-test.true))
          (rw c.in-Some.is at (c.in_ok-next.ensures.bytes (i.keeps.reported reported))) c.if-byte-lt128.false (search rules) (i.bytes reported));
      worth = ap (λ (t : ℕ). t * 128) i.worth ∙ worth_more c.loop-k.k;
      below = omega (arith, i.below, mul-le c.loop-k.weight (c.in-Some.byte - 128) c.loop-k.weight 127 (omega arith) (search rules));
      keeps = let e = c.in_ok-next.ensures in keeps_step i.keeps e.keeps.reported e.keeps.reader e.keeps.failures e.keeps.never_more;
    }

pub returns : goal.returns
returns g c = record {
  reads = keeps_reads c.loop-k.invariant.keeps (λ n. refl)
      (λ reported. number_over (4 - c.loop-k.k) c.loop-k.k c.loop-k.value c.loop-k.weight (g.S.Source.left c.loop-k.s)
      _ (omega (arith, c.loop-k-test.false)) (c.loop-k.invariant.bytes reported));
}

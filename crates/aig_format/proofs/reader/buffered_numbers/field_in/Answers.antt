use Rattle.std.proofs.Common.{◌+◌, ◌-◌, ◌*◌, get_or, arith, refl, sym, ap, ◌∙◌, ◌≡◌, ℕ, Some, drop}
use Rattle.aig_format.specs.Spells.{greatest}
use Rattle.aig_format.specs.state.Reading.{number_then}
use Rattle.aig_format.proofs.BufferedNumbers.{number_starts, number_goes, field_ends}
use Rattle.aig_format.proofs.reader.buffered_numbers.field_in.Goals as goal

pub returns-then-first-eq0-clause-field : goal.returns-then-first-eq0-clause-field
returns-then-first-eq0-clause-field c =
    let b = c.args.bytes.now in
    let at = c.args.from in
    let d = c.digit_of-first.ensures.digit (omega (arith, c.if-first-gt9.false)) in
    let zero : get_or b at 0 - 48 ≡ 0 = omega (arith, d.2, c.if-first-eq0.true) in
    field_ends greatest c.args.end 0 (at + 1) (at + 2) _ b (omega (arith, c.requires.room)) (omega arith) c.if-bytes-from.false c.requires.end
    (number_starts greatest at b (omega (arith, c.requires.room)) d.0 d.1
    ∙ ap (λ (n : ℕ). number_then greatest (Some n) (drop (at + 1) b)) zero)

pub loop-count-init : goal.loop-count-init
loop-count-init c =
    let b = c.args.bytes.now in
    let at = c.args.from in
    let d = c.digit_of-first.ensures.digit (omega (arith, c.if-first-gt9.false)) in
    record {
      some = omega (arith, c.if-first-eq0.false);
      within = omega (arith, c.if-first-gt9.false);
      so_far = number_starts greatest at b (omega (arith, c.requires.room)) d.0 d.1
          ∙ ap (λ (n : ℕ). number_then greatest (Some n) (drop (at + 1) b)) (sym d.2);
    }

pub loop-count-preserved : goal.loop-count-preserved
loop-count-preserved c =
    let i = c.loop-count.invariant in
    let b = c.args.bytes.now in
    let at = c.args.from + c.loop-count.count in
    let next = c.args.from + (c.loop-count.count + 1) in
    let d = c.digit_of-digit.ensures.digit (omega (arith, c.if-digit-gt9.false)) in
    let same : c.loop-count.value * 10 + (get_or b at 0 - 48) ≡ c.loop-count.value * 10 + c.digit_of-digit.result =
    omega (arith, d.2) in
    record {
      some = omega (arith, i.some);
      within = c.if-value-gt-BODY.false;
      so_far = i.so_far
          ∙ number_goes greatest c.loop-count.value at next b i.some
          (omega (arith, c.requires.room, c.loop-count-test.true)) (omega arith) d.0 d.1
          (omega (arith, same, c.if-value-gt-BODY.false))
          ∙ ap (λ (n : ℕ). number_then greatest (Some n) (drop next b)) same;
    }

pub returns-then-digit-gt9-clause-field : goal.returns-then-digit-gt9-clause-field
returns-then-digit-gt9-clause-field c =
    let at = c.args.from + c.loop-count.count in
    field_ends greatest c.args.end c.loop-count.value at (at + 1) _ c.args.bytes.now (omega (arith, c.requires.room, c.loop-count-test.true))
    refl c.if-byte-end.false c.requires.end c.loop-count.invariant.so_far

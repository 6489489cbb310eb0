use Rattle.aig_sat.specs.proof.Steps.{bytes_to_come}
use Rattle.aig_sat.proofs.reading.BytesRefusals.{number_goes_on, number_refused}
use Rattle.std.proofs.Common.{◌≡◌, ◌⊎◌, ◌+◌, ◌*◌, ◌<◌, ◌≤◌, ◌++◌, ◌∷◌, [], ℕ, List, Option, sym, subst, arith, rules}
use Rattle.std.proofs.Math.Nat.{mul-le-mul_left}
use Rattle.aig_sat.specs.proof.ProofBytes.{Groups}
use Rattle.aig_sat.specs.proof.state.Taking.{TakesBytes, listed}
use Rattle.aig_sat.proofs.reading.TakingLemmas.{bytes_then, group_last, group_more}
use Rattle.aig_sat.proofs.proof.binary.binary_number.Goals as goal

pub returns-then-byte-lt128-clause-number : goal.returns-then-byte-lt128-clause-number
returns-then-byte-lt128-clause-number g c =
    let i = c.loop-power.invariant in
    let (taken, on, took) = i.groups in
    let b = c.in-Some.byte in
    let left = g.R.Read.left in
    let one : TakesBytes c.loop-power.bytes c.next.new.self (left c.loop-power.reader) (left c.next.new.reader) (b ∷ []) =
    subst (λ (o : Option ℕ). TakesBytes c.loop-power.bytes c.next.new.self (left c.loop-power.reader) (left c.next.new.reader) (listed o))
    c.in-Some.is c.in_ok-byte.ensures.bytes.taken in (
      taken ++ b ∷ [],
      subst (λ (x : ℕ). Groups (c.loop-power.number + c.loop-power.power * x) (taken ++ b ∷ []))
          (sym (c.low_bits.ensures.last c.if-byte-lt128.true))
          (group_last c.loop-power.number c.loop-power.power b taken c.if-byte-lt128.true
          (c.may_end.ensures.some c.if-not-may_end.false) on),
      bytes_then c.args.bytes.now c.loop-power.bytes c.next.new.self (left c.args.reader.now) (left c.loop-power.reader)
          (left c.next.new.reader) taken (b ∷ []) took one,
    )

pub loop-power-preserved : goal.loop-power-preserved
loop-power-preserved g c =
    let i = c.loop-power.invariant in
    let (taken, on, took) = i.groups in
    let b = c.in-Some.byte in
    let p = c.loop-power.power in
    let low = c.low_bits.result in
    let left = g.R.Read.left in
    let one : TakesBytes c.loop-power.bytes c.next.new.self (left c.loop-power.reader) (left c.next.new.reader) (b ∷ []) =
    subst (λ (o : Option ℕ). TakesBytes c.loop-power.bytes c.next.new.self (left c.loop-power.reader) (left c.next.new.reader) (listed o))
    c.in-Some.is c.in_ok-byte.ensures.bytes.taken in
    let whole : 128 + low ≡ b = c.low_bits.ensures.more (omega (arith, c.if-byte-lt128.false)) in
    let product : p * low ≤ p * 127 = mul-le-mul_left p (omega (arith, c.low_bits.ensures.below)) in
    record {
      count = omega (arith, i.count, c.in_ok-byte.ensures.bytes.count);
      never_more = omega (arith, i.never_more, c.in_ok-byte.ensures.bytes.never_more);
      some = omega (arith, i.some);
      most = omega (arith, c.loop-power-test.true);
      below = omega (arith, product, i.below);
      groups = (
        taken ++ b ∷ [],
        subst (λ (x : ℕ). (n : ℕ) (rest : List ℕ) → (0 < n) ⊎ (p * 128 ≡ 1) → Groups n rest → Groups (c.loop-power.number + p * low + p * 128 * n) ((taken ++ x ∷ []) ++ rest))
            whole (group_more c.loop-power.number p low taken i.some c.low_bits.ensures.below on),
        bytes_then c.args.bytes.now c.loop-power.bytes c.next.new.self (left c.args.reader.now) (left c.loop-power.reader)
            (left c.next.new.reader) taken (b ∷ []) took one,
      );
      ahead = λ h. number_goes_on (bytes_to_come c.loop-power.bytes (left c.loop-power.reader)) (bytes_to_come c.next.new.self (left c.next.new.reader))
          c.loop-power.number p low b one whole c.low_bits.ensures.below (i.ahead h);
    }

pub returns-then-not-may_end-clause-refused : goal.returns-then-not-may_end-clause-refused
returns-then-not-may_end-clause-refused g c = record {
  count = search rules;
  lowers = search rules;
  refused = λ at is h.
      let one = subst (λ (o : Option ℕ). TakesBytes c.loop-power.bytes c.next.new.self (g.R.Read.left c.loop-power.reader)
      (g.R.Read.left c.next.new.reader) (listed o)) c.in-Some.is c.in_ok-byte.ensures.bytes.taken in
      number_refused (bytes_to_come c.loop-power.bytes (g.R.Read.left c.loop-power.reader)) (bytes_to_come c.next.new.self (g.R.Read.left c.next.new.reader)) c.loop-power.number c.loop-power.power
      c.in-Some.byte one (c.may_end.ensures.zero c.if-not-may_end.true) (c.may_end.ensures.later c.if-not-may_end.true)
      (c.loop-power.invariant.ahead h);
}

use Rattle.std.proofs.Common.{ℕ, arith, length-drop}
use Rattle.std.proofs.lemmas.List.{length-take}
use Rattle.aig_bytes.proofs.WriteLemmas.{writes_some, writes_failed}
use Rattle.aig_bytes.proofs.write.write_rest.Goals as goal

pub returns-in_err-at : goal.returns-in_err-at
returns-in_err-at g c =
    let h = c.in_err-at.ensures in
    writes_failed c.args.bytes.now c.loop-at.at c.loop-at.invariant.writes h.taken h.count c.from_residual.ensures.0

pub loop-at-preserved : goal.loop-at-preserved
loop-at-preserved g c =
    let h = c.in_ok-at.ensures in
    record {
      inside = omega (arith, length-take {A = ℕ}, length-drop {A = ℕ}, h.bound);
      writes = writes_some c.args.bytes.now c.loop-at.at c.in_ok-at.field-0 c.loop-at.invariant.writes h.taken h.count;
    }

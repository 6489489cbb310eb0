use Rattle.std.proofs.Common.{ℕ, drop, arith, length-drop}
use Rattle.std.proofs.lemmas.List.{length-take, take-append-drop, take_all}
use Rattle.aig_bytes.proofs.GatherLemmas.{gathers_then, gathers_not_forwarded, gathers_held, gathers_same, gathers_more}
use Rattle.aig_bytes.proofs.GatherLemmas.{gathers_straight, gathers_ok}
use Rattle.aig_bytes.proofs.block.ByteBlock.put_all.Goals as goal

pub loop-at-init : goal.loop-at-init
loop-at-init g c = record { inside = c.append-at.ensures.bound; gathered = gathers_held c.append-at.ensures.appended }

pub returns-in_err-forward : goal.returns-in_err-forward
returns-in_err-forward g c = gathers_not_forwarded c.in_err-forward.ensures.written c.from_residual.ensures.0

pub returns-then-bytes-ge-LARGE : goal.returns-then-bytes-ge-LARGE
returns-then-bytes-ge-LARGE g c =
    gathers_straight c.in_ok-forward.ensures.written c.in_ok-forward.ensures.none_buffered c.write_all.ensures

pub returns-in_err-forward-2 : goal.returns-in_err-forward-2
returns-in_err-forward-2 g c =
    gathers_same
    (gathers_then c.loop-at.invariant.gathered
    (gathers_not_forwarded {a = drop c.loop-at.at c.args.bytes.now} c.in_err-forward-2.ensures.written c.from_residual-in_err-forward-2.ensures.0))
    (take-append-drop c.loop-at.at c.args.bytes.now)

pub loop-at-preserved : goal.loop-at-preserved
loop-at-preserved g c =
    let h = c.append-at-in-loop-at.ensures in
    record {
      inside = omega (arith, length-take {A = ℕ}, length-drop {A = ℕ}, h.bound);
      gathered = gathers_more c.args.bytes.now c.loop-at.at c.append-at-in-loop-at.result c.loop-at.invariant.gathered
          c.in_ok-forward-2.ensures.written c.in_ok-forward-2.ensures.none_buffered h.appended;
    }

pub returns : goal.returns
returns g c =
    gathers_same (gathers_ok c.loop-at.invariant.gathered)
    (take_all c.loop-at.at c.args.bytes.now (omega (arith, c.loop-at-test.false)))

use Rattle.std.proofs.Common.{ℕ, ◌≡◌, ◌-◌, ◌+◌, length, drop, subst, arith}
use Rattle.std.proofs.lemmas.List.{take_all, length-drop}
use Rattle.aig_format.proofs.Lines.{fits_push}
use Rattle.aig_format.proofs.Steps.{adds_none, adds_more}
use Rattle.aig_format.proofs.reader.line.push_buffered.Goals as goal

pub loop-count-init : goal.loop-count-init
loop-count-init g c = record {
  adds = adds_none g.X.Line.line_at c.args.first c.args.buffered.now c.args.all.now;
  fits = λ v is fits. fits;
}

pub loop-count-preserved : goal.loop-count-preserved
loop-count-preserved g c =
    let buffered = c.args.buffered.now in
    let size = c.loop-count.size in
    let h = c.in-Some.ensures in
    let i = c.loop-count.invariant in
    record {
      adds = adds_more g.X.Line.line_at c.args.first c.loop-count.count size c.in-Some.more buffered _ c.args.all.now
          c.loop-count.all _ c.in-Some.line i.adds
          (take_all (length buffered - size) (drop size buffered) (omega (arith, length-drop size buffered))) h.ends
          h.within h.line c.in_ok-push.ensures.ok;
      fits = λ v is fits.
          let e : c.args.first + c.loop-count.count ≡ v + length c.loop-count.all = omega (arith, i.adds.count) in
          rw c.in_ok-push.ensures.ok
          (fits_push g.X.Line.holds v c.loop-count.all c.in-Some.line (i.fits v is fits)
          (subst (λ (u : ℕ). g.X.Line.holds u c.in-Some.line) e h.holds));
    }

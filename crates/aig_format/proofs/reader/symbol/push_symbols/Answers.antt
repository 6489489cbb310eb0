use Rattle.std.proofs.Common.{◌+◌, ◌-◌, length, drop, arith}
use Rattle.std.proofs.lemmas.List.{take_all, length-drop}
use Rattle.aig_format.proofs.BufferedSymbols.{adds_no_symbol, adds_more_symbols}
use Rattle.aig_format.proofs.reader.symbol.push_symbols.Goals as goal

pub loop-more-init : goal.loop-more-init
loop-more-init c = (0, adds_no_symbol c.args.counts.now c.args.buffered.now c.args.all.now)

pub loop-more-preserved : goal.loop-more-preserved
loop-more-preserved c =
    let buffered = c.args.buffered.now in
    let size = c.loop-more.size in
    let i = c.loop-more.invariant in (
      i.0 + 1,
      adds_more_symbols c.args.counts.now i.0 size 1 c.in-Some.more buffered _ c.args.all.now c.loop-more.all _ i.1
          (take_all (length buffered - size) (drop size buffered) (omega (arith, length-drop size buffered)))
          (rw c.in-Some.is at c.in_ok-more.ensures.added),
    )

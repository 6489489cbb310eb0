use Rattle.std.proofs.Common.{ℕ, List, get_or, arith}
use Rattle.std.proofs.lemmas.Bool.{false≢true}
use Rattle.std.proofs.lemmas.Option.{slice_get-get_or}
use Rattle.aig_bench.proofs.carries.LatchChains.{listing_none, listing_unread, before_less, listing_more, read_at}
use Rattle.aig_bench.proofs.propagate.latch_readers.LatchReaders.list_all.Goals as goal

pub returns-then-not-contains-clause-lists : goal.returns-then-not-contains-clause-lists
returns-then-not-contains-clause-lists c = λ raw are le.
    let last : List ℕ = c.args.self.now.last.items in
    listing_unread raw c.args.self.now are c.args.variable (get_or last c.args.variable 0) c.args.list.now
    (slice_get-get_or last c.args.variable 0 (omega (arith, are.variables)))
    (λ has. false≢true (c.if-not-contains.ensures.1 has))

pub loop-latch-init : goal.loop-latch-init
loop-latch-init c = record {
  list = λ n h. h;
  lists = λ raw are le.
      listing_none raw c.args.self.now are c.args.variable c.index-latch.result.now c.args.list.now
      (read_at c.args.self.now.last.items c.args.variable c.index-latch.result.now (omega (arith, are.variables))
      c.index-latch.ensures);
}

pub loop-latch-smaller : goal.loop-latch-smaller
loop-latch-smaller c =
    let (raw, are, le, h) = c.requires in
    let k = c.loop-latch.invariant.lists raw are le in
    let inside = k.inside in
    before_less raw c.args.self.now are c.args.variable c.loop-latch.latch c.index-latch-in-loop-latch.result.now
    c.args.list.now c.loop-latch.list k c.loop-latch-test.true
    (read_at c.args.self.now.before.items c.loop-latch.latch c.index-latch-in-loop-latch.result.now
    (omega (arith, are.latches)) c.index-latch-in-loop-latch.ensures)

pub loop-latch-preserved : goal.loop-latch-preserved
loop-latch-preserved c = record {
  list = λ n h. c.add.ensures.list n (c.loop-latch.invariant.list n h);
  lists = λ raw are le.
      let k = c.loop-latch.invariant.lists raw are le in
      let inside = k.inside in
      listing_more raw c.args.self.now are c.args.variable c.loop-latch.latch c.index-latch-in-loop-latch.result.now
      c.args.list.now c.loop-latch.list k c.loop-latch-test.true
      (read_at c.args.self.now.before.items c.loop-latch.latch c.index-latch-in-loop-latch.result.now
      (omega (arith, are.latches)) c.index-latch-in-loop-latch.ensures)
      c.add.new.self c.add.ensures.adds;
}

use Rattle.std.proofs.Common.{◌≡◌, ◌+◌, ◌≤◌, ◌<◌, Some, slice_get, length, arith}
use Rattle.aig_parts.specs.Literal.{variable}
use Rattle.aig_base.proofs.circuits.Circuits.{next_in_range}
use Rattle.aig_base.proofs.lists.Items.{item_at}
use Rattle.aig_bench.proofs.carries.LatchChains.{bits_none, bits_more, chains_none, chains_more, chains_all, read_at}
use Rattle.aig_bench.proofs.propagate.latch_readers.LatchReaders.of.Goals as goal

pub loop-position-init : goal.loop-position-init
loop-position-init c = record {
  chains = chains_none c.args.circuit.now _ _
      (rw (← c.max_var.ensures.value) (c.in_ok-last.ensures.items_if_clones_equal (λ y e. e)))
      (rw c.new-before.ensures.items at c.in_ok-push.ensures.items);
  read = bits_none (c.args.circuit.now.max_var + 1) _ _
      (rw (← c.max_var.ensures.value) (c.in_ok-last.ensures.items_if_clones_equal (λ y e. e)));
  room = omega (arith, c.in_ok-read.ensures.words, c.max_var-2.ensures.value);
}

pub index-requires : goal.index-requires
index-requires c =
    let raw = c.args.circuit.now in
    let x = c.latch-item.result in
    let at : slice_get raw.latches c.loop-position.position ≡ Some x =
    item_at _ _ c.loop-position.position x c.latches-latch-items.ensures c.loop-position-test.true c.latch-item.is in
    let range : variable x.next ≤ raw.max_var = next_in_range raw c.max_var.ensures.circuit.sound c.loop-position.position x at in
    omega (arith, c.loop-position.invariant.chains.variables, c.var-variable.ensures)

pub index_mut-requires : goal.index_mut-requires
index_mut-requires c =
    let raw = c.args.circuit.now in
    let x = c.latch-item.result in
    let at : slice_get raw.latches c.loop-position.position ≡ Some x =
    item_at _ _ c.loop-position.position x c.latches-latch-items.ensures c.loop-position-test.true c.latch-item.is in
    let range : variable x.next ≤ raw.max_var = next_in_range raw c.max_var.ensures.circuit.sound c.loop-position.position x at in
    omega (arith, c.loop-position.invariant.chains.variables, c.var-variable.ensures)

pub insert-requires : goal.insert-requires
insert-requires c =
    let raw = c.args.circuit.now in
    let x = c.latch-item.result in
    let at : slice_get raw.latches c.loop-position.position ≡ Some x =
    item_at _ _ c.loop-position.position x c.latches-latch-items.ensures c.loop-position-test.true c.latch-item.is in
    let range : variable x.next ≤ raw.max_var = next_in_range raw c.max_var.ensures.circuit.sound c.loop-position.position x at in
    omega (arith, c.loop-position.invariant.room, c.var-variable.ensures)

pub loop-position-preserved : goal.loop-position-preserved
loop-position-preserved c =
    let raw = c.args.circuit.now in
    let x = c.latch-item.result in
    let at : slice_get raw.latches c.loop-position.position ≡ Some x =
    item_at _ _ c.loop-position.position x c.latches-latch-items.ensures c.loop-position-test.true c.latch-item.is in
    let range : variable x.next ≤ raw.max_var = next_in_range raw c.max_var.ensures.circuit.sound c.loop-position.position x at in
    let h = c.loop-position.invariant.chains in
    let inside : variable x.next < length c.loop-position.last.items = omega (arith, h.variables) in
    let b = c.index.result.now in
    let was : slice_get c.loop-position.last.items (variable x.next) ≡ Some b =
    read_at c.loop-position.last.items (variable x.next) b inside (rw (← c.var-variable.ensures) c.index.ensures) in
    record {
      chains = rw (c.var-variable.ensures, c.in_ok-push-2.ensures.items)
          (chains_more raw c.loop-position.position x at c.loop-position.last.items c.loop-position.before.items h inside b was);
      read = bits_more c.loop-position.last.items c.loop-position.read.words.items _ c.var-variable.result _
          c.loop-position.invariant.read c.insert.ensures.bits;
      room = omega (arith, c.loop-position.invariant.room, c.insert.ensures.words);
    }

pub returns : goal.returns
returns c =
    chains_all c.args.circuit.now c.loop-position.position _
    (rw (← c.latches-latch-items.ensures) (omega (arith, c.loop-position-test.false, c.loop-position.auto.position-end)))
    c.loop-position.invariant.chains c.loop-position.invariant.read

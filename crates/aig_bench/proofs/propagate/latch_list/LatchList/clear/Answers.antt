use Rattle.std.proofs.Common.{ℕ, ◌<◌, ◌↔◌, ◌≢◌, ◌≡◌, true, Some, None, Option, is_some, IfSome}
use Rattle.std.proofs.lemmas.Bool.{false≢true}
use Rattle.aig_bench.specs.declared.propagate.latch_list.LatchList.{LatchList}
use Rattle.aig_bench.specs.state.Latches.{IsLatchList, IsInLatchList}
use Rattle.aig_bench.proofs.carries.LatchLists.{listed, listed_less}
use Rattle.aig_bench.proofs.propagate.latch_list.LatchList.clear.Goals as goal

less : (n : ℕ) (old new : LatchList) (o : Option ℕ) → is_some o ≡ true → IsLatchList n old → IsLatchList n new
    → IfSome o (λ i. IsInLatchList old i) → IfSome o (λ i. (j : ℕ) → IsInLatchList new j ↔ (IsInLatchList old j × (j ≢ i)))
    → listed new.marks.items < listed old.marks.items
less n old new None e h k m left = absurd (false≢true e)
less n old new (Some i) e h k m left = listed_less n i old new h k m left

pub loop-smaller : goal.loop-smaller
loop-smaller c =
    let (n, h) = c.requires.list in
    let old = c.loop.invariant.list n h in
    less n c.loop.self c.take.new.self c.take.result (rw (← c.is_some.ensures) c.loop-test.true) old
    (c.take.ensures.list n old) c.take.ensures.listed c.take.ensures.left

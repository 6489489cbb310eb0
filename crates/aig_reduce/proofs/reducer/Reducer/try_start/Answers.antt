use Rattle.std.proofs.Common.{refl, sym, ◌∙◌, subst}
use Rattle.std.proofs.lemmas.Bool.{false≢true}
use Rattle.aig_parts.specs.declared.ternary.Tern.TheVariants.{X}
use Rattle.aig_base.specs.Sections.{IsLatchLiteral}
use Rattle.aig_bench.specs.BenchState.{CircuitAndRows}
use Rattle.aig_base.proofs.lists.Items.{item_at}
use Rattle.aig_reduce.proofs.Tries.{latch_named, latch_named_still, start_kept, start_taken_back}
use Rattle.aig_reduce.proofs.reducer.Reducer.try_start.Goals as goal

pub put_reset-requires : goal.put_reset-requires
put_reset-requires c =
    let (raw, x, h, at, named, free) = c.requires.runs in
    latch_named raw c.args.self.now.bench.pair.circuit c.args.position c.args.latch x h.resets at named

pub put_reset-requires-else-reaches_from : goal.put_reset-requires-else-reaches_from
put_reset-requires-else-reaches_from c =
    let (raw, x, h, at, named, free) = c.requires.runs in
    subst (λ (p : CircuitAndRows). IsLatchLiteral p.circuit c.args.latch) (sym c.put_reset.ensures.bench)
    (latch_named_still raw c.args.self.now.bench.pair.circuit c.args.position c.args.latch x X h.resets at named)

pub returns-then-reaches_from : goal.returns-then-reaches_from
returns-then-reaches_from c = λ raw x h at named free.
    let old = c.args.self.now in
    let first = c.put_reset.ensures in
    start_kept raw old.bench.pair old.property old.start.items h c.put_reset.new.bench.pair old.property old.start.items refl refl
    c.args.position c.args.latch x at named free first.before.sound first.after.sound first.bench _ refl
    (c.reaches_from.ensures.0 c.if-reaches_from.true)

pub returns-else-reaches_from : goal.returns-else-reaches_from
returns-else-reaches_from c = λ raw x h at named free.
    let old = c.args.self.now in
    let first = c.put_reset.ensures in
    start_taken_back raw old.bench.pair old.property old.start.items h c.put_reset.new.bench.pair old.property old.start.items refl
    refl c.args.position c.args.latch x at named free first.before.sound first.after.sound first.bench
    c.put_reset-else-reaches_from.new.bench.pair old.property old.start.items c.index-given.result.now
    (item_at old.start.items old.start.items c.args.position c.index-given.result.now refl c.requires.position c.index-given.ensures)
    c.put_reset-else-reaches_from.ensures.bench refl refl
    (λ k. false≢true (sym c.if-reaches_from.false ∙ c.reaches_from.ensures.1 k))

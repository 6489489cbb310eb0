use Rattle.aig_base.specs.Grounded as by
use Rattle.aig_bench.proofs.engine.Engine.fill_latch.Goals as goal

pub fill_source-requires : goal.fill_source-requires
fill_source-requires g c =
    let (i, at) = c.requires.latch in
    rw c.var-variable.ensures (record {
      frame = c.requires.next.frame;
      positive = c.latch_value-value.ensures.positive;
      source = by.IsSource.latch i c.args.latch at;
      value = c.latch_value-value.ensures.value;
    })

pub returns : goal.returns
returns g c = rw c.var-variable.ensures at c.fill_source.ensures

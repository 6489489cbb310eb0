use Rattle.std.proofs.Common.{sym, subst}
use Rattle.aig_base.specs.Sections.{IsGate}
use Rattle.aig_bench.specs.state.Engine.{EngineState}
use Rattle.aig_bench.proofs.carries.Carrying.{gate_fits, gates_linked}
use Rattle.aig_bench.proofs.engine.Engine.force.Goals as goal

pub link_all-requires : goal.link_all-requires
link_all-requires g c = (
  c.self.inside.fanouts.levels,
  c.self.invariant.work.buckets,
  λ v k. gate_fits _ _ _ _ _ c.self.invariant.work v
      (subst (λ (s : EngineState). IsGate s.pair.circuit v) (sym c.self.view_is) (c.requires v k)),
)

pub invariant_of-self : goal.invariant_of-self
invariant_of-self g c = record {
  work = gates_linked _ _ _ _ _ c.self.invariant.work c.args.gates.now
      (λ v k. subst (λ (s : EngineState). IsGate s.pair.circuit v) (sym c.self.view_is) (c.requires v k)) _
      (c.link_all.ensures.buckets _ c.self.invariant.work.buckets) c.link_all.ensures.links;
  lists = record {
    readers = c.self.invariant.lists.readers;
    here = c.self.invariant.lists.here;
    ahead = c.self.invariant.lists.ahead;
  };
  orders = c.self.invariant.orders;
}

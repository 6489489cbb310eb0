use Rattle.aig_bench.proofs.engine.sweep_order.gate_at.Goals as goal

pub unreachable-requires : goal.unreachable-requires
unreachable-requires c = c.in-None.ensures.none c.requires

pub returns-clause-known : goal.returns-clause-known
returns-clause-known c =
    let (q, at, is) = c.in-Some.ensures.found in
    (q, at)

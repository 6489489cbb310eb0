use Rattle.aig_bench.proofs.renewals.Engines.{held}
use Rattle.aig_bench.proofs.bench.Bench.grid.Goals as goal

pub returns-clause-cells : goal.returns-clause-cells
returns-clause-cells g c =
    let k = held c.engine.invariant c.engine.view_is c.self.invariant in
    let b = k.working.bench in
    rw (← c.self.view_is, ← c.engine.view_is) (record {
      rows = b.laid_out.rows_are.frames_are;
      values = λ t v lt defined. (
          let h = b.current.each t lt v defined in
          (h.cell, h.cell_is, h.value_is));
    })

pub returns-clause-variables : goal.returns-clause-variables
returns-clause-variables g c =
    let k = held c.engine.invariant c.engine.view_is c.self.invariant in
    rw (← c.self.view_is, ← c.engine.view_is) k.working.bench.laid_out.flags_are.size

use Rattle.aig_base.specs.Value.{start_of}
use Rattle.aig_values.specs.TraceText.{trace_text}
use Rattle.aig_values.proofs.TraceLemmas.{trace_is}
use Rattle.aig_bench.specs.state.DrivenCircuit.{pair_of}
use Rattle.aig_bench.proofs.bench.trace.write_frames.Goals as goal

pub returns : goal.returns
returns g c =
    let driven = c.args.driven.now in
    let p = pair_of driven in
    let cells = g.G.Grid.cells c.args.grid.now in
    let h = c.requires in (
      trace_text driven.circuit cells,
      trace_is driven.circuit (start_of driven.circuit) driven.stimulus.rows cells h.driven_is.circuit.sound
          h.laid_out.rows_are.frames_are h.current.each,
      c.write_trace.ensures,
    )

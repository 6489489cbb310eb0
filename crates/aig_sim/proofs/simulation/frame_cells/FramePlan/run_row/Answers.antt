use Rattle.std.proofs.Common.{◌≡◌, ◌+◌, ◌<◌, [], ◌∷◌, ◌++◌, length, slice_set, sym, ◌∙◌, subst, arith}
use Rattle.std.proofs.lemmas.List.{length-set}
use Rattle.aig_parts.specs.declared.ternary.Tern.{Tern}
use Rattle.aig_parts.specs.Literal.{variable}
use Rattle.aig_base.proofs.circuits.Circuits.{gate_in_range, rhs0_in_range, rhs1_in_range}
use Rattle.aig_values.specs.state.Frame.{Holds}
use Rattle.aig_values.proofs.Evaluation.{constant_holds, sources_hold}
use Rattle.aig_values.proofs.TraceLemmas.{states_stay, last_row}
use Rattle.aig_sim.proofs.StepLemmas.{steps}
use Rattle.aig_sim.proofs.simulation.frame_cells.FramePlan.run_row.Goals as goal

pub evaluate_frame-requires : goal.evaluate_frame-requires
evaluate_frame-requires c =
    let raw = c.args.self.now.circuit.now in
    let sound = c.requires.circuit.sound in
    let size : length c.put_latches.new.cells ≡ raw.max_var + 1 =
    c.put_latches.auto.cells ∙ c.put_inputs.auto.cells ∙ length-set c.args.cells.now 0 c.of.result ∙ c.requires.cells in
    record {
      lhs = λ q g at. let (i, stands) = c.requires.gates.known q g at in
          omega (arith, gate_in_range raw sound i g stands, size);
      rhs0 = λ q g at. let (i, stands) = c.requires.gates.known q g at in
          omega (arith, rhs0_in_range raw sound i g stands, size);
      rhs1 = λ q g at. let (i, stands) = c.requires.gates.known q g at in
          omega (arith, rhs1_in_range raw sound i g stands, size);
    }

pub returns : goal.returns
returns c =
    let raw = c.args.self.now.circuit.now in
    let cells = c.args.cells.now in
    let row = c.args.row.now in
    let some : 0 < length cells = omega (arith, c.requires.cells) in
    λ start past are.
    let rows = past ++ row ∷ [] in
    let t = length past in
    let h = last_row past row in
    let s = states_stay raw start past (row ∷ []) t c.args.states.now are in
    let first = c.put_inputs.ensures.renews start rows t h in
    let second = c.put_latches.ensures.renews start rows t s in
    let sources = sources_hold raw start rows t c.put_latches.new.cells
    (second.keeps 0 (first.keeps 0 (subst (λ (w : Tern). Holds raw start rows t (slice_set cells 0 w) 0)
    (sym c.of.ensures) (constant_holds raw start rows t cells some))))
    (λ i l at. second.keeps (variable l) (c.put_inputs.ensures.inputs start rows t h i l at))
    (c.put_latches.ensures.latches start rows t s) in
    steps raw start past row c.renew_states.new.states c.evaluate_frame.new.cells c.requires.circuit.sound
    (c.evaluate_frame.ensures raw start rows t c.requires.circuit.sound c.requires.gates sources)
    c.renew_states.ensures

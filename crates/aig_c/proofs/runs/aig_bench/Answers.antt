use Rattle.std.proofs.Common.{refl, ap, ◌∙◌}
use Rattle.std.specs.Prelude.{Some, length}
use Rattle.aig_script.specs.Bench.{RunsScript}
use Rattle.aig_c.proofs.Endings.{done_script, exceeds_part_script, exceeds_script, refused_script, reworded}
use Rattle.aig_c.proofs.runs.aig_bench.Goals as goal

pub returns-in-Ok-run_bench : goal.returns-in-Ok-run_bench
returns-in-Ok-run_bench c = record {
  returns = reworded
      (λ text zero_is same. done_script (RunsScript c.args.circuit.now c.args.rows.now) c.args.script.now c.run_bench.new.script c.run_bench.new.out.bytes text
      (ap Some c.new-reader.ensures) refl (ap Some c.in-Ok.ensures) refl (same ∙ c.bytes.ensures) c.in-Ok-run_bench.ensures.ends)
      (λ no. absurd no)
      (λ longer. exceeds_script (RunsScript c.args.circuit.now c.args.rows.now) c.args.script.now c.run_bench.new.script c.run_bench.new.out.bytes _
      (length c.args.room.now) (ap Some c.new-reader.ensures) refl (ap Some c.in-Ok.ensures) refl c.bytes.ensures longer c.in-Ok-run_bench.ensures.ends)
      c.answer.ensures;
}

pub returns : goal.returns
returns c = record {
  returns = reworded (λ text zero_is no. absurd no)
      (λ one_is. refused_script (RunsScript c.args.circuit.now c.args.rows.now) c.in-Err.fault one_is c.in-Err.ensures.ends)
      (λ longer. exceeds_part_script (RunsScript c.args.circuit.now c.args.rows.now) c.in-Err.fault c.args.script.now c.run_bench.new.script
      c.run_bench.new.out.bytes _ (length c.args.room.now) (ap Some c.new-reader.ensures) refl (ap Some c.in-Ok.ensures) refl c.bytes-in-Err.ensures longer c.in-Err.ensures.ends)
      c.refuse.ensures;
}

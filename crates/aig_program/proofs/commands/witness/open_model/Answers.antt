use Rattle.std.proofs.Common.{refl}
use Rattle.aig_program.proofs.commands.witness.open_model.Goals as goal

pub returns : goal.returns
returns g c = record {
  opens = (
    refl,
    (
      c.in_ok-model.ensures.given,
      (
        c.has_flag-step.result,
        c.has_flag-step.ensures.held,
        c.in_ok-circuit.ensures.held,
        c.in_ok-circuit.ensures.certificate,
      ),
      c.in_ok-circuit.ensures.circuit,
      c.in_ok-circuit.ensures.claimed,
      c.in_ok-model.ensures.named,
    ),
  );
}

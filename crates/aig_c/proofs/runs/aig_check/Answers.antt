use Rattle.std.proofs.Common.{refl, ap, ◌∙◌}
use Rattle.std.specs.Prelude.{Some, length}
use Rattle.aig_command.specs.Command.{OfFile}
use Rattle.aig_commands.specs.Check.{Checks}
use Rattle.aig_c.proofs.Endings.{done, exceeds, exceeds_part, refused, reworded}
use Rattle.aig_c.proofs.Silent.{checks, of_file}
use Rattle.aig_c.proofs.runs.aig_check.Goals.{then-status-eq-DONE, else-status-eq-DONE}
use Rattle.aig_c.proofs.runs.aig_check.Goals as goal

pub returns-in-Ok-check_bytes-clause-returns : goal.returns-in-Ok-check_bytes-clause-returns
returns-in-Ok-check_bytes-clause-returns c =
    let bytes = c.check_bytes.new.out.bytes in
    reworded
    (λ text zero_is same. (
      c.in-Ok-check_bytes.verdict,
      elim c.if-status-eq-DONE.branch [
        | then-status-eq-DONE w ↦ w.confirmed-is ∙ w.is_confirmed.ensures
        | else-status-eq-DONE w ↦ absurd (w.if-status-eq-DONE.false zero_is)
      ],
      done (OfFile c.args.circuit.now (Checks c.args.witness.now)) bytes text (ap Some c.in-Ok.ensures) refl (same ∙ c.bytes.ensures) c.in-Ok-check_bytes.ensures.ends,
    ))
    (λ no. absurd no)
    (λ longer. exceeds (OfFile c.args.circuit.now (Checks c.args.witness.now)) bytes _ (length c.args.room.now) (ap Some c.in-Ok.ensures) refl c.bytes.ensures longer
    c.in-Ok-check_bytes.ensures.ends)
    c.answer-status.ensures

pub returns-clause-returns : goal.returns-clause-returns
returns-clause-returns c =
    reworded (λ text zero_is no. absurd no)
    (λ one_is. refused (OfFile c.args.circuit.now (Checks c.args.witness.now)) c.in-Err.fault one_is c.in-Err.ensures.ends)
    (λ longer. exceeds_part (OfFile c.args.circuit.now (Checks c.args.witness.now)) (of_file (Checks c.args.witness.now) (checks c.args.witness.now) c.args.circuit.now)
    c.in-Err.fault c.check_bytes.new.out.bytes _ (length c.args.room.now) (ap Some c.in-Ok.ensures) refl c.bytes-in-Err.ensures longer
    c.in-Err.ensures.ends)
    c.refuse.ensures

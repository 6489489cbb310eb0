use Rattle.std.proofs.Common.{[], Err, Ok, refl}
use Rattle.aig_command.specs.declared.run_fault.RunFault.TheVariants as run_faults
use Rattle.aig_command.proofs.Files.{answered}
use Rattle.aig_bytes.specs.Flow.{flow}
use Rattle.aig_commands.specs.Check.{Checks, verdict_text}
use Rattle.aig_sim.specs.declared.witness.verdict.Verdict.{Verdict}
use Rattle.aig_commands.proofs.Printed.{none_printed, verdict_printed}
use Rattle.aig_commands.proofs.Replays.{shows_so}
use Rattle.aig_commands.proofs.check.check_circuit.Goals as goal
use Rattle.aig_command.proofs.Written.{got_all, got_none, got_part, one_at_most, output_refused}
use Rattle.aig_command.specs.Command.{CommandEnds}

pub returns-in-Ok-clause-ends : goal.returns-in-Ok-clause-ends
returns-in-Ok-clause-ends g c =
    let v = c.in_ok-verdict.verdict in
    let (w, spelled, admitted, shown) = c.in_ok-verdict.ensures.verdict in
    CommandEnds.writes_all (verdict_text v)
    (shows_so c.args.circuit.now c.args.witness.now v w spelled admitted shown (λ e. c.in_ok-verdict.ensures.confirmed e w spelled), refl)
    (got_all g.W.Write.written g.W.Write.failures c.args.out.now c.write_verdict.new.out (verdict_text v) tt c.in-Ok.ensures)

pub returns-in-Err-clause-ends : goal.returns-in-Err-clause-ends
returns-in-Err-clause-ends g c =
    let v = c.in_ok-verdict.verdict in
    let (w, spelled, admitted, shown) = c.in_ok-verdict.ensures.verdict in
    CommandEnds.breaks_off (Ok v) (verdict_text v)
    (shows_so c.args.circuit.now c.args.witness.now v w spelled admitted shown (λ e. c.in_ok-verdict.ensures.confirmed e w spelled), refl)
    (got_part g.W.Write.written g.W.Write.failures c.args.out.now c.write_verdict.new.out (verdict_text v) _ c.in-Err.ensures)

pub returns-in_err-verdict-clause-ends : goal.returns-in_err-verdict-clause-ends
returns-in_err-verdict-clause-ends g c =
    answered c.from_residual.result (run_faults.Witness c.in_err-verdict.field-0.0)
    (CommandEnds (flow g.W.Write.written g.W.Write.failures c.args.out.now c.args.out.now) run_faults.Output (Checks c.args.witness.now c.args.circuit.now))
    c.from_residual.ensures.1 (CommandEnds.writes_all [] (c.in_err-verdict.ensures.fault, refl) (got_none g.W.Write.written g.W.Write.failures c.args.out.now))

pub returns-in-Err-clause-once : goal.returns-in-Err-clause-once
returns-in-Err-clause-once g c =
    let v = c.in_ok-verdict.verdict in
    let (w, spelled, admitted, shown) = c.in_ok-verdict.ensures.verdict in
    record {
      count = one_at_most g.W.Write.written g.W.Write.failures c.args.out.now c.write_verdict.new.out (verdict_text v) _ c.in-Err.ensures;
      refused = output_refused {T = Verdict} _ (Err run_faults.Output) refl;
      output = λ failed. (
        v,
        verdict_text v,
        (
          shows_so c.args.circuit.now c.args.witness.now v w spelled admitted shown
              (λ e. c.in_ok-verdict.ensures.confirmed e w spelled),
          refl,
        ),
      );
    }

pub returns-in-Ok-clause-printed : goal.returns-in-Ok-clause-printed
returns-in-Ok-clause-printed g c = λ printed.
    let (w, spelled, admitted, shown) = c.in_ok-verdict.ensures.verdict in
    let is = verdict_printed g.W.Write.written g.W.Write.failures c.args.out.now c.write_verdict.new.out c.in_ok-verdict.verdict _ c.in-Ok.ensures printed in
    (w, spelled, c.in_ok-verdict.ensures.confirmed is w spelled)

pub returns-in-Err-clause-printed : goal.returns-in-Err-clause-printed
returns-in-Err-clause-printed g c = λ printed.
    let (w, spelled, admitted, shown) = c.in_ok-verdict.ensures.verdict in
    let is = verdict_printed g.W.Write.written g.W.Write.failures c.args.out.now c.write_verdict.new.out c.in_ok-verdict.verdict _ c.in-Err.ensures printed in
    (w, spelled, c.in_ok-verdict.ensures.confirmed is w spelled)

pub returns-in_err-verdict-clause-printed : goal.returns-in_err-verdict-clause-printed
returns-in_err-verdict-clause-printed g c = λ printed. absurd (none_printed (g.W.Write.written c.args.out.now) _ _ printed)

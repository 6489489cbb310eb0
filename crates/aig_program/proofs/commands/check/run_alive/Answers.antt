use Rattle.std.specs.Prelude.{IfSome}
use Rattle.aig_command.specs.Command.{OfFile}
use Rattle.aig_files.specs.declared.part.Part.TheVariants as parts
use Rattle.aig_command.specs.declared.run_fault.RunFault.TheVariants as run_faults
use Rattle.aig_commands.specs.CheckAlive.{AreAlive, ChecksRun}
use Rattle.aig_program.specs.Ends.{Ends, end_of_alive, seen}
use Rattle.aig_program.proofs.Endings.{alive_end, ends_unread, no_end, nothing, of_any, of_whole, ok_whole, slice_whole}
use Rattle.aig_program.proofs.commands.check.run_alive.Goals as goal

pub returns-clause-alive : goal.returns-clause-alive
returns-clause-alive g c =
    let file = c.as_slice-file.result.now in
    let text = c.as_slice-text.result.now in
    ok_whole c.write_alive.result (g.F.Read.remaining c.args.it.circuit) file
    (slice_whole (g.F.Read.remaining c.args.it.circuit) _ _ c.as_slice-file.ensures.value c.in_ok-circuit.ensures.whole)
    (λ xs. IfSome (g.F.Read.remaining c.args.it.witness) (AreAlive c.args.it.frames xs))
    (ok_whole c.write_alive.result (g.F.Read.remaining c.args.it.witness) text
    (slice_whole (g.F.Read.remaining c.args.it.witness) _ _ c.as_slice-text.ensures.value c.in_ok-witness.ensures.whole) (AreAlive c.args.it.frames file)
    (alive_end _ _ c.args.it.frames file text c.write_alive.result c.write_alive.ensures))

pub returns-in_err-circuit-clause-alive : goal.returns-in_err-circuit-clause-alive
returns-in_err-circuit-clause-alive g c =
    no_end _ c.from_residual.result c.in_err-circuit.field-0.0 c.from_residual.ensures.1

pub returns-in_err-witness-clause-alive : goal.returns-in_err-witness-clause-alive
returns-in_err-witness-clause-alive g c =
    no_end _ c.from_residual-in_err-witness.result c.in_err-witness.field-0.0 c.from_residual-in_err-witness.ensures.1

pub returns-clause-ends : goal.returns-clause-ends
returns-clause-ends g c =
    let w = g.W.Write.written in
    let f = g.W.Write.failures in
    let out = seen w f c.args.out.now c.write_alive.new.out in
    let file = c.as_slice-file.result.now in
    let text = c.as_slice-text.result.now in
    of_whole (g.F.Read.remaining c.args.it.circuit) file
    (slice_whole (g.F.Read.remaining c.args.it.circuit) _ _ c.as_slice-file.ensures.value c.in_ok-circuit.ensures.whole)
    (λ xs. IfSome (g.F.Read.remaining c.args.it.witness)
    (λ ys. Ends out run_faults.Output end_of_alive (OfFile xs (ChecksRun c.args.it.frames ys)) c.write_alive.result))
    (of_whole (g.F.Read.remaining c.args.it.witness) text
    (slice_whole (g.F.Read.remaining c.args.it.witness) _ _ c.as_slice-text.ensures.value c.in_ok-witness.ensures.whole)
    (λ ys. Ends out run_faults.Output end_of_alive (OfFile file (ChecksRun c.args.it.frames ys)) c.write_alive.result)
    c.write_alive.ensures)

pub returns-in_err-circuit-clause-ends : goal.returns-in_err-circuit-clause-ends
returns-in_err-circuit-clause-ends g c =
    let w = g.W.Write.written in
    let f = g.W.Write.failures in
    let out = seen w f c.args.out.now c.args.out.now in
    let r = c.from_residual in
    of_any (g.F.Read.remaining c.args.it.circuit)
    (λ xs. IfSome (g.F.Read.remaining c.args.it.witness) (λ ys. Ends out run_faults.Output end_of_alive (OfFile xs (ChecksRun c.args.it.frames ys)) r.result))
    (λ xs. of_any (g.F.Read.remaining c.args.it.witness) (λ ys. Ends out run_faults.Output end_of_alive (OfFile xs (ChecksRun c.args.it.frames ys)) r.result)
    (λ ys. (ends_unread (nothing w f c.args.out.now) r.result c.in_err-circuit.field-0.0 parts.Circuit c.in_err-circuit.ensures.fails r.ensures.1)))

pub returns-in_err-witness-clause-ends : goal.returns-in_err-witness-clause-ends
returns-in_err-witness-clause-ends g c =
    let w = g.W.Write.written in
    let f = g.W.Write.failures in
    let out = seen w f c.args.out.now c.args.out.now in
    let r = c.from_residual-in_err-witness in
    of_any (g.F.Read.remaining c.args.it.circuit)
    (λ xs. IfSome (g.F.Read.remaining c.args.it.witness) (λ ys. Ends out run_faults.Output end_of_alive (OfFile xs (ChecksRun c.args.it.frames ys)) r.result))
    (λ xs. of_any (g.F.Read.remaining c.args.it.witness) (λ ys. Ends out run_faults.Output end_of_alive (OfFile xs (ChecksRun c.args.it.frames ys)) r.result)
    (λ ys. (ends_unread (nothing w f c.args.out.now) r.result c.in_err-witness.field-0.0 parts.Witness c.in_err-witness.ensures.fails r.ensures.1)))

use Rattle.std.proofs.lemmas.Result.{on_ok_weaker}
use Rattle.aig_shell.proofs.reached.Checking.{start_added}
use Rattle.aig_shell.proofs.session.Session.push_other_start.Goals as goal

pub returns : goal.returns
returns c =
    on_ok_weaker c.push_pieces.result (λ more.
    start_added c.args.self.now.run.bench.pair.circuit c.circuit.result.now c.args.latch c.args.value
    c.args.text.now.items c.push_first_name.new.text.items c.push_pieces.new.text.items c.letter.result.now
    c.circuit.ensures c.letter.ensures c.in_ok-push_first_name.ensures more)
    c.push_pieces.ensures

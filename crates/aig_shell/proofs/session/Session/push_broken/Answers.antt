use Rattle.std.proofs.lemmas.Result.{on_ok_weaker}
use Rattle.aig_shell.proofs.reached.Checking.{broken_added}
use Rattle.aig_shell.proofs.session.Session.push_broken.Goals as goal

pub returns : goal.returns
returns c =
    on_ok_weaker c.push_pieces.result (λ more.
    broken_added c.args.self.now.run.bench.pair.circuit c.circuit.result.now c.args.broken c.args.text.now.items
    c.push_first_name.new.text.items c.push_pieces.new.text.items c.letter.result.now c.from.result c.circuit.ensures
    c.letter.ensures c.from.ensures c.in_ok-push_first_name.ensures more)
    c.push_pieces.ensures

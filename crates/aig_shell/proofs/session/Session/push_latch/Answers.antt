use Rattle.std.proofs.Common.{refl}
use Rattle.std.proofs.lemmas.Result.{on_ok_weaker}
use Rattle.aig_base.proofs.lists.Items.{item_at}
use Rattle.aig_shell.proofs.words.Definitions.{latch_line}
use Rattle.aig_shell.proofs.session.Session.push_latch.Goals as goal

pub returns : goal.returns
returns c =
    let latches = c.args.self.now.run.latches.items in
    let latch = c.index-latch.result.now in
    on_ok_weaker c.push_latch.result (λ added.
    latch_line c.args.self.now.run.bench.pair.circuit c.circuit.result.now latches c.args.name.now c.args.literal
    c.args.text.now.items c.push_latch.new.text.items c.circuit.ensures c.args.position latch c.push_head.new.text.items
    (item_at latches latches c.args.position latch refl c.requires c.index-latch.ensures) c.in_ok-push_head.ensures added)
    c.push_latch.ensures

use Rattle.std.proofs.Common.{ℕ, Some, refl, sym, ap, subst, ◌∙◌}
use Rattle.std.specs.Global.{Vec}
use Rattle.aig_base.specs.Value.{start_of}
use Rattle.aig_sim.specs.Dump.{IsDump}
use Rattle.aig_shell.specs.Session.{own_circuit}
use Rattle.aig_shell.proofs.saved.Dumps.{dump_with, dumped}
use Rattle.aig_shell.proofs.saved.Saved.{own_resets}
use Rattle.aig_shell.proofs.session.Session.wave_text.Goals as goal

pub returns-in-Ok : goal.returns-in-Ok
returns-in-Ok c =
    let raw = c.args.self.now.run.bench.pair.circuit in
    let rows = c.args.self.now.run.bench.pair.rows in
    dump_with raw (own_circuit c.args.self.now) (own_resets c.args.self.now) (start_of raw) rows c.into_bytes.result.items
    (subst (λ (text : Vec ℕ). IsDump raw (start_of raw) rows text.items) (sym c.into_bytes.ensures)
    (dumped raw rows c.in_ok-rows.rows.items c.dump.new.reader c.dump.new.out.bytes.items _ _ _ c.in-Ok._frames
    (rw c.circuit.ensures at c.in-Ok.ensures.dumped) c.in_ok-rows.ensures (ap Some (c.new-reader.ensures ∙ c.as_slice.ensures.value)) refl
    (ap Some c.new-out.ensures)))

use Rattle.std.proofs.Common.{List, ℕ, [], sym, subst}
use Rattle.aig_base.specs.Value.{start_of}
use Rattle.aig_sim.specs.Dump.{IsDump}
use Rattle.aig_shell.specs.Request as request
use Rattle.aig_shell.specs.Session.{own_circuit}
use Rattle.aig_shell.proofs.saved.Saved.{one_file_ends, wave_saved}
use Rattle.aig_shell.proofs.session.Session.wave.Goals as goal

pub returns : goal.returns
returns g c = record {
  files = one_file_ends c.args.self.now (request.wave c.args.name.now) [] (g.K.Keep.calls c.args.files.now)
      (g.K.Keep.calls c.keep.new.files) c.keep.result (record { name = c.args.name.now; text = c.as_slice.result.now })
      (wave_saved c.args.self.now c.args.name.now c.as_slice.result.now
      (subst (λ (bytes : List ℕ). IsDump (own_circuit c.args.self.now) (start_of c.args.self.now.run.bench.pair.circuit)
      c.args.self.now.run.bench.pair.rows bytes) (sym c.as_slice.ensures.value) c.in_ok-text.ensures))
      c.keep.ensures.calls c.keep.ensures.refused;
}

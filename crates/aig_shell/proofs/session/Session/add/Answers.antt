use Rattle.std.proofs.Common.{length, ap, refl, ◌∙◌}
use Rattle.std.specs.Prelude.{option_map}
use Rattle.aig_bench.specs.BenchState.{BenchState}
use Rattle.aig_shell.proofs.editing.Impossible.{no_add, no_room}
use Rattle.aig_shell.proofs.editing.Sessions.{fits_either}
use Rattle.aig_shell.proofs.session.Session.add.Goals as goal

pub returns-then-not-fits-clause-edits : goal.returns-then-not-fits-clause-edits
returns-then-not-fits-clause-edits c = (
  λ other. no_add c.args.self.now.run.bench.pair (option_map (λ w. w.now) c.args.count) c.in_ok-count.count c.in_ok-count.ensures.ok c.in_ok-count.ensures.some
      (no_room c.args.self.now.run.bench.pair.circuit _ (length c.args.self.now.run.bench.pair.rows) c.frames.result c.in_ok-count.count c.fits.result c.circuit.ensures
      (c.frames.ensures ∙ ap (λ (b : BenchState). length b.pair.rows) c.bench.ensures) c.if-not-fits.true c.fits.ensures),
  refl,
)

pub invariant_of-self : goal.invariant_of-self
invariant_of-self c =
    let fits = fits_either c.args.self.now _ c.add_frames.result _ c.add_frames.ensures.done c.add_frames.ensures.kept in
    record { has_signals = fits.signals; has_latches = fits.latches; has_property = fits.property }

use Rattle.std.proofs.Common.{length, sym, ap, ◌∙◌, subst}
use Rattle.std.proofs.lemmas.Bool.{false≢true}
use Rattle.aig_parts.specs.declared.raw.Raw.{Raw}
use Rattle.aig_base.specs.Readers.{AreReaders}
use Rattle.aig_sim.specs.Verdict.{IsVerdict}
use Rattle.aig_sim.specs.WitnessText.{Witness}
use Rattle.aig_sim.specs.declared.witness.verdict.Verdict.{Verdict}
use Rattle.aig_sim.specs.declared.witness.verdict.Verdict.TheVariants.{Confirmed}
use Rattle.aig_bench.specs.BenchState.{CircuitAndRows}
use Rattle.aig_reduce.specs.state.Reducing.{Reducing}
use Rattle.aig_reduce.proofs.NeededTries.{knows_begun}
use Rattle.aig_reduce.proofs.Runs.{ok_is_no_error, reduction_begins, within_limit}
use Rattle.aig_reduce.proofs.reduction.reduce_witness.Goals as goal

pub returns-then-not-is_confirmed-clause-reduced : goal.returns-then-not-is_confirmed-clause-reduced
returns-then-not-is_confirmed-clause-reduced c =
    let w = c.in_ok-verdict.field-0.witness in
    let given : Witness = record { property = w.property; start = w.start.items; rows = w.rows.rows } in
    let read = c.in_ok-verdict.ensures in (
      given,
      record {
        text_is = read.spelled;
        admitted = read.admitted;
        cells = within_limit c.args.circuit c.start_at.new.circuit w.rows.width (length w.rows.rows) c.start_at.ensures.resets read.width
            (λ k. ok_is_no_error _ _ (c.in_ok-bench.ensures.limit.1 k));
      },
      (λ e. false≢true (sym c.if-not-is_confirmed.true ∙ c.is_confirmed.ensures.1 e), read.verdict),
    )

pub try_all-requires : goal.try_all-requires
try_all-requires c =
    let w = c.in_ok-verdict.field-0.witness in
    let given : Witness = record { property = w.property; start = w.start.items; rows = w.rows.rows } in
    let read = c.in_ok-verdict.ensures in
    let pair = c.in_ok-bench.bench.pair in
    let readers : AreReaders pair.circuit c.in_ok-readers.readers =
    subst (λ (r : Raw). AreReaders r c.in_ok-readers.readers) c.circuit.ensures c.in_ok-readers.ensures in
    let begins : Reducing c.args.circuit given pair given.property given.start 0 0 =
    reduction_begins c.args.circuit c.start_at.new.circuit c.args.text.now given pair read.circuit read.spelled read.admitted
    (subst (λ (v : Verdict). IsVerdict c.args.circuit given v) (c.is_confirmed.ensures.0 c.if-not-is_confirmed.false)
    read.verdict) c.start_at.ensures.resets (c.start_at.ensures.start ∙ c.deref.ensures.value) c.in_ok-bench.ensures.made in (
      c.args.circuit,
      given,
      knows_begun c.args.circuit given pair begins (ap (λ (p : CircuitAndRows). p.rows) c.in_ok-bench.ensures.made) _
          read.latches readers c.in_ok-needed.ensures.starts c.in_ok-needed.ensures.inputs c.in_ok-needed.ensures.cells,
      begins,
    )

pub returns-clause-reduced : goal.returns-clause-reduced
returns-clause-reduced c =
    let w = c.in_ok-verdict.field-0.witness in
    let given : Witness = record { property = w.property; start = w.start.items; rows = w.rows.rows } in
    let read = c.in_ok-verdict.ensures in
    let pair = c.in_ok-bench.bench.pair in
    let readers : AreReaders pair.circuit c.in_ok-readers.readers =
    subst (λ (r : Raw). AreReaders r c.in_ok-readers.readers) c.circuit.ensures c.in_ok-readers.ensures in
    let confirmed : IsVerdict c.args.circuit given Confirmed =
    subst (λ (v : Verdict). IsVerdict c.args.circuit given v) (c.is_confirmed.ensures.0 c.if-not-is_confirmed.false) read.verdict in
    let begins : Reducing c.args.circuit given pair given.property given.start 0 0 =
    reduction_begins c.args.circuit c.start_at.new.circuit c.args.text.now given pair read.circuit read.spelled read.admitted
    confirmed c.start_at.ensures.resets (c.start_at.ensures.start ∙ c.deref.ensures.value) c.in_ok-bench.ensures.made in (
      given,
      record {
        text_is = read.spelled;
        admitted = read.admitted;
        cells = within_limit c.args.circuit c.start_at.new.circuit w.rows.width (length w.rows.rows) c.start_at.ensures.resets read.width
            (λ k. ok_is_no_error _ _ (c.in_ok-bench.ensures.limit.1 k));
      },
      (
        confirmed,
        c.try_all.ensures c.args.circuit given
            (knows_begun c.args.circuit given pair begins (ap (λ (p : CircuitAndRows). p.rows) c.in_ok-bench.ensures.made) _
            read.latches readers c.in_ok-needed.ensures.starts c.in_ok-needed.ensures.inputs
            c.in_ok-needed.ensures.cells) begins,
      ),
    )

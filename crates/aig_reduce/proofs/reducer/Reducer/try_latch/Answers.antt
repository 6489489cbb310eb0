use Rattle.std.proofs.Common.{refl, sym, ◌∙◌, arith}
use Rattle.std.proofs.lemmas.Bool.{false≢true}
use Rattle.std.proofs.lemmas.Option.{slice_get_within}
use Rattle.aig_reduce.proofs.Tries.{reducing_more, reducing_skips}
use Rattle.aig_reduce.proofs.reducer.Reducer.try_latch.Goals as goal

pub try_start-requires-clause-position : goal.try_start-requires-clause-position
try_start-requires-clause-position c =
    let (raw, given, at, h) = c.requires in
    let within = slice_get_within raw.latches c.args.position c.args.latch.now at in
    omega (arith, within, h.runs.confirmed.latches)

pub try_start-requires-clause-runs : goal.try_start-requires-clause-runs
try_start-requires-clause-runs c =
    let (raw, given, at, h) = c.requires in
    (raw, c.args.latch.now, h.runs, at, refl, c.is_uninitialised.ensures.0 c.if-is_uninitialised.true)

pub returns-then-is_uninitialised : goal.returns-then-is_uninitialised
returns-then-is_uninitialised c = λ raw given at h.
    let old = c.args.self.now in
    let new = c.try_start.new.self in
    let within = slice_get_within raw.latches c.args.position c.args.latch.now at in
    reducing_more raw given old.bench.pair old.property old.start.items new.bench.pair new.property new.start.items 0 c.args.position
    (omega arith) (omega (arith, within, h.runs.confirmed.latches)) h
    (c.try_start.ensures raw c.args.latch.now h.runs at refl (c.is_uninitialised.ensures.0 c.if-is_uninitialised.true))

pub returns-else-is_uninitialised : goal.returns-else-is_uninitialised
returns-else-is_uninitialised c = λ raw given at h.
    let old = c.args.self.now in
    let within = slice_get_within raw.latches c.args.position c.args.latch.now at in
    reducing_skips raw given old.bench.pair old.property old.start.items c.args.position c.args.latch.now
    (omega (arith, within, h.runs.confirmed.latches)) at
    (λ over. false≢true (sym c.if-is_uninitialised.false ∙ c.is_uninitialised.ensures.1 over)) h

use Rattle.std.proofs.Common.{ℕ, ◌-◌, ◌∷◌, length, sym, ap, ◌∙◌, subst, arith}
use Rattle.aig_reduce.specs.state.Looks.{ReachesFrom}
use Rattle.aig_reduce.proofs.RunLemmas.{last_within}
use Rattle.aig_reduce.proofs.Clearings.{clearing_begins, clearing_confirmed, reducing_named, taken_back, undoes_nothing}
use Rattle.aig_reduce.proofs.reducer.Reducer.try_range.Goals as goal

pub clear-reached-requires : goal.clear-reached-requires
clear-reached-requires c =
    let (raw, given, e, h) = c.requires.reducing in
    let old = c.args.self.now in
    record {
      clearing = (
        raw,
        given,
        c.args.from.list - 1,
        e,
        clearing_begins raw given old.property old.bench.pair old.start.items c.args.from.list c.args.from.position h,
      );
    }

pub reaches_from-requires-clause-rows : goal.reaches_from-requires-clause-rows
reaches_from-requires-clause-rows c =
    let (raw, given, e, h) = c.requires.reducing in
    let old = c.args.self.now in
    let new = c.clear-reached.new.self in
    let k = c.clear-reached.ensures.clearing raw given (c.args.from.list - 1) e
    (clearing_begins raw given old.property old.bench.pair old.start.items c.args.from.list c.args.from.position h) in
    omega (arith, last_within new.bench.pair.rows k.run.some)

pub reaches_from-requires-clause-property : goal.reaches_from-requires-clause-property
reaches_from-requires-clause-property c =
    let (raw, given, e, h) = c.requires.reducing in
    let old = c.args.self.now in
    let k = c.clear-reached.ensures.clearing raw given (c.args.from.list - 1) e
    (clearing_begins raw given old.property old.bench.pair old.start.items c.args.from.list c.args.from.position h) in
    omega (arith, k.run.property, ap length k.runs.resets.bad)

pub returns-then-reaches_from-clause-reducing : goal.returns-then-reaches_from-clause-reducing
returns-then-reaches_from-clause-reducing c = λ raw given e h.
    let old = c.args.self.now in
    let new = c.clear-reached.new.self in
    let first = c.args.from.list - 1 in
    let k = c.clear-reached.ensures.clearing raw given first e
    (clearing_begins raw given old.property old.bench.pair old.start.items c.args.from.list c.args.from.position h) in
    clearing_confirmed raw given new.property new.bench.pair new.start.items first _ _ k
    (subst (λ (n : ℕ). ReachesFrom new.bench.pair new.property n) c.frame_of.ensures
    (c.reaches_from.ensures.0 c.if-reaches_from.true))

pub take_back-requires : goal.take_back-requires
take_back-requires c =
    let (raw, given, e, h) = c.requires.reducing in
    let old = c.args.self.now in
    let first = c.args.from.list - 1 in
    let begins = clearing_begins raw given old.property old.bench.pair old.start.items c.args.from.list c.args.from.position h in
    let was = old.start.items ∷ old.bench.pair.rows in
    let k = c.clear-reached.ensures.clearing raw given first e begins in (
      raw,
      was,
      c.deref.ensures.value ∙ e.latches,
      k.runs,
      c.clear-reached.ensures.undoes raw given first was e begins
          (undoes_nothing c.clear.new.self.items was c.clear.ensures.items),
    )

pub returns-clause-reducing : goal.returns-clause-reducing
returns-clause-reducing c = λ raw given e h.
    let old = c.args.self.now in
    let new = c.take_back.new.self in
    let t = c.args.from.list in
    let p = c.args.from.position in
    let begins = clearing_begins raw given old.property old.bench.pair old.start.items t p h in
    let was = old.start.items ∷ old.bench.pair.rows in
    let k = c.clear-reached.ensures.clearing raw given (t - 1) e begins in
    let (runs, same) = c.take_back.ensures.runs raw was (c.deref.ensures.value ∙ e.latches) k.runs
    (c.clear-reached.ensures.undoes raw given (t - 1) was e begins (undoes_nothing c.clear.new.self.items was c.clear.ensures.items)) in
    reducing_named raw given new.bench.pair new.property old.property new.start.items t p
    (c.take_back.ensures.property ∙ k.property_is ∙ sym h.property_is)
    (taken_back raw given old.property old.bench.pair old.start.items t p h new.bench.pair new.start.items runs same)

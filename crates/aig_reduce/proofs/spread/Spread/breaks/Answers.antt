use Rattle.std.proofs.Common.{◌≡◌, ◌-◌, ℕ, suc, subst, sym, arith}
use Rattle.aig_reduce.specs.state.Needed.{Breaks}
use Rattle.aig_reduce.proofs.spread.Spread.breaks.Goals as goal

pub returns-then-place-eq0 : goal.returns-then-place-eq0
returns-then-place-eq0 g c = λ yes.
    let first : c.args.place.list ≡ 0 = omega (arith, c.if-place-eq0.true) in
    subst (λ (m : ℕ). Breaks c.args.bench.now.pair c.args.known.now.needed.cells.rows m c.args.place.position) (sym first)
    (c.start_breaks.ensures yes)

pub returns : goal.returns
returns g c = λ yes.
    let i = c.args.place.position in
    let t = c.args.place.list - 1 in
    let (v, w, n, at, follows) = c.reaches_needed.ensures yes in
    let same : suc t ≡ c.args.place.list = omega (arith, c.if-place-eq0.false) in
    subst (λ (m : ℕ). Breaks c.args.bench.now.pair c.args.known.now.needed.cells.rows m i) same (
      t,
      v,
      w,
      n,
      at,
      λ property. follows property (suc t) i (c.input_at-source.ensures property t),
    )

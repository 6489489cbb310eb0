use Rattle.std.proofs.Common.{◌≡◌, inl, inr, suc, Contains, sym, subst, arith}
use Rattle.aig_base.specs.state.Marks.{IsMarked}
use Rattle.aig_base.specs.Sound.{IsSound}
use Rattle.aig_values.specs.InputRows.{row_at}
use Rattle.aig_bench.specs.BenchState.{CircuitAndRows}
use Rattle.aig_bench.specs.state.Engine.{EngineState, IsClear}
use Rattle.aig_bench.specs.state.Sweep.{PassEnds, PassStarts}
use Rattle.aig_bench.specs.state.Passing.{IsConsistent}
use Rattle.aig_bench.proofs.carries.Carrying.{started}
use Rattle.aig_bench.proofs.renewals.Engines.{row_then}
use Rattle.aig_bench.proofs.passes.PassLemmas.{marked_or_not}
use Rattle.aig_bench.proofs.engine.Engine.pass.Goals as goal

pub returns-clause-passes : goal.returns-clause-passes
returns-clause-passes g c =
    let s = c.args.self.now in
    let mid = c.carry.new.self in
    let new = c.settle.new.self in
    let t = c.args.frame in
    let first = c.carry.ensures in
    let last = c.settle.ensures.settles in
    let same : mid.pair ≡ s.pair = first.row.pair in
    let sound = subst (λ (x : EngineState). IsSound x.pair.circuit) c.self.view_is c.self.invariant.work.driven_is.circuit.sound in
    record {
      row = row_then t s mid new 0 c.settle.result.evaluated c.settle.result.evaluated first.row last.row (omega arith);
      none = subst IsClear (sym last.here) first.none;
      few = last.few;
      ends = λ forced old put fits entering rest latches.
          subst (λ (p : CircuitAndRows). PassEnds p t (Contains forced) old (row_at new.cells t) new.queued c.settle.result.evaluated c.settle.result.changed) same
          (last.ends forced old (subst (λ (p : CircuitAndRows). IsConsistent p (Contains forced) old) (sym same) fits)
          (subst (λ (p : CircuitAndRows). PassStarts p t (Contains forced) old (row_at mid.cells t) mid.queued) (sym same)
          (started s.pair t sound (λ i. IsMarked s.here (suc i)) forced old (row_at s.cells t) (row_at mid.cells t) s.queued mid.queued put
          (λ i x at. elim (marked_or_not s.here (suc i)) [ inl m ↦ inl m | inr out ↦ inr (latches i x at out) ])
          first.carries entering rest)));
    }

use Rattle.std.proofs.Common.{map, sym, ap, ◌∙◌, arith}
use Rattle.std.proofs.lemmas.Bool.{not-true, not-false}
use Rattle.std.proofs.lemmas.Result.{on_ok_weaker}
use Rattle.aig_names.specs.Vectors.{next_name}
use Rattle.aig_names.specs.state.Naming.{named}
use Rattle.aig_names.proofs.Runs.{next_of_last, goes_on_at, ends_at, all_done}
use Rattle.aig_names.proofs.vectors.push_turned.Goals as goal
use Rattle.aig_names.proofs.vectors.push_turned.Goals.{then-ne+in_ok-push_run, else-ne}

pub loop-signal-preserved : goal.loop-signal-preserved
loop-signal-preserved c =
    let before = c.loop-signal.invariant in
    record {
      so_far = elim c.if-ne.branch [
        | then-ne+in_ok-push_run w ↦
            let e = not-true _ (sym c.ne.ensures ∙ w.if-ne.true) in
            ends_at c.loop-signal.signals.items c.if-ne.signals.items c.loop-signal.run.items c.if-ne.run.items c.push.new.self.items
            c.args.column.now c.loop-signal.signal-index _ c.loop-signal.next.items c.show.new.buffer.items
            c.loop-signal-test.true before.next c.in_ok-show.ensures
            (rw (c.as_slice.ensures.value, c.as_slice-in-loop-signal.ensures.value) at e)
            ((λ j. (w.signals-is j).items) ∙ w.in_ok-push_run.ensures.reversed)
            ((λ j. (w.run-is j).items) ∙ w.in_ok-push_run.ensures.empty)
            c.in_ok-push.ensures.items
            ∙ before.so_far
        | else-ne w ↦
            let e = not-false _ (sym c.ne.ensures ∙ w.if-ne.false) in
            goes_on_at c.loop-signal.signals.items c.if-ne.signals.items c.loop-signal.run.items c.if-ne.run.items c.push.new.self.items
            c.args.column.now c.loop-signal.signal-index _ c.loop-signal.next.items c.show.new.buffer.items
            c.loop-signal-test.true before.next c.in_ok-show.ensures
            (rw (c.as_slice.ensures.value, c.as_slice-in-loop-signal.ensures.value) at e)
            (λ j. (w.signals-is j).items)
            (λ j. (w.run-is j).items)
            c.in_ok-push.ensures.items
            ∙ before.so_far
      ];
      next = next_of_last c.if-ne.run.items c.push.new.self.items _ c.show_next.new.next.items c.show.new.buffer.items
          (c.in_ok-show_next.ensures ∙ ap next_name c.deref.ensures.value) c.in_ok-show.ensures c.in_ok-push.ensures.items;
    }

pub returns : goal.returns
returns c =
    on_ok_weaker c.push_run-2.result
    (λ e. ap (map named) e
    ∙ all_done c.loop-signal.signals.items c.loop-signal.run.items c.args.column.now c.loop-signal.signal-index (omega arith)
    ∙ c.loop-signal.invariant.so_far) c.push_run-2.ensures.reversed

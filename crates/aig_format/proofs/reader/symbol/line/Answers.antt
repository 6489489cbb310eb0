use Rattle.std.proofs.Common.{◌∙◌, ◌≢◌, ℕ, sym, take, refl, arith}
use Rattle.std.proofs.lemmas.List.Elements.{All-append}
use Rattle.aig_format.proofs.Keeping.{keeps_step, keeps_reads}
use Rattle.aig_format.proofs.NameSteps.{line_on, line_ends, line_cut}
use Rattle.aig_format.proofs.reader.symbol.line.Goals as goal

pub returns-then-count-size-clause-reads : goal.returns-then-count-size-clause-reads
returns-then-count-size-clause-reads g c =
    let count = c.line_length-count in
    let skip = c.skip.ensures in
    let peek = c.in_ok-peek.ensures in
    let peeked = keeps_step c.loop-s.invariant.keeps peek.keeps.reported peek.keeps.reader peek.keeps.failures peek.keeps.never_more in
    keeps_reads (keeps_step peeked skip.reported skip.reader skip.failures (omega (arith, skip.more))) (λ n. refl) (λ reported. rw c.in_ok-extend_from_slice.ensures.items
    (line_ends c.loop-s.bytes.items (g.S.Source.left c.loop-s.s) (g.S.Source.left c.peek.new.self)
    (g.S.Source.left c.skip.new.self) c.front-front.result.now (g.S.Source.unread c.peek.new.self) count.result c.in_ok-peek.field-0
    _ (c.in_ok-peek.ensures.bytes (c.loop-s.invariant.keeps.reported reported))
    (rw c.front-front.ensures.buffered (c.front-front.ensures.left)) c.if-count-size.true (count.ensures.ended c.if-count-size.true)
    count.ensures.no_end skip.left (c.loop-s.invariant.bytes reported)))

pub loop-s-preserved : goal.loop-s-preserved
loop-s-preserved g c =
    let count = c.line_length-count in
    let old = c.loop-s.invariant in
    let skip = c.skip-in-loop-s in
    record {
      bytes = λ reported.
          rw c.in_ok-extend_from_slice.ensures.items
          (line_on c.loop-s.bytes.items (g.S.Source.left c.loop-s.s) (g.S.Source.left c.peek.new.self)
          (g.S.Source.left skip.new.self) c.front-front.result.now (g.S.Source.unread c.peek.new.self) count.result
          c.in_ok-peek.field-0 _ (c.in_ok-peek.ensures.bytes (old.keeps.reported reported))
          (rw c.front-front.ensures.buffered (c.front-front.ensures.left)) count.ensures.bound c.if-count-size.false
          count.ensures.no_end skip.ensures.left (old.bytes reported));
      no_end = rw c.in_ok-extend_from_slice.ensures.items
          (All-append (λ (b : ℕ). b ≢ 10) c.loop-s.bytes.items (take count.result c.front-front.result.now) old.no_end count.ensures.no_end);
      keeps =
          let e = c.in_ok-peek.ensures in
          let peeked = keeps_step old.keeps e.keeps.reported e.keeps.reader e.keeps.failures e.keeps.never_more in
          keeps_step peeked skip.ensures.reported skip.ensures.reader skip.ensures.failures (omega (arith, skip.ensures.more));
    }

pub returns-clause-reads : goal.returns-clause-reads
returns-clause-reads g c =
    let e = c.in_ok-peek.ensures in
    keeps_reads (keeps_step c.loop-s.invariant.keeps e.keeps.reported e.keeps.reader e.keeps.failures e.keeps.never_more) (λ n. refl) (λ reported.
    line_cut c.loop-s.bytes.items (g.S.Source.left c.loop-s.s) (g.S.Source.left c.peek.new.self) c.in_ok-peek.field-0
    _ (c.in_ok-peek.ensures.bytes (c.loop-s.invariant.keeps.reported reported))
    (sym c.is_some.ensures ∙ c.if-is_some.false) (c.loop-s.invariant.bytes reported))
